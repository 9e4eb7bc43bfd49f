-- The equations of a dummy hold the other way round where they hold from the callee to the caller, also where they name variables of other moments.
use Rattle.std.proofs.Common.{◌≡◌, ℕ, suc, ◌+◌, ◌-◌, ◌<◌, ◌≤◌, ◌&&◌, Bool, true, false, refl, sym, ap, ◌∙◌, subst, arith, ℤ, nat_lt, Some}
use Rattle.std.specs.Prelude.{if◌then◌else◌, nat_le}
use Rattle.std.proofs.lemmas.Bool.{and_parts}
use Rattle.std.proofs.lemmas.Bool.Decides.{nat_tests}
use Rattle.affine_systems.specs.declared.row.Var.{Var}
use Rattle.affine_systems.specs.declared.row.Var.TheVariants.{Cell, Exit, Phi, Aux}
use Rattle.affine_systems.specs.declared.row.Row.{Row}
use Rattle.affine_systems.specs.Points.{Point, Meets, Holds, HoldsAll}
use Rattle.affine_systems.specs.Normal.{Normal, Kept, Always, Never, TooBig, normal}
use Rattle.affine_systems.proofs.NormalLaws.{Agrees, normal_agrees}
use Rattle.affine_systems.proofs.CallLaws.{append_all, value-renamed}
use Rattle.f77_ast.specs.declared.variable.Variable.{Variable}
use Rattle.preconditions.specs.transformer_algebra.Claims.{Scene}
use Rattle.in_out_regions.specs.region_sets.Naming.{in_rows}
use Rattle.in_out_regions.specs.region_sets.Claims.{Elements, HasSubscripts}
use Rattle.in_out_regions.proofs.RegionSets.NameLaws.{terms_agree, rows_agree}
use Rattle.in_out_regions.specs.call_equations.declared.link.Link.{Link}
use Rattle.in_out_regions.specs.call_equations.Cells.{cell_name}
use Rattle.in_out_regions.specs.region_translation.Pieces.{standing, is_own}
use Rattle.in_out_regions.specs.region_translation.Claims.{Matches, HasInner}
use Rattle.in_out_regions.specs.region_translation.Claims as outward
use Rattle.in_out_regions.proofs.RegionTranslation.NamingLaws.{behind, back_again}
use Rattle.in_out_regions.specs.region_translation.Names.{turned_name, turned_row, turned_normal, turned_rows}
use Rattle.in_out_regions.specs.region_translation.Links.{link}
use Rattle.in_out_regions.specs.region_translation.CalleeClaims.{MatchesBoth, HasOuter, HasUnit, LinkHolds}
use Rattle.in_out_regions.specs.region_translation.CalleeLaws.{AreTold}
use Rattle.in_out_regions.proofs.RegionTranslation.CalleeLinkLaws.{turned_row_holds, turned_rows_hold, outward_point, at_cell, is_behind, at_subscript}
use Rattle.fx_lists.proofs.Booleans.{clash as clashes}

-- a subscript of the caller's variable is one of the first q
abbrev pub is_within : ℕ → Var → Bool
is_within q (Cell n) = true
is_within q (Exit n) = true
is_within q (Phi k) = nat_lt 0 k && nat_le k q
is_within q (Aux n) = true

-- ---- a dummy

module _ (m e : Scene) (q r : ℕ) (x y psi chi : ℕ → ℤ) (p : Point) where
  reads : MatchesBoth m e q x y p → HasSubscripts psi p → ((k : ℕ) → 0 < k → k ≤ q → p (Aux k) ≡ chi k) → (v : Var) → is_within q v ≡ true → outward_point m e q r x y psi chi p v ≡ p (turned_name r q v)
  reads both inner outer (Cell n) o = sym (both.outside n)
  reads both inner outer (Exit n) o = refl
  reads both inner outer (Phi k) o = let parts = and_parts (nat_lt 0 k) (nat_le k q) o in sym (outer k (positive parts.0) (at_most parts.1))
    where
      positive : nat_lt 0 k ≡ true → 0 < k
      positive h = grind (arith, nat_tests)

      at_most : nat_le k q ≡ true → k ≤ q
      at_most h = grind (arith, nat_tests)
  reads both inner outer (Aux n) o = go (nat_le n r) refl
    where
      go : (b : Bool) → nat_le n r ≡ b → outward_point m e q r x y psi chi p (Aux n) ≡ p (if b then Phi n else Cell ((n - r) - 1))
      go true g = at_subscript m e q r x y psi chi p n g ∙ sym (inner n)
      go false g = ap (λ (b : Bool). if b then y (e.unit ((n - r) - 1)) else psi n) (is_behind m e q r x y psi chi p n g) ∙ sym (both.inside ((n - r) - 1))

pub dummy_back_holds : (m e : Scene) (q : ℕ) (x y : ℕ → ℤ) (outer inner : Elements) (l : Link) → outward.LinkHolds m e x y outer inner l → l.moved ≡ true → ((v : Var) → in_rows v l.rows ≡ true → is_within q v ≡ true) → AreTold q outer → (v : Variable) →
    LinkHolds m e q x y outer inner (link v true (turned_rows l.rank q l.rows))
dummy_back_holds m e q x y outer inner l lh moves named told v = record {
  to = λ phi u h w. w.subscripts;
  there = λ phi u h w. w.there;
  stays = λ k phi u h w i. clashes true refl k;
  holds = λ phi u h w p both hs ho. holds phi u h w p both hs ho;
}
  where
    holds : (phi : ℕ → ℤ) (u : ℕ) → outer phi ≡ Some u → (w : HasUnit inner u) (p : Point) → MatchesBoth m e q x y p → HasSubscripts w.subscripts p → HasOuter (link v true (turned_rows l.rank q l.rows)) q phi p → HoldsAll p (turned_rows l.rank q l.rows)
    holds phi u h w p both hs ho =
        let psi = w.subscripts in
        let chi = lh.to psi u w.there in
        let z = outward_point m e q l.rank x y psi chi p in
        let one : Matches m e l.rank x y z = record { outside = λ n t. refl; inside = λ n. at_cell m e q l.rank x y psi chi p n } in
        let rows = lh.holds psi u w.there z one (λ k. refl) (own psi chi p) in
        turned_rows_hold l.rank q p l.rows
        (rows_agree l.rows z (λ t. p (turned_name l.rank q t)) (λ t i. reads m e q l.rank x y psi chi p both hs (λ k a b. ho k (is_own_one k a b) ∙ told phi chi u h (lh.there psi u w.there) k a b) t (named t i)) rows)
      where
        is_own_one : (k : ℕ) → 0 < k → k ≤ q → (nat_lt 0 k && nat_le k q) ≡ true
        is_own_one k a b = both_true (nat_lt 0 k) (nat_le k q) (lower k a) (upper k b)
          where
            lower : (k : ℕ) → 0 < k → nat_lt 0 k ≡ true
            lower k a = grind (arith, nat_tests)

            upper : (k : ℕ) → k ≤ q → nat_le k q ≡ true
            upper k b = grind (arith, nat_tests)

            both_true : (a b : Bool) → a ≡ true → b ≡ true → (a && b) ≡ true
            both_true true b f g = g
            both_true false b f g = f

        own : (psi chi : ℕ → ℤ) (p : Point) → HasInner l psi (outward_point m e q l.rank x y psi chi p)
        own psi chi p k = go l.moved moves
          where
            go : (b : Bool) → b ≡ true → is_own b l.rank (Phi k) ≡ true → outward_point m e q l.rank x y psi chi p (standing b l.rank (Phi k)) ≡ psi k
            go true f o = at_subscript m e q l.rank x y psi chi p k (and_parts (nat_lt 0 k) (nat_le k l.rank) o).1
            go false f o = clashes false f refl
