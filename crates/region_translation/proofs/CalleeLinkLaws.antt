-- The equations of a dummy hold the other way round where they hold from the callee to the caller.
use Rattle.std.proofs.Common.{◌≡◌, ℕ, suc, ◌+◌, ◌-◌, ◌<◌, ◌≤◌, List, [], ◌∷◌, ◌++◌, ◌&&◌, ◌||◌, Bool, true, false, refl, sym, ap, ◌∙◌, subst, arith, ℤ, nat_lt, Some}
use Rattle.std.specs.Prelude.{if◌then◌else◌, nat_le, not}
use Rattle.std.proofs.lemmas.Bool.{and_parts}
use Rattle.std.proofs.lemmas.Bool.Decides.{nat_tests}
use Rattle.affine_systems.specs.declared.row.Var.{Var}
use Rattle.affine_systems.specs.declared.row.Var.TheVariants.{Cell, Exit, Phi, Aux}
use Rattle.affine_systems.specs.declared.row.Term.{Term}
use Rattle.affine_systems.specs.declared.row.Row.{Row}
use Rattle.affine_systems.specs.Terms.{var_eq}
use Rattle.affine_systems.specs.Rows.{renamed_row}
use Rattle.affine_systems.specs.Points.{Point, Meets, Holds, HoldsAll}
use Rattle.affine_systems.specs.Normal.{Normal, Kept, Always, Never, TooBig, normal}
use Rattle.affine_systems.proofs.NormalLaws.{Agrees, normal_agrees}
use Rattle.affine_systems.proofs.CallLaws.{append_all, value-renamed}
use Rattle.affine_systems.proofs.TermLaws.{var_eq-true}
use Rattle.call_translation.specs.transformer_algebra.Renaming.{renamed_by}
use Rattle.f77_ast.specs.declared.variable.Variable.{Variable}
use Rattle.call_translation.specs.transformer_algebra.Claims.{Scene}
use Rattle.region_sets.specs.Naming.{in_terms, in_rows}
use Rattle.region_sets.specs.Claims.{Elements, HasSubscripts}
use Rattle.region_sets.proofs.NameLaws.{terms_agree, rows_agree}
use Rattle.call_equations.specs.declared.link.Link.{Link}
use Rattle.call_equations.specs.Cells.{cell_name}
use Rattle.region_translation.specs.Pieces.{standing, is_own}
use Rattle.region_translation.specs.Claims.{Matches, HasInner}
use Rattle.region_translation.proofs.NamingLaws.{behind, back_again}
use Rattle.region_translation.specs.Names.{callee_name, turned_name, turned_names, turned_row, turned_normal, turned_rows}
use Rattle.region_translation.specs.Links.{link, same_link}
use Rattle.region_translation.specs.CalleeClaims.{MatchesBoth, HasOuter, HasUnit, LinkHolds}
use Rattle.region_translation.specs.CalleeLaws.{SameLinkHolds, is_of_both, AreTold, DummyLinkHolds}
use Rattle.fx_lists.proofs.Booleans.{clash as clashes}

pub same_link_holds : SameLinkHolds
same_link_holds m e q x y outer inner f v = record {
  to = λ phi u h w. phi;
  there = λ phi u h w. f phi u h;
  stays = λ k phi u h w i. refl;
  holds = λ phi u h w p a b d. tt;
}

-- ---- rows by other names

pub names_are : (r q : ℕ) (v : Var) (ts : List Term) → in_terms v ts ≡ true → renamed_by (turned_names r q ts) v ≡ turned_name r q v
names_are r q v [] e = clashes false e refl
names_are r q v (t ∷ ts) e = go (var_eq v t.var) refl e (λ i. names_are r q v ts i)
  where
    go : (b : Bool) → var_eq v t.var ≡ b → (b || in_terms v ts) ≡ true → (in_terms v ts ≡ true → renamed_by (turned_names r q ts) v ≡ turned_name r q v) → (if b then turned_name r q t.var else renamed_by (turned_names r q ts) v) ≡ turned_name r q v
    go true k i ih = ap (turned_name r q) (sym (var_eq-true v t.var k))
    go false k i ih = ih i

pub turned_row_holds : (r q : ℕ) (p : Point) (a : Row) → Holds (λ v. p (turned_name r q v)) a → Holds p (turned_row r q a)
turned_row_holds r q p a h =
    let f = renamed_by (turned_names r q a.terms) in
    let same = value-renamed p f a.terms ∙ terms_agree a.terms (λ v. p (f v)) (λ v. p (turned_name r q v)) (λ v i. ap p (names_are r q v a.terms i)) in
    subst (λ (z : ℤ). Meets a.equal z a.bound) (sym same) h

pub turned_rows_hold : (r q : ℕ) (p : Point) (rs : List Row) → HoldsAll (λ v. p (turned_name r q v)) rs → HoldsAll p (turned_rows r q rs)
turned_rows_hold r q p [] h = tt
turned_rows_hold r q p (a ∷ rs) h = (append_all p (turned_normal r q (normal false a)) (turned_rows r q rs)).0 (go (normal false a) (normal_agrees (λ v. p (turned_name r q v)) false a), turned_rows_hold r q p rs h.1)
  where
    go : (n : Normal) → Agrees (λ v. p (turned_name r q v)) (Holds (λ v. p (turned_name r q v)) a) n → HoldsAll p (turned_normal r q n)
    go (Kept b) g = (turned_row_holds r q p b (g.0 h.0), tt)
    go Always g = tt
    go Never g = absurd (g h.0)
    go TooBig g = tt

-- ---- a dummy

module _ (m e : Scene) (q r : ℕ) (x y psi chi : ℕ → ℤ) (p : Point) where
  -- with the names of the equations from the callee to the caller
  abbrev pub outward_point : Var → ℤ
  outward_point (Cell n) = x (m.unit n)
  outward_point (Exit n) = p (Exit n)
  outward_point (Phi n) = chi n
  outward_point (Aux n) = if nat_lt r n then y (e.unit ((n - r) - 1)) else psi n

  pub at_cell : (n : ℕ) → outward_point (cell_name r n) ≡ y (e.unit n)
  at_cell n = ap (λ (b : Bool). if b then y (e.unit (((suc r + n) - r) - 1)) else psi (suc r + n)) (behind r n) ∙ ap (λ k. y (e.unit k)) (back_again r n)

  not_behind : (k : ℕ) → nat_le k r ≡ true → nat_lt r k ≡ false
  not_behind k h = let g : k ≤ r = grind (arith, nat_tests) in grind (arith, nat_tests)

  pub is_behind : (k : ℕ) → nat_le k r ≡ false → nat_lt r k ≡ true
  is_behind k h = let g : r < k = grind (arith, nat_tests) in grind (arith, nat_tests)

  pub at_subscript : (k : ℕ) → nat_le k r ≡ true → outward_point (Aux k) ≡ psi k
  at_subscript k h = ap (λ (b : Bool). if b then y (e.unit ((k - r) - 1)) else psi k) (not_behind k h)

  reads : MatchesBoth m e q x y p → HasSubscripts psi p → ((k : ℕ) → 0 < k → k ≤ q → p (Aux k) ≡ chi k) → (v : Var) → is_of_both q v ≡ true → outward_point v ≡ p (turned_name r q v)
  reads both inner outer (Cell n) o = sym (both.outside n)
  reads both inner outer (Exit n) o = clashes false o refl
  reads both inner outer (Phi k) o = let parts = and_parts (nat_lt 0 k) (nat_le k q) o in sym (outer k (positive parts.0) (at_most parts.1))
    where
      positive : nat_lt 0 k ≡ true → 0 < k
      positive h = grind (arith, nat_tests)

      at_most : nat_le k q ≡ true → k ≤ q
      at_most h = grind (arith, nat_tests)
  reads both inner outer (Aux n) o = go (nat_le n r) refl
    where
      go : (b : Bool) → nat_le n r ≡ b → outward_point (Aux n) ≡ p (if b then Phi n else Cell ((n - r) - 1))
      go true g = at_subscript n g ∙ sym (inner n)
      go false g = ap (λ (b : Bool). if b then y (e.unit ((n - r) - 1)) else psi n) (is_behind n g) ∙ sym (both.inside ((n - r) - 1))

pub dummy_link_holds : DummyLinkHolds
dummy_link_holds m e q x y outer inner l lh moves named told v = record {
  to = λ phi u h w. w.subscripts;
  there = λ phi u h w. w.there;
  stays = λ k phi u h w i. clashes true refl k;
  holds = λ phi u h w p both hs ho. holds phi u h w p both hs ho;
}
  where
    holds : (phi : ℕ → ℤ) (u : ℕ) → outer phi ≡ Some u → (w : HasUnit inner u) (p : Point) → MatchesBoth m e q x y p → HasSubscripts w.subscripts p → HasOuter (link v true (turned_rows l.rank q l.rows)) q phi p → HoldsAll p (turned_rows l.rank q l.rows)
    holds phi u h w p both hs ho =
        let psi = w.subscripts in
        let chi = lh.to psi u w.there in
        let z = outward_point m e q l.rank x y psi chi p in
        let one : Matches m e l.rank x y z = record { outside = λ n t. refl; inside = λ n. at_cell m e q l.rank x y psi chi p n } in
        let rows = lh.holds psi u w.there z one (λ k. refl) (own psi chi p) in
        turned_rows_hold l.rank q p l.rows
        (rows_agree l.rows z (λ t. p (turned_name l.rank q t)) (λ t i. reads m e q l.rank x y psi chi p both hs (λ k a b. ho k (is_own_one k a b) ∙ told phi chi u h (lh.there psi u w.there) k a b) t (named t i)) rows)
      where
        is_own_one : (k : ℕ) → 0 < k → k ≤ q → (nat_lt 0 k && nat_le k q) ≡ true
        is_own_one k a b = both_true (nat_lt 0 k) (nat_le k q) (lower k a) (upper k b)
          where
            lower : (k : ℕ) → 0 < k → nat_lt 0 k ≡ true
            lower k a = grind (arith, nat_tests)

            upper : (k : ℕ) → k ≤ q → nat_le k q ≡ true
            upper k b = grind (arith, nat_tests)

            both_true : (a b : Bool) → a ≡ true → b ≡ true → (a && b) ≡ true
            both_true true b f g = g
            both_true false b f g = f

        own : (psi chi : ℕ → ℤ) (p : Point) → HasInner l psi (outward_point m e q l.rank x y psi chi p)
        own psi chi p k = go l.moved moves
          where
            go : (b : Bool) → b ≡ true → is_own b l.rank (Phi k) ≡ true → outward_point m e q l.rank x y psi chi p (standing b l.rank (Phi k)) ≡ psi k
            go true f o = at_subscript m e q l.rank x y psi chi p k (and_parts (nat_lt 0 k) (nat_le k l.rank) o).1
            go false f o = clashes false f refl
