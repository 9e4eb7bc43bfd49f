-- The index of an iteration, and of those before it.
use Rattle.std.proofs.Common.{◌≡◌, ℕ, zero, suc, ◌+◌, ◌*◌, ◌<◌, List, [], ◌∷◌, ◌||◌, Bool, true, false, refl, sym, ap, ◌∙◌, subst, arith, ℤ, pos, negsuc, ◌+ℤ◌, ◌-ℤ◌, ◌*ℤ◌, ◌≤ℤ◌, nat_eq, Some}
use Rattle.std.specs.Prelude.{if◌then◌else◌, not}
use Rattle.std.proofs.lemmas.Int.{ints}
use Rattle.std.proofs.lemmas.Bool.{and_parts, not-true}
use Rattle.std.proofs.lemmas.Bool.Decides.{nat_tests}
use Rattle.affine_systems.specs.declared.row.Var.{Var}
use Rattle.affine_systems.specs.declared.row.Var.TheVariants.{Cell, Exit, Phi, Aux}
use Rattle.affine_systems.specs.declared.row.Term.{Term}
use Rattle.affine_systems.specs.Terms.{var_eq, number}
use Rattle.affine_systems.specs.Points.{Point, Holds, value}
use Rattle.affine_systems.specs.Tidy.{is_unit}
use Rattle.affine_systems.proofs.TermLaws.{var_eq-true, true-var_eq}
use Rattle.affine_systems.proofs.ElimLaws.{value-combined}
use Rattle.preconditions.specs.transformer_algebra.Renaming.{naming, renamed_by}
use Rattle.affine_forms.specs.declared.affine.Affine.{Affine}
use Rattle.affine_forms.specs.Claims.{form_value}
use Rattle.affine_forms.specs.Comparisons.{var_form, at_most_row, below_row}
use Rattle.affine_forms.proofs.RowLaws.{at_most_holds, below_holds}
use Rattle.preconditions.specs.transformer_algebra.Cells.{has}
use Rattle.preconditions.specs.transformer_algebra.Loops.{goes_up, terms_stay, within_row, beyond_row}
use Rattle.preconditions.specs.transformer_algebra.Claims.{Scene, AtStart, Means, NotBeyond}
use Rattle.preconditions.proofs.TransformerAlgebra.TurnLaws.{kept_chain}
use Rattle.in_out_regions.specs.region_sets.declared.range.Range.{Range}
use Rattle.in_out_regions.specs.region_sets.Naming.{in_terms}
use Rattle.in_out_regions.specs.region_sets.Claims.{Iteration, Begins}
use Rattle.in_out_regions.proofs.RegionSets.NameLaws.{terms_agree}
use Rattle.in_out_regions.proofs.RegionSets.LoopLaws.{within_holds as within_so, at_most_back, within_back, offset, Offset}
use Rattle.in_out_regions.proofs.ArrayRegions.Exact.{var_value}
use Rattle.laws_analyses.proofs.Regions.Conditions.{below_back}
use Rattle.fx_lists.proofs.Numbers.{same_is as nat_same, nat_eq_same}
use Rattle.fx_lists.proofs.Booleans.{clash as clashes}

-- ---- rows

-- strictly before, in the direction of the step
abbrev pub Before : Bool → ℤ → ℤ → Type 0
Before true a b = (a +ℤ pos 1) ≤ℤ b
Before false a b = (b +ℤ pos 1) ≤ℤ a

-- g comes before f
pub beyond_so : (s : ℤ) (f g : Affine) (p : Point) → Before (goes_up s) (form_value p g) (form_value p f) → Holds p (beyond_row s f g)
beyond_so s f g p h = go (goes_up s) h
  where
    go : (b : Bool) → Before b (form_value p g) (form_value p f) → Holds p (if b then below_row g f else below_row f g)
    go true k = below_holds g f p k
    go false k = below_holds f g p k

pub beyond_back : (s : ℤ) (f g : Affine) (p : Point) → Holds p (beyond_row s f g) → Before (goes_up s) (form_value p g) (form_value p f)
beyond_back s f g p h = go (goes_up s) h
  where
    go : (b : Bool) → Holds p (if b then below_row g f else below_row f g) → Before b (form_value p g) (form_value p f)
    go true k = below_back g f p k
    go false k = below_back f g p k

-- ---- steps of 1 or -1

-- a number from the first to one before the k-th is one of those before it
pub record Place (a s m : ℤ) (k : ℕ) : Type 0 where
  pub place : ℕ
  pub earlier : place < k
  pub is_it : m ≡ a +ℤ (s *ℤ pos place)

pub unit_place : (s a m n : ℤ) (k : ℕ) → is_unit s ≡ true → NotBeyond (goes_up s) a m → Before (goes_up s) m n → n ≡ a +ℤ (s *ℤ pos k) → Place a s m k
unit_place (pos zero) a m n k e h g q = absurd (grind (arith, nat_tests))
unit_place (pos (suc zero)) a m n k e h g q = let o = offset a m h in up o.by o.is_it
  where
    up : (j : ℕ) → m ≡ a +ℤ pos j → Place a (pos 1) m k
    up j r = record { place = j; earlier = omega (arith, ints, q, r, g); is_it = omega (arith, ints, r) }
unit_place (pos (suc (suc i))) a m n k e h g q = absurd (grind (arith, nat_tests))
unit_place (negsuc zero) a m n k e h g q = let o = offset m a h in down o.by o.is_it
  where
    down : (j : ℕ) → a ≡ m +ℤ pos j → Place a (negsuc 0) m k
    down j r = record { place = j; earlier = omega (arith, ints, q, r, g); is_it = omega (arith, ints, r) }
unit_place (negsuc (suc i)) a m n k e h g q = absurd (grind (arith, nat_tests))

-- and back
pub unit_before : (s a m n : ℤ) (i k : ℕ) → is_unit s ≡ true → i < k → m ≡ a +ℤ (s *ℤ pos i) → n ≡ a +ℤ (s *ℤ pos k) → Before (goes_up s) m n
unit_before (pos zero) a m n i k e l h g = absurd (grind (arith, nat_tests))
unit_before (pos (suc zero)) a m n i k e l h g = omega (arith, ints, l, h, g)
unit_before (pos (suc (suc j))) a m n i k e l h g = absurd (grind (arith, nat_tests))
unit_before (negsuc zero) a m n i k e l h g = omega (arith, ints, l, h, g)
unit_before (negsuc (suc j)) a m n i k e l h g = absurd (grind (arith, nat_tests))

-- ---- the index, by its name

pub index_is : (i c : ℕ) (w : Var) → nat_eq i c ≡ true → renamed_by (naming (Cell i) w ∷ []) (Cell c) ≡ w
index_is i c w e = go (var_eq (Cell c) (Cell i)) (true-var_eq (Cell c) (Cell i) (ap (λ j. Cell j) (sym (nat_same i c e))))
  where
    go : (b : Bool) → b ≡ true → (if b then w else Cell c) ≡ w
    go true k = refl
    go false k = clashes false k refl

pub other_is : (i c : ℕ) (w : Var) → nat_eq i c ≡ false → renamed_by (naming (Cell i) w ∷ []) (Cell c) ≡ Cell c
other_is i c w e = go (var_eq (Cell c) (Cell i)) refl
  where
    cell_is : (j k : ℕ) → Cell j ≡ Cell k → j ≡ k
    cell_is j k q = cc

    go : (b : Bool) → var_eq (Cell c) (Cell i) ≡ b → (if b then w else Cell c) ≡ Cell c
    go true k = clashes (nat_eq i c) (subst (λ (z : ℕ). nat_eq i z ≡ true) (cell_is i c (sym (var_eq-true (Cell c) (Cell i) k))) (nat_eq_same i)) e
    go false k = refl

pub no_cell : (v : Var) (i : ℕ) (w : Var) → (v ≡ Cell i → ⊥) → renamed_by (naming (Cell i) w ∷ []) v ≡ v
no_cell v i w f = go (var_eq v (Cell i)) refl
  where
    go : (b : Bool) → var_eq v (Cell i) ≡ b → (if b then w else v) ≡ v
    go true k = absurd (f (var_eq-true v (Cell i) k))
    go false k = refl

-- ---- forms of which no cell changes

stay_named : (cs : List ℕ) (ts : List Term) → terms_stay cs ts ≡ true → (v : Var) → in_terms v ts ≡ true → has cs (number v) ≡ false
stay_named cs [] h v n = absurd (clash n)
  where
    clash : false ≡ true → ⊥
    clash e = cc
stay_named cs (t ∷ ts) h v n = go (var_eq v t.var) refl n (λ k. stay_named cs ts q.1 v k)
  where
    q : (not (has cs (number t.var)) ≡ true) × (terms_stay cs ts ≡ true)
    q = and_parts (not (has cs (number t.var))) (terms_stay cs ts) h

    go : (b : Bool) → var_eq v t.var ≡ b → (b || in_terms v ts) ≡ true → (in_terms v ts ≡ true → has cs (number v) ≡ false) → has cs (number v) ≡ false
    go true e k ih = ap (λ z. has cs (number z)) (var_eq-true v t.var e) ∙ not-true (has cs (number t.var)) q.0
    go false e k ih = ih k

module _ (m : Scene) (g : Range) (x : ℕ → ℤ) (a b : ℤ) (bg : Begins m g x a b) where
  -- cells that no iteration changes have the numbers that they have at the DO
  pub unchanged : (n : ℤ) (k : ℕ) (y : ℕ → ℤ) → Iteration m g x a b n k y → (c : ℕ) → m.tracked c ≡ true → has g.turn.cells c ≡ false → y (m.unit c) ≡ x (m.unit c)
  unchanged n k y it c t h = (kept_chain m g.turn it.begin y it.chain).cells c t h ∙ it.wrote.cells c t (off (nat_eq g.index c) refl)
    where
      off : (z : Bool) → nat_eq g.index c ≡ z → z ≡ false
      off true e = clashes (has g.turn.cells g.index) (bg.index (subst (λ (j : ℕ). m.tracked j ≡ true) (sym (nat_same g.index c e)) t)) (subst (λ (j : ℕ). has g.turn.cells j ≡ false) (sym (nat_same g.index c e)) h)
      off false e = refl

  -- a point with the numbers of the DO at those cells
  abbrev at_do : Point → Var → ℤ
  at_do p (Cell c) = if has g.turn.cells c then x (m.unit c) else p (Cell c)
  at_do p (Exit c) = p (Exit c)
  at_do p (Phi c) = p (Phi c)
  at_do p (Aux c) = p (Aux c)

  -- a form of such cells has its value at each iteration
  pub form_stays : (f : Affine) (v : ℤ) → terms_stay g.turn.cells f.terms ≡ true → Means m (Some f) x v → (n : ℤ) (k : ℕ) (y : ℕ → ℤ) → Iteration m g x a b n k y → (p : Point) → AtStart m y p → form_value p f ≡ v
  form_stays f v h e n k y it p st = ap (λ z. z +ℤ f.constant) (terms_agree f.terms p (at_do p) agree) ∙ e (at_do p) starts
    where
      agree : (w : Var) → in_terms w f.terms ≡ true → p w ≡ at_do p w
      agree (Cell c) i = go (has g.turn.cells c) (stay_named g.turn.cells f.terms h (Cell c) i)
        where
          go : (z : Bool) → z ≡ false → p (Cell c) ≡ (if z then x (m.unit c) else p (Cell c))
          go true q = clashes true refl q
          go false q = refl
      agree (Exit c) i = refl
      agree (Phi c) i = refl
      agree (Aux c) i = refl

      starts : AtStart m x (at_do p)
      starts c t = go (has g.turn.cells c) refl
        where
          go : (z : Bool) → has g.turn.cells c ≡ z → (if z then x (m.unit c) else p (Cell c)) ≡ x (m.unit c)
          go true q = refl
          go false q = st c t ∙ unchanged n k y it c t q
