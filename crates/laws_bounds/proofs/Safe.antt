-- A reference that is found safe stays inside, where preconditions hold and bounds have the values of the dimensions.
use Rattle.std.proofs.Common.{◌≡◌, ℕ, List, [], ◌∷◌, Option, Some, None, Bool, true, false, refl, sym, ap, ◌∙◌, subst, true≢false, ℤ, ◌≤ℤ◌}
use Rattle.std.specs.Prelude.{int_le, IsSome}
use Rattle.std.proofs.lemmas.Bool.{and_parts, and_from}
use Rattle.affine_systems.specs.declared.row.Row.{Row}
use Rattle.affine_systems.specs.declared.row.Var.TheVariants.{Cell}
use Rattle.affine_systems.specs.Points.{Point, HoldsAll}
use Rattle.f77_ast.specs.Trees.{ExprTree, ExprTrees}
use Rattle.f77_ast.specs.Trees as tree
use Rattle.f77_ast.specs.Store.{Store}
use Rattle.f77_ast.specs.Places.{Meant, Constant, Variable, Function, Names, Dim, Places, at_most as at_most_high, dim_has, element_in}
use Rattle.f77_ast.specs.Symbols.{BoundTree}
use Rattle.affine_forms.specs.declared.affine.Affine.{Affine}
use Rattle.affine_forms.specs.Forms.{affine_of}
use Rattle.affine_forms.specs.Scalars.{Scalars, is_cell}
use Rattle.affine_forms.specs.Claims.{form_value, AtStart, Means, unit_in, numbers_of}
use Rattle.in_out_regions.specs.call_equations.Forms.{unless_among}
use Rattle.in_out_regions.specs.region_translation.Claims.{BoundMeans, EachDim}
use Rattle.bound_check.specs.References.{bounds_in, bounds_at, bounds_of}
use Rattle.bound_check.specs.Safe.{at_most, fixed_bound, fits_bound, fits_bounds, is_safe}
use Rattle.bound_check.specs.Checked.{Knowledge, rows_at}
use Rattle.laws_bounds.specs.Claims.{AreOfElement, StaysInside, SameBut}
use Rattle.laws_analyses.proofs.Regions.Outlines.{unless_some}
use Rattle.laws_bounds.proofs.Rows.{at_most_holds, point_of, form_moves}
use Rattle.laws_bounds.proofs.Inside.{Between, inside}
use Rattle.laws_bounds.proofs.Forms.{AllMean, values_mean}
use Rattle.laws_bounds.proofs.Bounds.{VariablesAre}
use Rattle.fx_lists.proofs.Numbers.{at_most_is}

-- ---- one subscript

-- P: the point of the store where the statement begins; changed: the variables that some statement of the module changes
module _ (k : Scalars) (changed written : List ℕ) (rs : List Row) (p : Point) (holds : HoldsAll p rs) where
  abbrev form : ExprTree → Option Affine
  form e = unless_among changed (affine_of k e)

  -- a number is the value of a subscript there, if that has a form which names none of the variables that were written
  abbrev pub Is : ExprTree → ℤ → Type 0
  Is e n = (f : Affine) → unless_among written (affine_of k e) ≡ Some f → form_value p f ≡ n

  abbrev IsHigh : Option ExprTree → Option ℤ → Type 0
  IsHigh o z = (f : Affine) → fixed_bound k changed o ≡ Some f → z ≡ Some (form_value p f)

  high_of : (o : Option ExprTree) (z : Option ℤ) → ((a : ExprTree) (f : Affine) → o ≡ Some a → form a ≡ Some f → z ≡ Some (form_value p f)) → IsHigh o z
  high_of None z h f e = cc
  high_of (Some a) z h f e = h a f refl e

  one_between : (e : ExprTree) (b : BoundTree) (d : Dim) (n : ℤ) (P : Point → Type 0) → P p → BoundMeans form P b d → fits_bound k changed written rs e b ≡ true → Is e n → (dim_has d n ≡ true) × ((h : ℤ) × (d.high ≡ Some h))
  one_between e b d n P there m t is =
      let q = and_parts (at_most rs (fixed_bound k changed (Some b.low)) (unless_among written (affine_of k e))) (at_most rs (unless_among written (affine_of k e)) (fixed_bound k changed b.high)) t in
      let below = at_most_holds p rs (fixed_bound k changed (Some b.low)) (unless_among written (affine_of k e)) q.0 holds in
      let above = at_most_holds p rs (unless_among written (affine_of k e)) (fixed_bound k changed b.high) q.1 holds in
      let low : form_value p below.first ≡ d.low = m.low below.first below.is_first p there in
      let here : form_value p below.second ≡ n = is below.second below.is_second in
      let again : form_value p above.first ≡ n = is above.first above.is_first in
      let high : d.high ≡ Some (form_value p above.second) = high_of b.high d.high (λ a f i r. m.high a f i r p there) above.second above.is_second in
      let from : d.low ≤ℤ n = subst (λ x. x ≤ℤ n) low (subst (λ x. form_value p below.first ≤ℤ x) here below.less) in
      let to : n ≤ℤ form_value p above.second = subst (λ x. x ≤ℤ form_value p above.second) again above.less in (
        and_from (int_le d.low n) (at_most_high n d.high) (at_most_is d.low n from) (ap (at_most_high n) high ∙ at_most_is n (form_value p above.second) to),
        (form_value p above.second, high),
      )

  -- the numbers of subscripts
  abbrev pub AllAre : ExprTrees → List ℤ → Type 0
  AllAre tree.no_exprs [] = Unit {0}
  AllAre tree.no_exprs (n ∷ ns) = ⊥
  AllAre (tree.more_exprs e es) [] = ⊥
  AllAre (tree.more_exprs e es) (n ∷ ns) = Is e n × AllAre es ns

  pub all_between : (P : Point → Type 0) → P p → (es : ExprTrees) (bs : List BoundTree) (ds : List Dim) (ns : List ℤ) → EachDim (BoundMeans form P) bs ds → fits_bounds k changed written rs es bs ≡ true → AllAre es ns → Between ds ns
  all_between P there tree.no_exprs [] [] [] m t a = tt
  all_between P there tree.no_exprs [] [] (n ∷ ns) m t a = absurd a
  all_between P there tree.no_exprs [] (d ∷ ds) ns m t a = absurd m
  all_between P there tree.no_exprs (b ∷ bs) ds ns m t a = absurd (true≢false (sym t))
  all_between P there (tree.more_exprs e es) [] ds ns m t a = absurd (true≢false (sym t))
  all_between P there (tree.more_exprs e es) (b ∷ bs) [] ns m t a = absurd m
  all_between P there (tree.more_exprs e es) (b ∷ bs) (d ∷ ds) [] m t a = absurd a
  all_between P there (tree.more_exprs e es) (b ∷ bs) (d ∷ ds) (n ∷ ns) m t a =
      let q = and_parts (fits_bound k changed written rs e b) (fits_bounds k changed written rs es bs) t in
      let one = one_between e b d n P there m.0 q.0 a.0 in
      (one.0, one.1, all_between P there es bs ds ns m.1 q.1 a.1)

-- ---- one statement

module _ (w : Names) (k : Knowledge) (n : ℕ) (at : Places) (s : Store) (known : VariablesAre w k.scope k.changed at s) (holds : (p : Point) → ((c : ℕ) → p (Cell c) ≡ numbers_of s (unit_in at c)) → HoldsAll p (rows_at k n)) where
  abbrev here : Point
  here = point_of (λ c. numbers_of s (unit_in at c))

  abbrev tracked : ℕ → Bool
  tracked = is_cell k.scope.tracked

  module _ (written : List ℕ) (z : Store) (same : SameBut k.scope at written s z) where
    -- what a subscript is at z is the value of its form where the statement began
    one_is : (e : ExprTree) (m : ℤ) → Means tracked (unit_in at) (affine_of k.scope.scalars e) (numbers_of z) m → Is k.scope.scalars k.changed written (rows_at k n) here (holds here (λ c. refl)) e m
    one_is e m h f q =
        let u = unless_some written (affine_of k.scope.scalars e) f q in
        let there : Means tracked (unit_in at) (Some f) (numbers_of z) m = subst (λ (o : Option Affine). Means tracked (unit_in at) o (numbers_of z) m) u.0 h in
        form_moves tracked written (λ c. numbers_of s (unit_in at c)) (λ c. numbers_of z (unit_in at c)) (λ c t f. same c t f) f m u.1 there

    all_are : (es : ExprTrees) (ns : List ℤ) → AllMean k.scope.scalars tracked at z es ns → AllAre k.scope.scalars k.changed written (rows_at k n) here (holds here (λ c. refl)) es ns
    all_are tree.no_exprs [] h = tt
    all_are tree.no_exprs (m ∷ ns) h = absurd h
    all_are (tree.more_exprs e es) [] h = absurd h
    all_are (tree.more_exprs e es) (m ∷ ns) h = (one_is e m h.0, all_are es ns h.1)

    of_element : (x : List ℕ) (es : ExprTrees) → fits_bounds k.scope.scalars k.changed written (rows_at k n) es (bounds_of k.scope x) ≡ true → (m : Meant) → w x ≡ m → AreOfElement m es w at z
    of_element x es t (Constant c) e = tt
    of_element x es t Function e = tt
    of_element x es t (Variable v) e = λ i.
        (let y = known.each x v e in
        let bounds : bounds_of k.scope x ≡ y.symbol.bounds = ap (bounds_at k.scope.symbols) y.number ∙ ap bounds_in y.is_symbol in
        let fits = subst (λ bs. fits_bounds k.scope.scalars k.changed written (rows_at k n) es bs ≡ true) bounds t in
        values_mean w k.scope.scalars tracked at z i known.agrees es (λ ns j r. IsSome (element_in (at v) ns))
        (λ ns h. inside (at v) ns
        (all_between k.scope.scalars k.changed written (rows_at k n) here (holds here (λ c. refl)) (AtStart tracked (unit_in at) (numbers_of s)) (λ c q. refl) es y.symbol.bounds (at v).dims ns y.bounds fits (all_are es ns h))
        y.reaches))

    pub stays_inside : (e : ExprTree) → is_safe k.scope k.changed written (rows_at k n) e ≡ true → StaysInside e w at z
    stays_inside (tree.int m) t = tt
    stays_inside (tree.log b) t = tt
    stays_inside (tree.name x) t = tt
    stays_inside (tree.element x es) t = of_element x es t (w x) refl
    stays_inside (tree.paren e) t = tt
    stays_inside (tree.unary o e) t = tt
    stays_inside (tree.binary o a b) t = tt
    stays_inside (tree.chars x) t = tt
