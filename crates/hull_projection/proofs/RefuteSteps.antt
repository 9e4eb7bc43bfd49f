-- Steps of refutation and entailment.
use Rattle.std.proofs.Common.{◌≡◌, ℕ, ◌^◌, Bool, true, false, ◌&&◌, List, [], ◌∷◌, ◌++◌, arith, ap, ap₂, refl, sym, subst, ◌∙◌}
use Rattle.std.proofs.lemmas.Int.{ints}
use Rattle.affine_systems.specs.declared.row.Var.{Var}
use Rattle.affine_systems.specs.declared.row.Term.{Term}
use Rattle.affine_systems.specs.declared.row.Row.{Row}
use Rattle.affine_systems.specs.declared.items.Item.{Item}
use Rattle.affine_systems.specs.declared.items.Tidied.{Tidied}
use Rattle.hull_projection.specs.declared.eliminations.Left.{Left}
use Rattle.affine_systems.specs.Terms.{negated_terms}
use Rattle.affine_systems.specs.Rows.{row}
use Rattle.affine_systems.specs.Items.{items_from, rows_of, any_false}
use Rattle.affine_systems.specs.Tidy.{tidy_items}
use Rattle.affine_systems.specs.Given.{FactorsBelow, IsGiven, IsSmallRow}
use Rattle.hull_projection.specs.Variables.{row_vars}
use Rattle.hull_projection.specs.Refute.{eliminate_all, all_left, refuted_items, refuted, above, below, negations, all_refuted, entails}
use Rattle.affine_systems.proofs.FitLaws.{more_factors}
use Rattle.affine_systems.proofs.AscendLaws.{ascends-negated}
use Rattle.affine_systems.proofs.SystemSteps.{items_given_from}
use Rattle.fx_lists.proofs.Booleans.{and_true}

pub refutes_items : (is : List Item) (vs : List Var) (s t : Left) (b : Bool) → vs ≡ row_vars (rows_of is) → s ≡ all_left is → t ≡ eliminate_all false s vs → b ≡ any_false t.items → b ≡ refuted_items is
refutes_items is vs s t b v e f g =
    g ∙ ap (λ (u : Left). any_false u.items) (f ∙ ap₂ (λ (x : Left) (ws : List Var). eliminate_all false x ws) e v)

pub refutes_rows : (rs : List Row) (is : List Item) (t : Tidied) (b : Bool) → is ≡ items_from 0 rs → t ≡ tidy_items false is → b ≡ refuted_items t.items → b ≡ refuted rs
refutes_rows rs is t b e f g = g ∙ ap (λ (u : Tidied). refuted_items u.items) (f ∙ ap (tidy_items false) e)

pub ruleset refutes = (refutes_items, refutes_rows, items_given_from)

-- ---- entailment

negated_below : (n : ℕ) (ts : List Term) → FactorsBelow n ts → FactorsBelow n (negated_terms ts)
negated_below n [] h = tt
negated_below n (t ∷ ts) h = (let k = h.0 in omega (arith, ints, k), negated_below n ts h.1)

pub above_given : (r s : Row) → IsSmallRow r → s ≡ above r → IsGiven s
above_given r s h e =
    let b = h.1 in
    subst IsGiven (sym e) (ascends-negated r.terms h.0, omega (arith, ints, b), more_factors (2 ^ 62) (2 ^ 126) (negated_terms r.terms) (omega arith) (negated_below (2 ^ 62) r.terms h.2))

pub below_given : (r s : Row) → IsSmallRow r → s ≡ below r → IsGiven s
below_given r s h e =
    let b = h.1 in
    subst IsGiven (sym e) (h.0, omega (arith, ints, b), more_factors (2 ^ 62) (2 ^ 126) r.terms (omega arith) h.2)

pub not-entailed : (rs : List Row) (r s : Row) (b : Bool) → s ≡ above r → b ≡ refuted (rs ++ s ∷ []) → b ≡ false → false ≡ entails rs r
not-entailed rs r s b e f g = go r.equal where
  x : refuted (rs ++ above r ∷ []) ≡ false
  x = ap (λ (u : Row). refuted (rs ++ u ∷ [])) (sym e) ∙ (sym f ∙ g)

  go : (q : Bool) → false ≡ all_refuted rs (negations (row q r.terms r.bound))
  go true = ap (λ c. c && (refuted (rs ++ below r ∷ []) && true)) (sym x)
  go false = ap (λ c. c && true) (sym x)

pub entailed-once : (rs : List Row) (r s : Row) (b : Bool) → s ≡ above r → b ≡ refuted (rs ++ s ∷ []) → b ≡ true → r.equal ≡ false → true ≡ entails rs r
entailed-once rs r s b e f g q =
    let x : refuted (rs ++ above r ∷ []) ≡ true = ap (λ (u : Row). refuted (rs ++ u ∷ [])) (sym e) ∙ (sym f ∙ g) in
    ap (λ c. c && true) (sym x) ∙ ap (λ c. all_refuted rs (negations (row c r.terms r.bound))) (sym q)

pub entailed-twice : (rs : List Row) (r s t : Row) (b c : Bool) → s ≡ above r → b ≡ refuted (rs ++ s ∷ []) → b ≡ true → r.equal ≡ true → t ≡ below r → c ≡ refuted (rs ++ t ∷ []) → c ≡ entails rs r
entailed-twice rs r s t b c e f g q m n =
    let x : refuted (rs ++ above r ∷ []) ≡ true = ap (λ (u : Row). refuted (rs ++ u ∷ [])) (sym e) ∙ (sym f ∙ g) in
    n ∙ (ap (λ (u : Row). refuted (rs ++ u ∷ [])) m
    ∙ (sym (and_true (refuted (rs ++ below r ∷ [])))
    ∙ (ap (λ a. a && (refuted (rs ++ below r ∷ []) && true)) (sym x) ∙ ap (λ a. all_refuted rs (negations (row a r.terms r.bound))) (sym q))))

pub ruleset entailing = (above_given, below_given, not-entailed, entailed-once, entailed-twice)
