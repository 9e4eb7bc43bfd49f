-- What may stand behind operands, and behind operators of each rank, where they do not go on.
use Rattle.std.proofs.Common.{◌≡◌, ℕ, List, [], ◌∷◌, ◌++◌, refl, subst, sym, None, true, false}
use Rattle.std.specs.Prelude.{nat_eq, codes, ◌||◌}
use Rattle.std.proofs.lemmas.Bool.{eqb-true, or_cases}
use mathlib.Core.Logic.{⊎_elim}
use Rattle.f77_ast.specs.declared.expr.BinaryOp.{BinaryOp}
use Rattle.f77_ast.specs.declared.expr.BinaryOp.TheVariants.{Add, Sub, Mul, Div, Eq, Ne, Lt, Le, Gt, Ge, And, Or, Eqv, Neqv}
use Rattle.f77_ast.specs.Operators.{binary_word}
use Rattle.f77_exprs.specs.declared.at.Notes.{Notes}
use Rattle.f77_exprs.specs.Words.{after}
use Rattle.f77_exprs.specs.Lexical.{skip_name, digit_first, after_point, after_exponent}
use Rattle.f77_exprs.specs.Operators.{one_of, relations, equivalences, sums, products}
use Rattle.roundtrip_programs.specs.Statements.Formed.{IsEquivalence, IsComparison, IsSum, IsProduct}
use Rattle.roundtrip_programs.specs.Statements.Follows.{standing, EndsExpression, EndsVariable}
use Rattle.roundtrip_programs.proofs.Statements.Constants.{NoApostrophe}

-- no operand goes on here
pub record Calm (t : List ℕ) : Type 0 where
  pub name : skip_name t ≡ t
  pub digit : digit_first t ≡ false
  pub point : after_point true t ≡ None
  pub exponent : after_exponent t ≡ None
  pub opening : after (codes "(") t ≡ None
  pub apostrophe : NoApostrophe t

-- none of these operators stands here
abbrev pub Free : List BinaryOp → List ℕ → Type 0
Free ops t = (k : Notes) → one_of ops (standing t k) ≡ None

pub record BehindPower (t : List ℕ) : Type 0 where
  pub calm : Calm t
  pub free : after (codes "**") t ≡ None

pub record BehindProduct (t : List ℕ) : Type 0 where
  pub power : BehindPower t
  pub free : Free products t

pub record BehindSum (t : List ℕ) : Type 0 where
  pub product : BehindProduct t
  pub free : Free sums t

pub record BehindComparison (t : List ℕ) : Type 0 where
  pub sum : BehindSum t
  pub free : Free relations t

pub record BehindConjunction (t : List ℕ) : Type 0 where
  pub comparison : BehindComparison t
  pub free : Free (And ∷ []) t

pub record BehindDisjunction (t : List ℕ) : Type 0 where
  pub conjunction : BehindConjunction t
  pub free : Free (Or ∷ []) t

pub record BehindEquivalence (t : List ℕ) : Type 0 where
  pub disjunction : BehindDisjunction t
  pub free : Free equivalences t

-- ---- behind an operand stands an operator that holds less

pub calm_by : (t : List ℕ) → skip_name t ≡ t → digit_first t ≡ false → after_point true t ≡ None → after_exponent t ≡ None → after (codes "(") t ≡ None → NoApostrophe t → Calm t
calm_by t a b c d e f = record { name = a; digit = b; point = c; exponent = d; opening = e; apostrophe = f }

pub power_behind : (u : List ℕ) → Calm (codes "**" ++ u)
power_behind u = calm_by (codes "**" ++ u) refl refl refl refl refl refl

pub product_behind : (op : BinaryOp) (u : List ℕ) → IsProduct op → after (codes "*") u ≡ None → BehindPower (binary_word op ++ u)
product_behind Mul u h e = record { calm = calm_by (codes "*" ++ u) refl refl refl refl refl refl; free = e }
product_behind Div u h e = record { calm = calm_by (codes "/" ++ u) refl refl refl refl refl refl; free = refl }
product_behind _ u h e = absurd h

sum_by : (t : List ℕ) → Calm t → after (codes "**") t ≡ None → Free products t → BehindProduct t
sum_by t c e f = record { power = record { calm = c; free = e }; free = f }

pub sum_behind : (op : BinaryOp) (u : List ℕ) → IsSum op → BehindProduct (binary_word op ++ u)
sum_behind Add u h = sum_by (codes "+" ++ u) (calm_by (codes "+" ++ u) refl refl refl refl refl refl) refl (λ k. refl)
sum_behind Sub u h = sum_by (codes "-" ++ u) (calm_by (codes "-" ++ u) refl refl refl refl refl refl) refl (λ k. refl)
sum_behind _ u h = absurd h

comparison_by : (t : List ℕ) → Calm t → after (codes "**") t ≡ None → Free products t → Free sums t → BehindSum t
comparison_by t c e f g = record { product = sum_by t c e f; free = g }

pub comparison_behind : (op : BinaryOp) (u : List ℕ) → IsComparison op → BehindSum (binary_word op ++ u)
comparison_behind Eq u h = comparison_by (codes ".EQ." ++ u) (calm_by (codes ".EQ." ++ u) refl refl refl refl refl refl) refl (λ k. refl) (λ k. refl)
comparison_behind Ne u h = comparison_by (codes ".NE." ++ u) (calm_by (codes ".NE." ++ u) refl refl refl refl refl refl) refl (λ k. refl) (λ k. refl)
comparison_behind Lt u h = comparison_by (codes ".LT." ++ u) (calm_by (codes ".LT." ++ u) refl refl refl refl refl refl) refl (λ k. refl) (λ k. refl)
comparison_behind Le u h = comparison_by (codes ".LE." ++ u) (calm_by (codes ".LE." ++ u) refl refl refl refl refl refl) refl (λ k. refl) (λ k. refl)
comparison_behind Gt u h = comparison_by (codes ".GT." ++ u) (calm_by (codes ".GT." ++ u) refl refl refl refl refl refl) refl (λ k. refl) (λ k. refl)
comparison_behind Ge u h = comparison_by (codes ".GE." ++ u) (calm_by (codes ".GE." ++ u) refl refl refl refl refl refl) refl (λ k. refl) (λ k. refl)
comparison_behind _ u h = absurd h

logic_by : (t : List ℕ) → Calm t → after (codes "**") t ≡ None → Free products t → Free sums t → Free relations t → BehindComparison t
logic_by t c e f g h = record { sum = comparison_by t c e f g; free = h }

pub and_behind : (u : List ℕ) → BehindComparison (codes ".AND." ++ u)
and_behind u = logic_by (codes ".AND." ++ u) (calm_by (codes ".AND." ++ u) refl refl refl refl refl refl) refl (λ k. refl) (λ k. refl) (λ k. refl)

pub or_behind : (u : List ℕ) → BehindConjunction (codes ".OR." ++ u)
or_behind u = record {
  comparison = logic_by (codes ".OR." ++ u) (calm_by (codes ".OR." ++ u) refl refl refl refl refl refl) refl (λ k. refl) (λ k. refl) (λ k. refl);
  free = λ k. refl;
}

disjunction_by : (t : List ℕ) → Calm t → after (codes "**") t ≡ None → Free products t → Free sums t → Free relations t → Free (And ∷ []) t → Free (Or ∷ []) t → BehindDisjunction t
disjunction_by t c e f g h i j = record { conjunction = record { comparison = logic_by t c e f g h; free = i }; free = j }

pub equivalence_behind : (op : BinaryOp) (u : List ℕ) → IsEquivalence op → BehindDisjunction (binary_word op ++ u)
equivalence_behind Eqv u h =
    disjunction_by (codes ".EQV." ++ u) (calm_by (codes ".EQV." ++ u) refl refl refl refl refl refl) refl (λ k. refl) (λ k. refl) (λ k. refl) (λ k. refl) (λ k. refl)
equivalence_behind Neqv u h =
    disjunction_by (codes ".NEQV." ++ u) (calm_by (codes ".NEQV." ++ u) refl refl refl refl refl refl) refl (λ k. refl) (λ k. refl) (λ k. refl) (λ k. refl) (λ k. refl)
equivalence_behind _ u h = absurd h

-- ---- behind a whole expression

equivalence_by : (t : List ℕ) → Calm t → after (codes "**") t ≡ None → Free products t → Free sums t → Free relations t → Free (And ∷ []) t → Free (Or ∷ []) t → Free equivalences t
    → BehindEquivalence t
equivalence_by t c e f g h i j l = record { disjunction = disjunction_by t c e f g h i j; free = l }

pub at_end : BehindEquivalence []
at_end = equivalence_by [] (calm_by [] refl refl refl refl refl tt) refl (λ k. refl) (λ k. refl) (λ k. refl) (λ k. refl) (λ k. refl) (λ k. refl)

pub at_close : (u : List ℕ) → BehindEquivalence (41 ∷ u)
at_close u = equivalence_by (41 ∷ u) (calm_by (41 ∷ u) refl refl refl refl refl refl) refl (λ k. refl) (λ k. refl) (λ k. refl) (λ k. refl) (λ k. refl) (λ k. refl)

pub at_comma : (u : List ℕ) → BehindEquivalence (44 ∷ u)
at_comma u = equivalence_by (44 ∷ u) (calm_by (44 ∷ u) refl refl refl refl refl refl) refl (λ k. refl) (λ k. refl) (λ k. refl) (λ k. refl) (λ k. refl) (λ k. refl)

pub at_colon : (u : List ℕ) → BehindEquivalence (58 ∷ u)
at_colon u = equivalence_by (58 ∷ u) (calm_by (58 ∷ u) refl refl refl refl refl refl) refl (λ k. refl) (λ k. refl) (λ k. refl) (λ k. refl) (λ k. refl) (λ k. refl)

closes : (c : ℕ) (u : List ℕ) → (nat_eq c 41 || nat_eq c 44 || nat_eq c 58) ≡ true → BehindEquivalence (c ∷ u)
closes c u h = ⊎_elim
    (λ g. ⊎_elim
    (λ e. subst (λ (x : ℕ). BehindEquivalence (x ∷ u)) (sym (eqb-true c 41 e)) (at_close u))
    (λ e. subst (λ (x : ℕ). BehindEquivalence (x ∷ u)) (sym (eqb-true c 44 e)) (at_comma u))
    (or_cases (nat_eq c 41) (nat_eq c 44) g))
    (λ e. subst (λ (x : ℕ). BehindEquivalence (x ∷ u)) (sym (eqb-true c 58 e)) (at_colon u))
    (or_cases (nat_eq c 41 || nat_eq c 44) (nat_eq c 58) h)

pub expression_ends : (t : List ℕ) → EndsExpression t → BehindEquivalence t
expression_ends [] h = at_end
expression_ends (c ∷ cs) h = closes c cs h

pub calm_close : (u : List ℕ) → Calm (41 ∷ u)
calm_close u = calm_by (41 ∷ u) refl refl refl refl refl refl

pub calm_comma : (u : List ℕ) → Calm (44 ∷ u)
calm_comma u = calm_by (44 ∷ u) refl refl refl refl refl refl

pub calm_slash : (u : List ℕ) → Calm (47 ∷ u)
calm_slash u = calm_by (47 ∷ u) refl refl refl refl refl refl

pub calm_equal : (u : List ℕ) → Calm (61 ∷ u)
calm_equal u = calm_by (61 ∷ u) refl refl refl refl refl refl

calms : (c : ℕ) (u : List ℕ) → (nat_eq c 41 || nat_eq c 44 || nat_eq c 47 || nat_eq c 61) ≡ true → Calm (c ∷ u)
calms c u h = ⊎_elim
    (λ g. ⊎_elim
    (λ f. ⊎_elim
    (λ e. subst (λ (x : ℕ). Calm (x ∷ u)) (sym (eqb-true c 41 e)) (calm_close u))
    (λ e. subst (λ (x : ℕ). Calm (x ∷ u)) (sym (eqb-true c 44 e)) (calm_comma u))
    (or_cases (nat_eq c 41) (nat_eq c 44) f))
    (λ e. subst (λ (x : ℕ). Calm (x ∷ u)) (sym (eqb-true c 47 e)) (calm_slash u))
    (or_cases (nat_eq c 41 || nat_eq c 44) (nat_eq c 47) g))
    (λ e. subst (λ (x : ℕ). Calm (x ∷ u)) (sym (eqb-true c 61 e)) (calm_equal u))
    (or_cases (nat_eq c 41 || nat_eq c 44 || nat_eq c 47) (nat_eq c 61) h)

pub variable_ends : (t : List ℕ) → EndsVariable t → Calm t
variable_ends [] h = calm_by [] refl refl refl refl refl tt
variable_ends (c ∷ cs) h = calms c cs h
