-- Terms of rows: variables in ascending order, each with a factor that is not 0.
use Rattle.std.specs.Prelude.{◌≡◌, ℕ, Bool, true, false, List, [], ◌∷◌, map, ◌&&◌, ◌||◌, if◌then◌else◌, nat_eq, nat_lt, ℤ, pos, neg_ℤ, ◌+ℤ◌, ◌*ℤ◌}
use Rattle.std.specs.Ordering.{int_eq}
use Rattle.affine_systems.specs.declared.row.Var.{Var}
use Rattle.affine_systems.specs.declared.row.Var.TheVariants.{Cell, Exit, Phi, Aux}
use Rattle.affine_systems.specs.declared.row.Term.{Term}

-- the place of a kind of variable in the order
abbrev pub kind : Var → ℕ
kind (Cell n) = 0
kind (Exit n) = 1
kind (Phi n) = 2
kind (Aux n) = 3

abbrev pub number : Var → ℕ
number (Cell n) = n
number (Exit n) = n
number (Phi n) = n
number (Aux n) = n

unfoldable pub var_eq : Var → Var → Bool
var_eq v w = nat_eq (kind v) (kind w) && nat_eq (number v) (number w)

-- Cell, Exit, Phi, Aux, each by number
unfoldable pub var_lt : Var → Var → Bool
var_lt v w = nat_lt (kind v) (kind w) || (nat_eq (kind v) (kind w) && nat_lt (number v) (number w))

abbrev pub term : Var → ℤ → Term
term v f = record { var = v; factor = f }

-- a term before a list, unless its factor is 0
abbrev pub term_before : Var → ℤ → List Term → List Term
term_before v f ts = if int_eq f (pos 0) then ts else term v f ∷ ts

-- a term added to an ascending list
abbrev pub add_term : Var → ℤ → List Term → List Term
add_term v f [] = term_before v f []
add_term v f (t ∷ ts) =
    if var_eq v t.var then term_before v (f +ℤ t.factor) ts
    else if var_lt v t.var then term_before v f (t ∷ ts)
    else t ∷ add_term v f ts

-- c times each term, added to an ascending list
abbrev pub add_terms : ℤ → List Term → List Term → List Term
add_terms c [] us = us
add_terms c (t ∷ ts) us = add_term t.var (c *ℤ t.factor) (add_terms c ts us)

abbrev pub negated_terms : List Term → List Term
negated_terms ts = map (λ t. term t.var (neg_ℤ t.factor)) ts

-- each variable by another
abbrev pub renamed_terms : (Var → Var) → List Term → List Term
renamed_terms f [] = []
renamed_terms f (t ∷ ts) = add_term (f t.var) t.factor (renamed_terms f ts)

abbrev pub is_opposite : Term → Term → Bool
is_opposite t u = var_eq t.var u.var && int_eq t.factor (neg_ℤ u.factor)

-- the same variables, with opposite factors
abbrev pub are_opposite_terms : List Term → List Term → Bool
are_opposite_terms [] [] = true
are_opposite_terms [] (u ∷ us) = false
are_opposite_terms (t ∷ ts) [] = false
are_opposite_terms (t ∷ ts) (u ∷ us) = is_opposite t u && are_opposite_terms ts us

abbrev pub has_no_terms : List Term → Bool
has_no_terms [] = true
has_no_terms (t ∷ ts) = false

-- v comes before each variable
abbrev pub IsBefore : Var → List Term → Type 0
IsBefore v [] = Unit {0}
IsBefore v (t ∷ ts) = (var_lt v t.var ≡ true) × IsBefore v ts

-- each variable comes before those after it, and no factor is 0
abbrev pub Ascends : List Term → Type 0
Ascends [] = Unit {0}
Ascends (t ∷ ts) = (int_eq t.factor (pos 0) ≡ false) × IsBefore t.var ts × Ascends ts
