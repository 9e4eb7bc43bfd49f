-- Rows: the sum of the terms is the bound, or at most the bound. Their order.
use Rattle.std.specs.Prelude.{Bool, true, false, List, [], ◌∷◌, length, ℤ, negsuc, ◌+ℤ◌, ◌*ℤ◌}
use Rattle.std.specs.Ordering.{ordering_then, nat_cmp, int_cmp, is_lt, is_eq}
use Rattle.std.specs.Cmp.Lexicographic.{slice_cmp}
use Rattle.std.specs.declared.cmp.Ordering.{Ordering}
use Rattle.std.specs.declared.cmp.Ordering.TheVariants.{Less, Equal, Greater}
use Rattle.affine_systems.specs.declared.row.Var.{Var}
use Rattle.affine_systems.specs.declared.row.Term.{Term}
use Rattle.affine_systems.specs.declared.row.Row.{Row}
use Rattle.affine_systems.specs.declared.row.System.{System}
use Rattle.affine_systems.specs.Terms.{add_terms, kind, number, renamed_terms}

abbrev pub row : Bool → List Term → ℤ → Row
row e ts b = record { equal = e; terms = ts; bound = b }

abbrev pub system : List Row → Bool → System
system rs w = record { rows = rs; weak = w }

-- 0 <= -1
abbrev pub false_row : Row
false_row = row false [] (negsuc 0)

abbrev pub AllRows : (Row → Type 0) → List Row → Type 0
AllRows P [] = Unit {0}
AllRows P (r ∷ rs) = P r × AllRows P rs

abbrev pub combined_terms : ℤ → List Term → ℤ → List Term → List Term
combined_terms p ts q us = add_terms p ts (add_terms q us [])

-- p times the one and q times the other
abbrev pub combine_as : Bool → ℤ → Row → ℤ → Row → Row
combine_as e p r q s = row e (combined_terms p r.terms q s.terms) ((p *ℤ r.bound) +ℤ (q *ℤ s.bound))

-- equal where the one is; the other is an equal row
abbrev pub combine : ℤ → Row → ℤ → Row → Row
combine p r q s = combine_as r.equal p r q s

abbrev pub renamed_row : (Var → Var) → Row → Row
renamed_row f r = row r.equal (renamed_terms f r.terms) r.bound

-- the order of rows

abbrev pub var_cmp : Var → Var → Ordering
var_cmp v w = ordering_then (nat_cmp (kind v) (kind w)) (nat_cmp (number v) (number w))

-- the first variables that differ, from the left
abbrev pub vars_cmp : List Term → List Term → Ordering
vars_cmp ts us = slice_cmp (λ (t u : Term). var_cmp t.var u.var) ts us

abbrev pub factors_cmp : List Term → List Term → Ordering
factors_cmp ts us = slice_cmp (λ (t u : Term). int_cmp t.factor u.factor) ts us

-- an equal row comes before an at-most row
abbrev pub equal_cmp : Bool → Bool → Ordering
equal_cmp true true = Equal
equal_cmp true false = Less
equal_cmp false true = Greater
equal_cmp false false = Equal

-- all but the bound: equal rows first, then fewer terms, then the variables, then the factors
unfoldable pub shape_cmp : Row → Row → Ordering
shape_cmp r s =
    ordering_then (equal_cmp r.equal s.equal)
    (ordering_then (nat_cmp (length r.terms) (length s.terms))
    (ordering_then (vars_cmp r.terms s.terms) (factors_cmp r.terms s.terms)))

abbrev pub is_before : Row → Row → Bool
is_before r s = is_lt (shape_cmp r s)

abbrev pub same_shape : Row → Row → Bool
same_shape r s = is_eq (shape_cmp r s)
