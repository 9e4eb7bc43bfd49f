-- Rows and systems out of JSON data: none where it has another shape. The sizes of their numbers are looked at apart.
use Rattle.std.specs.Prelude.{Bool, true, false, not, ◌&&◌, ◌||◌, if◌then◌else◌, nat_eq, nat_le, List, [], ◌∷◌, length, ℕ, pos, negsuc, Option, Some, None, option_map, option_and_then, codes, bytes_eq}
use Rattle.std.specs.List.{list_all}
use Rattle.std.specs.Ordering.{int_eq}
use Rattle.serde_json.specs.Data.{Data}
use Rattle.serde_json.specs.Find.{as_bool, as_str}
use Rattle.affine_systems.specs.declared.row.Var.{Var}
use Rattle.affine_systems.specs.declared.row.Var.TheVariants.{Cell, Exit, Phi}
use Rattle.affine_systems.specs.declared.row.Term.{Term}
use Rattle.affine_systems.specs.declared.row.Row.{Row}
use Rattle.affine_systems.specs.declared.row.System.{System}
use Rattle.affine_systems.specs.Terms.{term, var_lt, has_no_terms}
use Rattle.affine_systems.specs.Rows.{row, system}
use Rattle.affine_systems.specs.Normal.{divisor, last_is_negative, is_small, are_small}
use Rattle.affine_systems.specs.Tidy.{row_limit}
use Rattle.base_json.specs.Shapes.{has_members, triple_of, member_as, list_as, when, number_below, whole_of, flag_of}
use Rattle.base_json.specs.Scopes.{ScopeTree, cell_of, exit_of}

abbrev pub phi_of : ScopeTree → Data → Option ℕ
phi_of s d = option_and_then (λ n. when s.phi n) (number_below 256 d)

abbrev pub var_of : ScopeTree → List ℕ → Data → Option Var
var_of s letter d =
    if bytes_eq letter (codes "c") then option_map (λ n. Cell n) (cell_of s d)
    else if bytes_eq letter (codes "x") then option_map (λ n. Exit n) (exit_of s d)
    else if bytes_eq letter (codes "p") then option_map (λ n. Phi n) (phi_of s d)
    else None

-- of a letter, a number and a factor
abbrev pub term_in : ScopeTree → Data → Data → List ℕ → Option Term
term_in s n k letter = option_and_then (λ v. option_map (λ z. term v z) (whole_of k)) (var_of s letter n)

abbrev pub term_of : ScopeTree → Data → Option Term
term_of s d = option_and_then (λ p. option_and_then (term_in s p.1.0 p.1.1) (as_str p.0)) (triple_of d)

-- each variable before the next, no factor 0
abbrev pub terms_ascend : List Term → Bool
terms_ascend [] = true
terms_ascend (t ∷ []) = not (int_eq t.factor (pos 0))
terms_ascend (t ∷ u ∷ us) = not (int_eq t.factor (pos 0)) && (var_lt t.var u.var && terms_ascend (u ∷ us))

abbrev pub terms_of : ScopeTree → Data → Option (List Term)
terms_of s d = option_and_then (λ ts. when (terms_ascend ts) ts) (list_as (term_of s) d)

-- of a flag, a bound and terms
abbrev pub row_in : ScopeTree → Data → Data → Data → Option Row
row_in s e b ts = option_and_then (λ e. option_and_then (λ b. option_map (λ ts. row e ts b) (terms_of s ts)) (whole_of b)) (flag_of e)

abbrev pub row_of : ScopeTree → Data → Option Row
row_of s d = option_and_then (λ p. row_in s p.0 p.1.0 p.1.1) (triple_of d)

-- its own normal form, but for the size of its numbers
abbrev pub is_reduced : Row → Bool
is_reduced r = not (has_no_terms r.terms) && (nat_eq (divisor r.terms 0) 1 && not (r.equal && last_is_negative r.terms))

-- 0 <= -1
abbrev pub is_false_row : Row → Bool
is_false_row r = has_no_terms r.terms && (not r.equal && int_eq r.bound (negsuc 0))

abbrev pub is_false_alone : List Row → Bool
is_false_alone [] = false
is_false_alone (r ∷ []) = is_false_row r
is_false_alone (r ∷ q ∷ qs) = false

abbrev pub rows_fit : List Row → Bool
rows_fit rs = nat_le (length rs) row_limit && (is_false_alone rs || list_all is_reduced rs)

abbrev pub rows_of : ScopeTree → Data → Option (List Row)
rows_of s d = option_and_then (λ rs. when (rows_fit rs) rs) (list_as (row_of s) d)

abbrev pub system_of : ScopeTree → Data → Option System
system_of s d =
    if has_members 2 d
    then option_and_then (λ rs. option_map (system rs) (member_as as_bool (codes "weak") d)) (member_as (rows_of s) (codes "rows") d)
    else None

-- ---- sizes: numbers of rows below 2^62 in magnitude

abbrev pub is_small_row : Row → Bool
is_small_row r = is_small r.bound && are_small r.terms

abbrev pub is_small_system : System → Bool
is_small_system s = list_all is_small_row s.rows
