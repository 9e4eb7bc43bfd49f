-- The names that stand for the variables of the callee, and the variables that rows have.
use Rattle.std.proofs.Common.{◌≡◌, ℕ, suc, ◌+◌, ◌-◌, ◌<◌, List, [], ◌∷◌, Bool, true, false, refl, sym, ap, subst, arith, nat_lt, ◌⊎◌, inl, inr}
use Rattle.std.specs.Prelude.{if◌then◌else◌}
use Rattle.std.proofs.lemmas.Bool.{or_parts, and_parts}
use Rattle.std.proofs.lemmas.Bool.Decides.{nat_tests}
use Rattle.affine_systems.specs.declared.row.Var.{Var}
use Rattle.affine_systems.specs.declared.row.Row.{Row}
use Rattle.affine_systems.specs.Terms.{var_eq}
use Rattle.affine_systems.specs.Points.{only}
use Rattle.affine_systems.proofs.TermLaws.{var_eq-true, true-var_eq}
use Rattle.affine_systems.proofs.LackLaws.{RowsNil}
use Rattle.hull_projection.specs.Variables.{row_vars}
use Rattle.hull_projection.specs.Laws.{IsOneOf}
use Rattle.hull_projection.proofs.VarLaws.{rows_covered}
use Rattle.call_translation.specs.transformer_algebra.Renaming.{renamed_by}
use Rattle.region_sets.specs.Naming.{in_terms, in_rows}
use Rattle.region_sets.proofs.NilLaws.{off_terms}
use Rattle.region_translation.specs.Pieces.{standing, names_of, is_own, are_own}
use Rattle.fx_lists.proofs.Booleans.{clash as clashes}
use Rattle.region_sets.proofs.NameLaws.{rows_has}

-- ---- variables of rows

pub is_row_var : (v : Var) (rs : List Row) → in_rows v rs ≡ true → IsOneOf v (row_vars rs)
is_row_var v rs e = rows_has v (row_vars rs) rs (rows_covered [] rs) e

pub off_rows : (v : Var) (rs : List Row) → in_rows v rs ≡ false → RowsNil (only v) rs
off_rows v [] e = tt
off_rows v (r ∷ rs) e = let k = or_parts (in_terms v r.terms) (in_rows v rs) e in (off_terms v r.terms k.0, off_rows v rs k.1)

-- ---- names

-- a variable of a list has the name that stands for it
pub name_is : (moved : Bool) (r : ℕ) (vs : List Var) (v : Var) → IsOneOf v vs → renamed_by (names_of moved r vs) v ≡ standing moved r v
name_is moved r [] v h = absurd h
name_is moved r (w ∷ vs) v h = go (var_eq v w) refl (λ i. name_is moved r vs v i)
  where
    rest : var_eq v w ≡ false → (v ≡ w) ⊎ IsOneOf v vs → IsOneOf v vs
    rest k (inl e) = clashes (var_eq v w) (true-var_eq v w e) k
    rest k (inr i) = i

    go : (b : Bool) → var_eq v w ≡ b → (IsOneOf v vs → renamed_by (names_of moved r vs) v ≡ standing moved r v) → (if b then standing moved r w else renamed_by (names_of moved r vs) v) ≡ standing moved r v
    go true k ih = ap (standing moved r) (sym (var_eq-true v w k))
    go false k ih = ih (rest k h)

pub one_own : (moved : Bool) (r : ℕ) (vs : List Var) (v : Var) → are_own moved r vs ≡ true → IsOneOf v vs → is_own moved r v ≡ true
one_own moved r [] v e h = absurd h
one_own moved r (w ∷ vs) v e (inl k) = subst (λ z. is_own moved r z ≡ true) (sym k) (and_parts (is_own moved r w) (are_own moved r vs) e).0
one_own moved r (w ∷ vs) v e (inr i) = one_own moved r vs v (and_parts (is_own moved r w) (are_own moved r vs) e).1 i

-- ---- numbers of names

pub behind : (r n : ℕ) → nat_lt r (suc r + n) ≡ true
behind r n = let h : r < suc r + n = omega arith in grind (arith, nat_tests)

pub back_again : (r n : ℕ) → ((suc r + n) - r) - 1 ≡ n
back_again r n = omega arith
