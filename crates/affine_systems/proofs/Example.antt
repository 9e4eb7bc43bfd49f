-- The definitions computed on small systems.
use Rattle.std.proofs.Common.{◌≡◌, true, false, [], ◌∷◌, pos, negsuc, refl, Some}
use Rattle.affine_systems.specs.declared.row.Var.TheVariants.{Cell}
use Rattle.affine_systems.specs.Terms.{var_eq, var_lt, term}
use Rattle.affine_systems.specs.Rows.{row, system, false_row, shape_cmp}
use Rattle.affine_systems.specs.Points.{factor_of}
use Rattle.affine_systems.specs.Normal.{normal, Kept, gcd, divisor, is_small}
use Rattle.affine_systems.specs.Tidy.{tidy, turn_limit}
use Rattle.affine_systems.specs.Eliminate.{eliminate}
use Rattle.affine_systems.specs.Calls.{substitute}

-- 10*K-10*J <= 9 is K-J <= 0
normal_example : normal false (row false (term (Cell 1) (negsuc 9) ∷ term (Cell 2) (pos 10) ∷ []) (pos 9)) ≡ Kept (row false (term (Cell 1) (negsuc 0) ∷ term (Cell 2) (pos 1) ∷ []) (pos 0))
unfolding gcd divisor is_small
normal_example = refl

-- I <= 3 and 3 <= I become I == 3
tidy_example : tidy (system (row false (term (Cell 0) (pos 1) ∷ []) (pos 3) ∷ row false (term (Cell 0) (negsuc 0) ∷ []) (negsuc 2) ∷ []) false)
    ≡ system (row true (term (Cell 0) (pos 1) ∷ []) (pos 3) ∷ []) false
unfolding gcd divisor is_small var_eq var_lt shape_cmp factor_of turn_limit
tidy_example = refl

-- A + 2*B == 3*C + 4 and A + B == 2*C + 1 are B == A + 5 and C == A + 2
pivot_example : tidy (system (row true (term (Cell 0) (pos 1) ∷ term (Cell 1) (pos 2) ∷ term (Cell 2) (negsuc 2) ∷ []) (pos 4) ∷ row true (term (Cell 0) (pos 1) ∷ term (Cell 1) (pos 1) ∷ term (Cell 2) (negsuc 1) ∷ []) (pos 1) ∷ []) false)
    ≡ system (row true (term (Cell 0) (negsuc 0) ∷ term (Cell 1) (pos 1) ∷ []) (pos 5) ∷ row true (term (Cell 0) (negsuc 0) ∷ term (Cell 2) (pos 1) ∷ []) (pos 2) ∷ []) false
unfolding gcd divisor is_small var_eq var_lt shape_cmp factor_of turn_limit
pivot_example = refl

-- 2*A + 3*B == 5, 2*A + 3*B <= 6 and 6 <= 2*A + 3*B never hold together
clash_example : tidy (system (row true (term (Cell 0) (pos 2) ∷ term (Cell 1) (pos 3) ∷ []) (pos 5) ∷ row false (term (Cell 0) (pos 2) ∷ term (Cell 1) (pos 3) ∷ []) (pos 6) ∷ row false (term (Cell 0) (negsuc 1) ∷ term (Cell 1) (negsuc 2) ∷ []) (negsuc 5) ∷ []) false)
    ≡ system (false_row ∷ []) false
unfolding gcd divisor is_small var_eq var_lt shape_cmp factor_of turn_limit
clash_example = refl

-- J <= 2*I and 3*I <= K without I are 3*J <= 2*K, not exact
eliminate_example : eliminate (system (row false (term (Cell 0) (negsuc 1) ∷ term (Cell 1) (pos 1) ∷ []) (pos 0) ∷ row false (term (Cell 0) (pos 3) ∷ term (Cell 2) (negsuc 0) ∷ []) (pos 0) ∷ []) false) (Cell 0)
    ≡ record { system = system (row false (term (Cell 1) (pos 3) ∷ term (Cell 2) (negsuc 1) ∷ []) (pos 0) ∷ []) false; exact = false }
unfolding gcd divisor is_small var_eq var_lt shape_cmp factor_of turn_limit
eliminate_example = refl

-- A <= 3 with A by A == 5 never holds: 0 <= -2
substitute_example : substitute (row false (term (Cell 0) (pos 1) ∷ []) (pos 3)) (Cell 0) (row true (term (Cell 0) (pos 1) ∷ []) (pos 5)) ≡ Some (row false [] (negsuc 1))
unfolding gcd divisor is_small var_eq var_lt shape_cmp factor_of turn_limit
substitute_example = refl
