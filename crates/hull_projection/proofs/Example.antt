-- The definitions computed on small systems.
use Rattle.std.proofs.Common.{◌≡◌, true, false, [], ◌∷◌, pos, negsuc, refl}
use Rattle.affine_systems.specs.declared.row.Var.TheVariants.{Cell, Phi}
use Rattle.affine_systems.specs.Terms.{var_eq, var_lt, term}
use Rattle.affine_systems.specs.Rows.{row, system, shape_cmp}
use Rattle.affine_systems.specs.Points.{factor_of}
use Rattle.affine_systems.specs.Normal.{gcd, divisor, is_small}
use Rattle.affine_systems.specs.Tidy.{turn_limit}
use Rattle.hull_projection.specs.Refute.{refuted, entails}
use Rattle.hull_projection.specs.Clean.{clean}
use Rattle.hull_projection.specs.Project.{project}

-- I == 2*J and I == 2*K + 1 never hold together
refuted_example : refuted (row true (term (Cell 0) (pos 1) ∷ term (Cell 1) (negsuc 1) ∷ []) (pos 0) ∷ row true (term (Cell 0) (pos 1) ∷ term (Cell 2) (negsuc 1) ∷ []) (pos 1) ∷ []) ≡ true
unfolding gcd divisor is_small var_eq var_lt shape_cmp factor_of turn_limit lib.Count.ones
refuted_example = refl

-- A + B <= 2 follows from A <= 1 and B <= 1
entails_example : entails (row false (term (Cell 0) (pos 1) ∷ []) (pos 1) ∷ row false (term (Cell 1) (pos 1) ∷ []) (pos 1) ∷ []) (row false (term (Cell 0) (pos 1) ∷ term (Cell 1) (pos 1) ∷ []) (pos 2)) ≡ true
unfolding gcd divisor is_small var_eq var_lt shape_cmp factor_of turn_limit lib.Count.ones
entails_example = refl

-- A <= 1, A + B <= 5 and B <= 1 are A <= 1 and B <= 1
clean_example : clean (system (row false (term (Cell 0) (pos 1) ∷ []) (pos 1) ∷ row false (term (Cell 0) (pos 1) ∷ term (Cell 1) (pos 1) ∷ []) (pos 5) ∷ row false (term (Cell 1) (pos 1) ∷ []) (pos 1) ∷ []) false)
    ≡ system (row false (term (Cell 0) (pos 1) ∷ []) (pos 1) ∷ row false (term (Cell 1) (pos 1) ∷ []) (pos 1) ∷ []) false
unfolding gcd divisor is_small var_eq var_lt shape_cmp factor_of turn_limit lib.Count.ones
clean_example = refl

-- 1 <= I, I <= 4 and PHI1 == 2*I without I are 2 <= PHI1 and PHI1 <= 8, not exact
project_example : project (system (row true (term (Cell 0) (negsuc 1) ∷ term (Phi 1) (pos 1) ∷ []) (pos 0) ∷ row false (term (Cell 0) (negsuc 0) ∷ []) (negsuc 0) ∷ row false (term (Cell 0) (pos 1) ∷ []) (pos 4) ∷ []) false) (Cell 0 ∷ [])
    ≡ record { system = system (row false (term (Phi 1) (negsuc 0) ∷ []) (negsuc 1) ∷ row false (term (Phi 1) (pos 1) ∷ []) (pos 8) ∷ []) false; exact = false }
unfolding gcd divisor is_small var_eq var_lt shape_cmp factor_of turn_limit lib.Count.ones
project_example = refl
