-- Auxiliary variables with numbers above those in use.
use Rattle.std.specs.Prelude.{ℕ, zero, suc, max, Bool, true, nat_lt, List, [], ◌∷◌}
use Rattle.std.specs.List.{filter}
use Rattle.affine_systems.specs.declared.row.Var.{Var}
use Rattle.affine_systems.specs.declared.row.Var.TheVariants.{Cell, Exit, Phi, Aux}

-- the least number that is above a variable's, where that is an Aux, and not below m
abbrev pub above_aux : Var → ℕ → ℕ
above_aux (Cell n) m = m
above_aux (Exit n) m = m
above_aux (Phi n) m = m
above_aux (Aux n) m = max (suc n) m

-- the least number above every Aux
abbrev pub fresh_after : List Var → ℕ
fresh_after [] = 0
fresh_after (v ∷ vs) = above_aux v (fresh_after vs)

-- so many Aux from a number on
abbrev pub aux_from : ℕ → ℕ → List Var
aux_from n zero = []
aux_from n (suc k) = Aux n ∷ aux_from (suc n) k

-- no Aux from n on
abbrev pub is_old : ℕ → Var → Bool
is_old n (Cell m) = true
is_old n (Exit m) = true
is_old n (Phi m) = true
is_old n (Aux m) = nat_lt m n

abbrev pub old_vars : ℕ → List Var → List Var
old_vars n vs = filter (is_old n) vs
