-- Auxiliary variables: what has no place in the module that a system is translated to, and is projected away there.
use Rattle.std.specs.Prelude.{List, [], ◌∷◌, ◌++◌}
use Rattle.affine_systems.specs.declared.row.Var.{Var}
use Rattle.affine_systems.specs.declared.row.Var.TheVariants.{Cell, Exit, Phi, Aux}
use Rattle.transformer_algebra.specs.declared.naming.Naming.{Naming}

-- a variable, if it is auxiliary
abbrev pub auxiliary_of : Var → List Var
auxiliary_of (Cell d) = []
auxiliary_of (Exit d) = []
auxiliary_of (Phi d) = []
auxiliary_of (Aux d) = Aux d ∷ []

-- the auxiliary variables that stand for others: those without a place in the module that a system is translated to
abbrev pub auxiliaries_in : List Naming → List Var
auxiliaries_in [] = []
auxiliaries_in (n ∷ ns) = auxiliary_of n.to ++ auxiliaries_in ns
