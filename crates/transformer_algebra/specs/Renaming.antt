-- Variables renamed all at once, and rows added to a system together.
use Rattle.std.specs.Prelude.{◌^◌, List, [], ◌∷◌, ◌++◌, map, false, if◌then◌else◌}
use Rattle.affine_systems.specs.declared.row.Var.{Var}
use Rattle.affine_systems.specs.declared.row.Term.{Term}
use Rattle.affine_systems.specs.declared.row.Row.{Row}
use Rattle.affine_systems.specs.declared.row.System.{System}
use Rattle.affine_systems.specs.Terms.{var_eq}
use Rattle.affine_systems.specs.Rows.{system, renamed_row}
use Rattle.affine_systems.specs.Given.{FactorsBelow}
use Rattle.affine_systems.specs.Tidy.{tidy}
use Rattle.transformer_algebra.specs.declared.naming.Naming.{Naming}

abbrev pub naming : Var → Var → Naming
naming v w = record { from = v; to = w }

-- what the first naming of a variable says, or the variable itself
abbrev pub renamed_by : List Naming → Var → Var
renamed_by [] v = v
renamed_by (n ∷ ns) v = if var_eq v n.from then n.to else renamed_by ns v

abbrev pub rename_all : List Naming → System → System
rename_all ns s = tidy (system (map (renamed_row (renamed_by ns)) s.rows) s.weak)

abbrev pub of_rows : List Row → System
of_rows rs = tidy (system rs false)

abbrev pub push_rows : System → List Row → System
push_rows s rs = tidy (system (s.rows ++ rs) s.weak)

-- factors such as a row has that is given to a call
abbrev pub FactorsGiven : List Term → Type 0
FactorsGiven ts = FactorsBelow (2 ^ 126) ts
