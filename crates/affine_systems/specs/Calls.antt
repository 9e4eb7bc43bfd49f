-- The calls that end in a tidy, and substitution in a row.
use Rattle.std.specs.Prelude.{false, ◌||◌, if◌then◌else◌, [], ◌∷◌, ◌++◌, map, Option}
use Rattle.std.specs.declared.option.Option.TheVariants.{Some, None}
use Rattle.affine_systems.specs.declared.row.Var.{Var}
use Rattle.affine_systems.specs.declared.row.Row.{Row}
use Rattle.affine_systems.specs.declared.row.System.{System}
use Rattle.affine_systems.specs.Terms.{var_eq}
use Rattle.affine_systems.specs.Rows.{system, renamed_row}
use Rattle.affine_systems.specs.Normal.{Normal, Kept, Always, Never, TooBig, normal}
use Rattle.affine_systems.specs.Tidy.{tidy, by_row}

abbrev pub push_row : System → Row → System
push_row s r = tidy (system (s.rows ++ r ∷ []) s.weak)

abbrev pub meet : System → System → System
meet a b = tidy (system (a.rows ++ b.rows) (a.weak || b.weak))

abbrev pub one_by : Var → Var → Var → Var
one_by from to v = if var_eq v from then to else v

abbrev pub rename : System → Var → Var → System
rename s from to = tidy (system (map (renamed_row (one_by from to)) s.rows) s.weak)

-- the normal form, or the row itself where it always or never holds
abbrev pub unless_too_big : Normal → Row → Option Row
unless_too_big (Kept s) r = Some s
unless_too_big Always r = Some r
unless_too_big Never r = Some r
unless_too_big TooBig r = None

-- the row with v replaced by the equal row
abbrev pub substitute : Row → Var → Row → Option Row
substitute r v e = unless_too_big (normal false (by_row r v e)) (by_row r v e)
