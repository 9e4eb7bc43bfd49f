-- A variable replaced by what an equal row says that it is.
use Rattle.std.specs.Prelude.{Bool, true, false, ◌||◌, if◌then◌else◌, List, [], ◌∷◌, Option, Some, None}
use Rattle.affine_systems.specs.declared.row.Var.{Var}
use Rattle.affine_systems.specs.declared.row.Row.{Row}
use Rattle.affine_systems.specs.declared.row.System.{System}
use Rattle.affine_systems.specs.Rows.{system, false_row}
use Rattle.affine_systems.specs.Normal.{Normal, Kept, Always, Never, TooBig, normal}
use Rattle.affine_systems.specs.Calls.{substitute}
use Rattle.region_sets.specs.Naming.{in_terms}

-- a row in normal form; 0 <= -1 where it never holds
abbrev pub settled_by : Normal → Row → Row
settled_by (Kept s) r = s
settled_by Always r = r
settled_by Never r = false_row
settled_by TooBig r = r

abbrev pub normal_form : Option Row → Option Row
normal_form None = None
normal_form (Some r) = Some (settled_by (normal false r) r)

-- a row with the variable replaced by what the row e says that it is; None where a number reaches 2^62
abbrev pub put_in : Var → Row → Row → Option Row
put_in v e r = if in_terms v r.terms then normal_form (substitute r v e) else Some r

abbrev pub before_rows : Option Row → List Row → List Row
before_rows None rs = rs
before_rows (Some r) rs = r ∷ rs

abbrev pub put_in_all : Var → Row → List Row → List Row
put_in_all v e [] = []
put_in_all v e (r ∷ rs) = before_rows (put_in v e r) (put_in_all v e rs)

abbrev pub is_lost : Option Row → Bool
is_lost None = true
is_lost (Some r) = false

abbrev pub loses_row : Var → Row → List Row → Bool
loses_row v e [] = false
loses_row v e (r ∷ rs) = is_lost (put_in v e r) || loses_row v e rs

abbrev pub put_row : Var → Row → System → System
put_row v e s = system (put_in_all v e s.rows) (s.weak || loses_row v e s.rows)
