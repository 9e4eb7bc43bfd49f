-- Cleaning: rows that the others entail are dropped.
use Rattle.std.specs.Prelude.{Bool, not, ◌&&◌, if◌then◌else◌, List, [], ◌∷◌, ◌++◌}
use Rattle.affine_systems.specs.declared.row.Row.{Row}
use Rattle.affine_systems.specs.declared.row.System.{System}
use Rattle.affine_systems.specs.Rows.{system}
use Rattle.hull_projection.specs.Refute.{entails}

-- an at-most row that others entail
abbrev pub is_spare : List Row → Row → Bool
is_spare rs r = not r.equal && entails rs r

-- rows before those after it, unless it is spare beside these and those in front
abbrev pub unless_spare : List Row → Row → List Row → List Row
unless_spare front r after = if is_spare (front ++ after) r then after else r ∷ after

-- rows behind others, cleaned from the last to the first
abbrev pub cleaned_behind : List Row → List Row → List Row
cleaned_behind front [] = []
cleaned_behind front (r ∷ rs) = unless_spare front r (cleaned_behind (front ++ r ∷ []) rs)

abbrev pub clean_rows : List Row → List Row
clean_rows rs = cleaned_behind [] rs

abbrev pub clean : System → System
clean s = system (clean_rows s.rows) s.weak
