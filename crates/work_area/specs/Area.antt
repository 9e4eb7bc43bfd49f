-- What a work area holds, as contracts see it.
use Rattle.std.specs.Prelude.{ℕ, false, []}
use Rattle.affine_systems.specs.declared.row.System.{System}
use Rattle.affine_systems.specs.Rows.{system}
use Rattle.affine_systems.specs.Items.{items_from}
use Rattle.work_area.specs.Columns.{InColumns}

-- a system, and how many variables it may have
pub record Area : Type 0 where
  pub system : System
  pub columns : ℕ

abbrev pub area : System → ℕ → Area
area s n = record { system = s; columns = n }

abbrev pub no_rows : System
no_rows = system [] false

-- the system has at most n variables
abbrev pub HasFew : ℕ → System → Type 0
HasFew n s = InColumns n (items_from 0 s.rows)
