-- How many units a name takes, and its place among the names.
use Rattle.std.specs.Prelude.{ℕ, List, Option, Some, None}
use Rattle.f77_ast.specs.Places.{Dim, total_size}
use Rattle.f77_names.specs.Entries.{EntryTree, find, place_in}
use Rattle.f77_names.specs.Tables.{NameTable}
use Rattle.f77_checks.specs.Dimensions.{dims_in}

-- the place of a name among the names, from 0
abbrev pub place_of : NameTable → List ℕ → Option ℕ
place_of t x = place_in t.entries x

-- a variable whose dimensions are not known counts as one unit
abbrev pub units_by : Option (List Dim) → ℕ
units_by None = 1
units_by (Some ds) = total_size ds

abbrev pub units_of_entry : NameTable → Option EntryTree → ℕ
units_of_entry t None = 1
units_of_entry t (Some e) = units_by (dims_in t e)

abbrev pub units_of : NameTable → List ℕ → ℕ
units_of t x = units_of_entry t (find x t.entries)
