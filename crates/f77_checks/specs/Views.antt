-- What the code has, as definitions see it.
use Rattle.std.specs.Prelude.{List, Option, Some, None}
use Rattle.f77_ast.specs.Places.{Dim}
use Rattle.fx_lists.specs.declared.refusal.Refusal.{Refusal}
use Rattle.f77_names.specs.declared.table.NameTable.{NameTable}
use Rattle.f77_names.specs.Views.{table_tree}
use Rattle.f77_checks.specs.declared.sizes.Dimensions.{Dimensions}
use Rattle.f77_checks.specs.Sizes.{dims_tree}
use Rattle.f77_checks.specs.Parameters.{Valued}

-- the dimensions of a name, where they are known
abbrev pub known_dims : Option Dimensions → Option (List Dim)
known_dims None = None
known_dims (Some d) = Some (dims_tree d.sizes)

-- the names with their values, and the first refusal
abbrev pub valued_tree : NameTable → Option Refusal → Valued
valued_tree t found = record { table = table_tree t; found = found }
