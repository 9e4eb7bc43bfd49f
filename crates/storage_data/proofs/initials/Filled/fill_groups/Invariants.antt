use Rattle.std.proofs.Common.{◌≡◌, drop, map}
use Rattle.f77_ast.specs.PlainDecl.{data_tree}
use Rattle.f77_names.specs.Views.{table_tree}
use Rattle.storage_data.specs.Initials.{groups_filled}
use Rattle.storage_data.proofs.initials.Filled.fill_groups.Given as goal

abbrev pub invariant-loop-group : goal.invariant-loop-group
invariant-loop-group l =
    groups_filled (table_tree l.table) l.offset_nodes (map data_tree (drop l.group-index l.groups)) l.line l.self ≡ groups_filled (table_tree l.table) l.offset_nodes (map data_tree l.groups) l.line l.initial.self
