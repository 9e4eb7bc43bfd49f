-- What was laid out, as definitions see it.
use Rattle.std.specs.Prelude.{List, Bool}
use Rattle.f77_names.specs.declared.table.NameTable.{NameTable}
use Rattle.f77_names.specs.Views.{table_tree}
use Rattle.storage_data.specs.declared.offset_node.OffsetNode.{OffsetNode}
use Rattle.std.specs.Prelude.{ℕ}
use Rattle.storage_data.specs.declared.deals.Piece.{Piece}
use Rattle.storage_layout.specs.declared.layout.Layout.{Layout}
use Rattle.storage_layout.specs.Table as table

abbrev pub layout_of : NameTable → List OffsetNode → List (List ℕ) → List Piece → Bool → table.Layout
layout_of t ss names ps save_all = record { table = table_tree t; offset_nodes = ss; names = names; pieces = ps; save_all = save_all }

abbrev pub layout_tree : Layout → table.Layout
layout_tree l = layout_of l.table.now l.offset_nodes.now l.names.now l.pieces.now l.save_all
