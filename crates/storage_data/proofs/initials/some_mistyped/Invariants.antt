use Rattle.std.proofs.Common.{◌≡◌, drop}
use Rattle.std.specs.List.{list_any}
use Rattle.f77_names.specs.Views.{table_tree}
use Rattle.storage_data.specs.Initials.{is_mistyped}
use Rattle.storage_data.proofs.initials.some_mistyped.Given as goal

abbrev pub invariant-loop-piece : goal.invariant-loop-piece
invariant-loop-piece l = list_any (is_mistyped (table_tree l.table)) (drop l.piece-index l.pieces) ≡ list_any (is_mistyped (table_tree l.table)) l.pieces
