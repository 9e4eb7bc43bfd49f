use Rattle.std.proofs.Common.{◌≡◌, length, map}
use Rattle.std.specs.List.{list_any}
use Rattle.f77_ast.specs.Symbols.{symbol_tree}
use Rattle.tracked_cells.specs.Standing.{untracks_at}
use Rattle.tracked_cells.proofs.standing.some_other.Given as goal

abbrev pub invariant-loop-rest : goal.invariant-loop-rest
invariant-loop-rest l =
    list_any (untracks_at l.names (map symbol_tree l.table) l.at) (map symbol_tree l.rest) ≡ list_any (untracks_at l.names (map symbol_tree l.table) l.at) (map symbol_tree l.table)

abbrev pub decreases-loop-rest : goal.decreases-loop-rest
decreases-loop-rest l = length l.rest
