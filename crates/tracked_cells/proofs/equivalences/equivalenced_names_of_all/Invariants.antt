use Rattle.std.proofs.Common.{◌≡◌, ◌++◌, length, map}
use Rattle.f77_ast.specs.PlainDecl.{parsed_tree}
use Rattle.tracked_cells.specs.Untracked.{equivalenced_names_of_all}
use Rattle.tracked_cells.proofs.equivalences.equivalenced_names_of_all.Given as goal

abbrev pub invariant-loop-rest : goal.invariant-loop-rest
invariant-loop-rest l = l.all ++ equivalenced_names_of_all (map parsed_tree l.rest) ≡ equivalenced_names_of_all (map parsed_tree l.fn.modules)

abbrev pub decreases-loop-rest : goal.decreases-loop-rest
decreases-loop-rest l = length l.rest
