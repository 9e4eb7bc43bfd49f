use Rattle.std.proofs.Common.{◌≡◌, map, length}
use Rattle.f77_parser.specs.SoFar.{so_far}
use Rattle.f77_parser.specs.Statements.{statement_tree}
use Rattle.f77_parser.specs.Building.{add_all, no_statements}
use Rattle.f77_parser.proofs.read.written_module.Given as goal

abbrev pub invariant-loop-statement : goal.invariant-loop-statement
invariant-loop-statement l =
    add_all (map statement_tree l.rest) (so_far l.progress) ≡ add_all (map statement_tree l.fn.statements) no_statements

abbrev pub decreases-loop-statement : goal.decreases-loop-statement
decreases-loop-statement l = length l.rest
