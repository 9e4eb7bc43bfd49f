use Rattle.std.proofs.Common.{◌≡◌, ◌++◌, drop, map}
use Rattle.f77_parser.specs.Standing.{statement_names}
use Rattle.f77_parser.specs.Statements.{statement_tree}
use Rattle.f77_parser.proofs.standing.add_statements.Given as goal

abbrev pub invariant-loop-statement : goal.invariant-loop-statement
invariant-loop-statement l = l.names ++ statement_names l.bounded (map statement_tree (drop l.statement-index l.statements)) ≡ l.fn.names ++ statement_names l.bounded (map statement_tree l.statements)
