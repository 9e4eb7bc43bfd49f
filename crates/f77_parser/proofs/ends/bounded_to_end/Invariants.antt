use Rattle.std.proofs.Common.{◌≡◌, ◌++◌, drop, map}
use Rattle.f77_parser.specs.Functions.{bounded_names}
use Rattle.f77_parser.specs.Ends.{decls_to_end}
use Rattle.f77_parser.specs.Statements.{statement_tree}
use Rattle.f77_parser.proofs.ends.bounded_to_end.Given as goal

abbrev pub invariant-loop-statement : goal.invariant-loop-statement
invariant-loop-statement l = l.names ++ bounded_names (decls_to_end (map statement_tree (drop l.statement-index l.statements))) ≡ bounded_names (decls_to_end (map statement_tree l.statements))
