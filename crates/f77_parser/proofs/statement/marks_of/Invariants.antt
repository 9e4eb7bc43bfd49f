use Rattle.std.proofs.Common.{◌≡◌, ◌++◌, drop, map}
use Rattle.f77_parser.specs.Statements.{statement_tree, marks_of}
use Rattle.f77_parser.proofs.statement.marks_of.Given as goal

abbrev pub invariant-loop-statement : goal.invariant-loop-statement
invariant-loop-statement l = l.marks ++ marks_of (map statement_tree (drop l.statement-index l.statements)) ≡ marks_of (map statement_tree l.statements)
