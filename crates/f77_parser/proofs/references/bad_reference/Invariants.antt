use Rattle.std.proofs.Common.{◌≡◌, drop, map}
use Rattle.f77_parser.specs.References.{bad_reference_from}
use Rattle.f77_parser.specs.Statements.{statement_tree}
use Rattle.f77_parser.proofs.references.bad_reference.Given as goal

abbrev pub invariant-loop-statement : goal.invariant-loop-statement
invariant-loop-statement l = bad_reference_from l.bounded l.names (map statement_tree (drop l.statement-index l.statements)) ≡ bad_reference_from l.bounded l.names (map statement_tree l.statements)
