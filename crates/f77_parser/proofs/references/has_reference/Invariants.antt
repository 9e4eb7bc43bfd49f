use Rattle.std.proofs.Common.{◌≡◌, drop, map}
use Rattle.f77_parser.specs.References.{has_reference}
use Rattle.f77_parser.specs.Statements.{statement_tree}
use Rattle.f77_parser.proofs.references.has_reference.Given as goal

abbrev pub invariant-loop-statement : goal.invariant-loop-statement
invariant-loop-statement l = has_reference l.bounded (map statement_tree (drop l.statement-index l.statements)) ≡ has_reference l.bounded (map statement_tree l.statements)
