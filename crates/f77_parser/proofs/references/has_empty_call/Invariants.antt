use Rattle.std.proofs.Common.{◌≡◌, drop, map}
use Rattle.f77_parser.specs.References.{has_empty_call}
use Rattle.f77_parser.specs.Statements.{statement_tree}
use Rattle.f77_parser.proofs.references.has_empty_call.Given as goal

abbrev pub invariant-loop-statement : goal.invariant-loop-statement
invariant-loop-statement l = has_empty_call (map statement_tree (drop l.statement-index l.statements)) ≡ has_empty_call (map statement_tree l.statements)
