use Rattle.std.proofs.Common.{◌≡◌, map, length}
use Rattle.f77_parser.specs.Functions.{bounded_names}
use Rattle.f77_parser.specs.Statements.{statement_tree}
use Rattle.f77_parser.specs.Ends.{decls_to_end}
use Rattle.f77_parser.specs.References.{empty_call_from}
use Rattle.f77_parser.proofs.references.empty_call_fault.Given as goal

abbrev pub invariant-loop-rest : goal.invariant-loop-rest
invariant-loop-rest l = empty_call_from l.bounded (map statement_tree l.rest) ≡ empty_call_from (bounded_names (decls_to_end (map statement_tree l.fn.statements))) (map statement_tree l.fn.statements)

abbrev pub decreases-loop-rest : goal.decreases-loop-rest
decreases-loop-rest l = length l.rest
