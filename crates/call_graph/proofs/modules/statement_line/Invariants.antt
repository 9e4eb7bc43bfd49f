use Rattle.std.proofs.Common.{◌≡◌, length}
use Rattle.call_graph.specs.Modules.{statement_line}
use Rattle.call_graph.proofs.modules.statement_line.Given as goal

abbrev pub invariant-loop-rest : goal.invariant-loop-rest
invariant-loop-rest l = statement_line l.id l.rest ≡ statement_line l.id l.fn.spots

abbrev pub decreases-loop-rest : goal.decreases-loop-rest
decreases-loop-rest l = length l.rest
