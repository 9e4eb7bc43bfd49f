use Rattle.std.proofs.Common.{◌≡◌, ◌++◌, drop}
use Rattle.result_lines.specs.ReductionText.{reduction_clauses}
use Rattle.result_lines.proofs.directive.put_reductions.Given as goal

abbrev pub invariant-loop-part : goal.invariant-loop-part
invariant-loop-part l = l.out ++ reduction_clauses l.names (drop l.part-index l.parts) ≡ l.fn.out ++ reduction_clauses l.names l.parts
