use Rattle.result_lines.proofs.Clauses.{clauses_step}
use Rattle.result_lines.proofs.directive.put_reductions.Goals as goal

pub loop-part-preserved : goal.loop-part-preserved
loop-part-preserved c =
    clauses_step c.args.names.now c.args.parts.now c.loop-part.part-index _ c.loop-part.out c.put_reduction.new.out _ c.loop-part-test.true c.in_ok-put_reduction.ensures c.loop-part.invariant
