use Rattle.std.proofs.Common.{sym, ◌∙◌}
use Rattle.transformers.specs.Jumps.{such_of}
use Rattle.transformers.proofs.WhileSteps.{only_last_step}
use Rattle.transformers.proofs.whiles.only_last.Goals as goal

pub loop-rest-preserved : goal.loop-rest-preserved
loop-rest-preserved c =
    only_last_step (such_of c.args.sought.now) c.loop-rest.rest.now c.s-item.result c.in-len1-up.len_at_least c.s-item.is (sym c.is_end.ensures ∙ c.if-is_end.false) (sym c.stmt_has.ensures ∙ c.if-stmt_has.false)
    ∙ c.loop-rest.invariant
