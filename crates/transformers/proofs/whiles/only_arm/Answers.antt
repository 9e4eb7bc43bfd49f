use Rattle.std.proofs.Common.{sym}
use Rattle.transformers.proofs.WhileSteps.{other_arms}
use Rattle.transformers.proofs.whiles.only_arm.Goals as goal

pub returns-then-list-ne1-clause-defined : goal.returns-then-list-ne1-clause-defined
returns-then-list-ne1-clause-defined c = rw (sym c.as_slice-list.ensures) (other_arms c.as_slice-list.result.now c.args.other.now c.if-list-ne1.true)
