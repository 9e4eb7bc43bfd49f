-- An expression that was read leaves no more than there was.
use Rattle.f77_exprs.specs.State.{state}
use Rattle.f77_exprs.proofs.Shorter.{returned_shorter}
use Rattle.f77_exprs.proofs.expr.expression.Goals as goal

pub returns-clause-shorter : goal.returns-clause-shorter
returns-clause-shorter c = returned_shorter c.whole.result (state c.args.at) c.whole.ensures
