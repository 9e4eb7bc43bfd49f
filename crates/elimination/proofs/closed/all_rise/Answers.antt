use Rattle.std.proofs.Common.{arith}
use Rattle.elimination.proofs.LoneSteps.{all_rise}
use Rattle.elimination.proofs.closed.all_rise.Goals as goal

pub returns : goal.returns
returns c e = all_rise c.args.items.now (λ k l. c.loop-i.invariant k (omega (arith, l, c.loop-i-test.false)))
