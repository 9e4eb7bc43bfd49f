use Rattle.std.proofs.Common.{vec_len}
use Rattle.elimination.proofs.ElimSteps.{IsSplit}
use Rattle.elimination.proofs.elimination.split_by_sign.Given as goal

abbrev pub invariant-loop-item : goal.invariant-loop-item
invariant-loop-item l = IsSplit l.v l.items.items l.lows.items l.ups.items l.rest.items l.fn.items.items

abbrev pub decreases-loop-item : goal.decreases-loop-item
decreases-loop-item l = vec_len l.items
