use Rattle.std.proofs.Common.{◌≡◌, drop}
use Rattle.f77_exprs.specs.State.{state}
use Rattle.f77_exprs.specs.Operators.{one_of}
use Rattle.f77_exprs.proofs.operators.one_of.Given as goal

abbrev pub invariant-loop-op : goal.invariant-loop-op
invariant-loop-op l = one_of (drop l.op-index l.ops) (state l.at) ≡ one_of l.ops (state l.at)
