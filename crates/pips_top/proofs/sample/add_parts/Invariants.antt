use Rattle.std.proofs.Common.{◌≡◌, ◌++◌}
use Rattle.pips_top.specs.Sample.{parts_to}
use Rattle.pips_top.proofs.sample.add_parts.Given as goal

abbrev pub invariant-loop-k : goal.invariant-loop-k
invariant-loop-k l = l.out ≡ l.fn.out ++ parts_to l.k
