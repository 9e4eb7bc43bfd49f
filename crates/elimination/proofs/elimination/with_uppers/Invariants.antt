use Rattle.std.proofs.Common.{◌≡◌, ◌+◌, ◌++◌, drop}
use Rattle.affine_systems.specs.Eliminate.{with_uppers}
use Rattle.elimination.proofs.elimination.with_uppers.Given as goal

abbrev pub invariant-loop-i : goal.invariant-loop-i
invariant-loop-i l = l.out.items ++ with_uppers (l.made + l.i) l.v l.low (drop l.i l.ups) ≡ l.fn.out.items ++ with_uppers l.fn.made l.fn.v l.fn.low l.fn.ups
