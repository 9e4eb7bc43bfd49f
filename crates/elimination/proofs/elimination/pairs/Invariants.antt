use Rattle.std.proofs.Common.{◌++◌}
use Rattle.affine_systems.specs.Eliminate.{pairs}
use Rattle.elimination.proofs.ElimSteps.{IsPaired}
use Rattle.elimination.proofs.elimination.pairs.Given as goal

abbrev pub invariant-loop-low : goal.invariant-loop-low
invariant-loop-low l = IsPaired l.v l.lows l.ups l.low-index l.next l.out.items (l.fn.out.items ++ pairs l.fn.made l.fn.v l.fn.lows l.fn.ups) l.fn.made
