use Rattle.std.proofs.Common.{◌≡◌, drop}
use Rattle.affine_systems.specs.Eliminate.{every_pair_unit}
use Rattle.elimination.proofs.elimination.every_pair_unit.Given as goal

abbrev pub invariant-loop-low : goal.invariant-loop-low
invariant-loop-low l = every_pair_unit l.v (drop l.low-index l.lows) l.ups ≡ every_pair_unit l.fn.v l.fn.lows l.fn.ups
