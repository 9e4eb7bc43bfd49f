use Rattle.std.proofs.Common.{◌≡◌, ◌+◌, drop}
use Rattle.storage_data.specs.Initials.{units_in}
use Rattle.storage_data.proofs.targets.units_in.Given as goal

abbrev pub invariant-loop-target : goal.invariant-loop-target
invariant-loop-target l = l.units + units_in (drop l.target-index l.targets) ≡ units_in l.targets
