use Rattle.std.proofs.Common.{◌≡◌, ◌++◌, drop}
use Rattle.storage_data.specs.Initials.{stretches_of}
use Rattle.storage_data.proofs.stretches.stretches_of.Given as goal

abbrev pub invariant-loop-target : goal.invariant-loop-target
invariant-loop-target l = l.stretches ++ stretches_of l.offset_nodes (drop l.target-index l.targets) ≡ stretches_of l.offset_nodes l.targets
