use Rattle.std.proofs.Common.{◌≡◌, drop}
use Rattle.std.specs.List.{list_any}
use Rattle.storage_data.specs.Initials.{is_open}
use Rattle.storage_data.proofs.targets.some_open.Given as goal

abbrev pub invariant-loop-target : goal.invariant-loop-target
invariant-loop-target l = list_any is_open (drop l.target-index l.targets) ≡ list_any is_open l.targets
