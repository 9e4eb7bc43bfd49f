use Rattle.std.proofs.Common.{◌≡◌, drop}
use Rattle.std.specs.List.{list_any}
use Rattle.storage_data.specs.Initials.{is_excluded}
use Rattle.storage_data.proofs.targets.some_excluded.Given as goal

abbrev pub invariant-loop-target : goal.invariant-loop-target
invariant-loop-target l = list_any is_excluded (drop l.target-index l.targets) ≡ list_any is_excluded l.targets
