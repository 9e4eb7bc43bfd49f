use Rattle.std.proofs.Common.{◌≡◌, ◌+◌, drop}
use Rattle.storage_data.specs.Initials.{values_in}
use Rattle.storage_data.proofs.values.values_in.Given as goal

abbrev pub invariant-loop-run : goal.invariant-loop-run
invariant-loop-run l = l.values + values_in (drop l.run-index l.runs) ≡ values_in l.runs
