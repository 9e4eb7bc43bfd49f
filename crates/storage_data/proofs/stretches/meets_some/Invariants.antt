use Rattle.std.proofs.Common.{◌≡◌, drop}
use Rattle.storage_data.specs.Initials.{meets_some}
use Rattle.storage_data.proofs.stretches.meets_some.Given as goal

abbrev pub invariant-loop-other : goal.invariant-loop-other
invariant-loop-other l = meets_some l.stretch (drop l.other-index l.before) ≡ meets_some l.stretch l.before
