use Rattle.std.proofs.Common.{◌≡◌, ◌++◌, drop, reverse}
use Rattle.storage_data.specs.Initials.{dealt}
use Rattle.storage_data.proofs.deals.dealt.Given as goal

abbrev pub invariant-loop-target : goal.invariant-loop-target
invariant-loop-target l = l.dealing.pieces ++ dealt (drop l.target-index l.targets) (reverse l.dealing.left) ≡ dealt l.targets l.fn.runs
