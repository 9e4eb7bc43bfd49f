use Rattle.std.proofs.Common.{◌≡◌, ◌++◌, drop}
use Rattle.std.specs.Prelude.{◌||◌}
use Rattle.storage_data.specs.Initials.{meet_twice}
use Rattle.storage_data.proofs.stretches.meet_twice.Given as goal

abbrev pub invariant-loop-stretch : goal.invariant-loop-stretch
invariant-loop-stretch l = record {
  same : (l.twice || meet_twice l.before (drop l.stretch-index l.new)) ≡ meet_twice l.initial.before l.new;
  all : l.before ++ drop l.stretch-index l.new ≡ l.initial.before ++ l.new;
}
