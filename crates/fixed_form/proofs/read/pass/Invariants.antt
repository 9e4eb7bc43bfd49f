use Rattle.std.proofs.Common.{◌≤◌, ◌<◌, ◌+◌, ◌^◌, length}
use Rattle.fixed_form.specs.Faults.{continuations_of}
use Rattle.fixed_form.specs.Steps.{begun_of}
use Rattle.fixed_form.proofs.Pass.{Left}
use Rattle.fixed_form.proofs.read.pass.Given as goal

abbrev pub invariant-loop-rest : goal.invariant-loop-rest
invariant-loop-rest l = record {
  left : Left l.text l.progress (l.count + 1) l.rest;
  room : continuations_of (begun_of l.progress.current) ≤ l.count;
  count : l.count + length l.rest ≤ length l.text;
  small : length l.text < 2 ^ 28;
}

abbrev pub decreases-loop-rest : goal.decreases-loop-rest
decreases-loop-rest l = length l.rest
