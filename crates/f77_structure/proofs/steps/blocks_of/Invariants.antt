use Rattle.std.proofs.Common.{◌≡◌, ◌+◌, ◌≤◌, length}
use Rattle.f77_structure.specs.Steps.{all_stepped, nothing_open}
use Rattle.f77_structure.proofs.steps.blocks_of.Given as goal

abbrev pub invariant-loop-rest : goal.invariant-loop-rest
invariant-loop-rest l = record {
  same : all_stepped l.place l.rest l.blocks ≡ all_stepped 0 l.fn.marks nothing_open;
  room : l.place + length l.rest ≤ length l.fn.marks;
}

abbrev pub decreases-loop-rest : goal.decreases-loop-rest
decreases-loop-rest l = length l.rest
