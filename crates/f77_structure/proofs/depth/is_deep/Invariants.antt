use Rattle.std.proofs.Common.{◌≡◌, ◌+◌, ◌≤◌, length}
use Rattle.f77_structure.specs.Depth.{is_deep_from, is_deep}
use Rattle.f77_structure.proofs.depth.is_deep.Given as goal

abbrev pub invariant-loop-rest : goal.invariant-loop-rest
invariant-loop-rest l = record {
  same : is_deep_from l.depth l.rest ≡ is_deep l.fn.body;
  room : l.depth.opened + length l.rest ≤ length l.fn.body;
}

abbrev pub decreases-loop-rest : goal.decreases-loop-rest
decreases-loop-rest l = length l.rest
