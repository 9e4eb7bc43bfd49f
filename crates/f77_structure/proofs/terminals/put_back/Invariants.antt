use Rattle.std.proofs.Common.{◌≡◌, length}
use Rattle.f77_structure.specs.Terminals.{put_back}
use Rattle.f77_structure.proofs.terminals.put_back.Given as goal

abbrev pub invariant-loop-block : goal.invariant-loop-block
invariant-loop-block l = put_back l.taken l.rest ≡ put_back l.fn.taken l.fn.rest

abbrev pub decreases-loop-block : goal.decreases-loop-block
decreases-loop-block l = length l.taken
