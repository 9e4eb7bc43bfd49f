use Rattle.std.proofs.Common.{◌≡◌, length}
use Rattle.f77_structure.specs.Terminals.{put_back, spoiled_run}
use Rattle.f77_structure.proofs.terminals.spoiled_run.Given as goal

abbrev pub invariant-loop-block : goal.invariant-loop-block
invariant-loop-block l = put_back l.taken (spoiled_run l.fn.label l.rest) ≡ spoiled_run l.fn.label l.fn.stack

abbrev pub decreases-loop-block : goal.decreases-loop-block
decreases-loop-block l = length l.rest
