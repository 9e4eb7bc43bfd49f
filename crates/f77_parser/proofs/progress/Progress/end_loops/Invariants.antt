use Rattle.std.proofs.Common.{◌≡◌, length}
use Rattle.f77_parser.specs.SoFar.{so_far, end_loops}
use Rattle.f77_parser.proofs.progress.Progress.end_loops.Given as goal

abbrev pub invariant-loop-block : goal.invariant-loop-block
invariant-loop-block l = end_loops l.fn.label (so_far l.self) ≡ end_loops l.fn.label (so_far l.fn.self)

abbrev pub decreases-loop-block : goal.decreases-loop-block
decreases-loop-block l = length l.self.around
