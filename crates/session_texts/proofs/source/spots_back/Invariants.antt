use Rattle.std.proofs.Common.{◌≡◌, ◌++◌, length, map}
use Rattle.session_texts.specs.Joined.{spot_back}
use Rattle.session_texts.proofs.source.spots_back.Given as goal

abbrev pub invariant-loop-spot : goal.invariant-loop-spot
invariant-loop-spot l = l.back ++ map (spot_back l.by) l.rest ≡ map (spot_back l.by) l.fn.spots

abbrev pub decreases-loop-spot : goal.decreases-loop-spot
decreases-loop-spot l = length l.rest
