use Rattle.std.proofs.Common.{length}
use Rattle.region_translation.proofs.units.+element_place.Given as goal

abbrev pub decreases-element_place : goal.decreases-element_place
decreases-element_place l = length l.bounds.now
