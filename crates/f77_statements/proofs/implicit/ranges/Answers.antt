-- Ranges are their own plain trees.
use Rattle.std.proofs.lemmas.List.{map-id}
use Rattle.f77_statements.specs.Parts.{ranges}
use Rattle.f77_statements.proofs.implicit.ranges.Goals as goal

pub returns : goal.returns
unfolding ranges
returns c = let e = simp map-id at c.in_ok-ranges.ensures in simp (c.in_ok-at.ensures.defined, e)
