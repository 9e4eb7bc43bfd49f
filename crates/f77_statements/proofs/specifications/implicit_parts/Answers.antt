-- The parts of IMPLICIT are their own plain trees.
use Rattle.std.proofs.lemmas.List.{map-id}
use Rattle.f77_statements.specs.Specifications.{implicit_parts}
use Rattle.f77_statements.proofs.specifications.implicit_parts.Goals as goal

pub returns : goal.returns
unfolding implicit_parts
returns c = let e = simp map-id at c.in_ok-parts.ensures in simp e
