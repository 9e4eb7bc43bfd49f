-- The items of SAVE are their own plain trees.
use Rattle.std.proofs.lemmas.List.{map-id}
use Rattle.f77_statements.specs.Specifications.{save_statement}
use Rattle.f77_statements.proofs.specifications.save_statement.Goals as goal

pub returns : goal.returns
unfolding save_statement
returns c = let e = simp map-id at c.in_ok-saved.ensures in simp (c.in_ok-at.ensures.defined, e)
