-- Names are their own plain trees.
use Rattle.std.proofs.lemmas.List.{map-id}
use Rattle.f77_statements.specs.Statements.{function_statement}
use Rattle.f77_statements.proofs.blocks.function_by.Goals as goal

pub returns : goal.returns
unfolding function_statement
returns c = let e = simp map-id at c.in_ok-dummies.ensures in simp (c.in_ok-at.ensures.defined, c.in_ok-name.ensures, c.in_ok-at-2.ensures.defined, e)
