use Rattle.std.proofs.Common.{pos}
use Rattle.affine_systems.specs.declared.row.Var.TheVariants.{Cell}
use Rattle.affine_systems.specs.Terms.{term}
use Rattle.affine_systems.proofs.Merges.{small_at}
use Rattle.hull_projection.proofs.lifting.push_negated.Goals as goal

pub negated_copy-requires-clause-small : goal.negated_copy-requires-clause-small
negated_copy-requires-clause-small c = small_at c.args.terms.now c.loop-t.t-index (term (Cell 0) (pos 0)) c.requires.small c.loop-t-test.true
