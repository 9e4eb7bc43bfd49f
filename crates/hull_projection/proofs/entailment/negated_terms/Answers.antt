use Rattle.std.proofs.Common.{pos}
use Rattle.affine_systems.specs.declared.row.Var.TheVariants.{Cell}
use Rattle.affine_systems.specs.Terms.{term}
use Rattle.affine_systems.proofs.Merges.{small_at}
use Rattle.hull_projection.proofs.entailment.negated_terms.Goals as goal

pub negation-requires : goal.negation-requires
negation-requires c = small_at c.args.terms.now c.loop-t.t-index (term (Cell 0) (pos 0)) c.requires c.loop-t-test.true
