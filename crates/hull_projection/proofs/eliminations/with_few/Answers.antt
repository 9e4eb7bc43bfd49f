use Rattle.std.proofs.Common.{◌∙◌, rules}
use Rattle.std.proofs.lemmas.Fn.{filter_same}
use Rattle.hull_projection.specs.Refute.{has_few}
use Rattle.hull_projection.proofs.eliminations.with_few.Goals as goal

pub returns : goal.returns
returns c = c.from_vec.ensures ∙ (filter_same _ (has_few c.args.pairs) _ (λ x b f k. search rules) _ _ c.retain.ensures.filtered ∙ search rules)
