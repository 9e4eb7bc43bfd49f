use Rattle.std.proofs.Common.{◌∙◌, rules}
use Rattle.std.proofs.lemmas.Fn.{filter_same}
use Rattle.hull_projection.specs.Fresh.{is_old}
use Rattle.hull_projection.proofs.fresh.old_vars.Goals as goal

pub returns : goal.returns
returns c = c.from_vec.ensures ∙ (filter_same _ (is_old c.args.first) _ (λ x b f k. search rules) _ _ c.retain.ensures.filtered ∙ search rules)
