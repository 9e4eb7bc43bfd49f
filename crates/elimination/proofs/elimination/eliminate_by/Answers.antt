use Rattle.std.proofs.Common.{◌∙◌}
use Rattle.elimination.proofs.ElimSteps.{fit_small, by_given}
use Rattle.elimination.proofs.elimination.eliminate_by.Goals as goal

pub cancel_by-requires-clause-each : goal.cancel_by-requires-clause-each
cancel_by-requires-clause-each c = fit_small c.args.rational c.args.items.items c.requires.fits

pub tidy_items-requires : goal.tidy_items-requires
tidy_items-requires c = record { fits = by_given c.args.rational c.args.v c.args.items.items c.from_vec.result c.args.at c.requires.fits c.requires.within (c.from_vec.ensures ∙ c.in_ok-rest.ensures) }
