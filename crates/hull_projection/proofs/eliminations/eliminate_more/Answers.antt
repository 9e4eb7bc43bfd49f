use Rattle.hull_projection.proofs.FitLaws.{few_fits}
use Rattle.hull_projection.proofs.eliminations.eliminate_more.Goals as goal

pub returns-clause-fits : goal.returns-clause-fits
returns-clause-fits c = few_fits c.args.rational c.if-e.pairs c.in_ok-e.e.items c.with_few.result c.with_few.ensures c.in_ok-e.ensures.fits
