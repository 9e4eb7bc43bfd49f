use Rattle.result_making.proofs.Fitting.{all_fit}
use Rattle.result_making.proofs.below.add_transformers.Goals as goal

pub returns-clause-fits : goal.returns-clause-fits
returns-clause-fits c = all_fit c.push.new.self.items c.args.below.now.items _ c.in_ok-push.ensures.items c.requires c.in-Some-transformers.ensures.fits.1
