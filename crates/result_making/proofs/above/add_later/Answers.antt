use Rattle.result_making.proofs.Fitting.{all_outs}
use Rattle.result_making.proofs.above.add_later.Goals as goal

pub returns-clause-fits : goal.returns-clause-fits
returns-clause-fits c = all_outs c.push.new.self.items c.args.above.now.items _ c.in_ok-push.ensures.items c.requires c.in-Some-out_regions.ensures.fits.0
