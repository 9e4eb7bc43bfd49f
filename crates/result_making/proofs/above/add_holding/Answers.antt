use Rattle.result_making.proofs.Fitting.{all_hold}
use Rattle.result_making.proofs.above.add_holding.Goals as goal

pub returns-clause-fits : goal.returns-clause-fits
returns-clause-fits c = all_hold c.push.new.self.items c.args.above.now.items _ c.in_ok-push.ensures.items c.requires c.in-Some-preconditions.ensures.fits
