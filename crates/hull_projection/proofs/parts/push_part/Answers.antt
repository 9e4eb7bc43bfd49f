use Rattle.hull_projection.proofs.PartSteps.{all_fit_push}
use Rattle.hull_projection.proofs.parts.push_part.Goals as goal

pub returns-in_ok-push-clause-fits : goal.returns-in_ok-push-clause-fits
returns-in_ok-push-clause-fits c = all_fit_push c.args.out.now.items c.push.new.self.items c.in_ok-part.part c.requires.out c.in_ok-part.ensures.fits c.in_ok-push.ensures.items
