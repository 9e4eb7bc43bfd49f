use Rattle.std.proofs.Common.{Some}
use Rattle.out_regions.proofs.SettledSteps.{settled_met}
use Rattle.out_regions.proofs.used.push_used.Goals as goal

pub returns-in_ok-push_within-in-Some-clause-settled : goal.returns-in_ok-push_within-in-Some-clause-settled
returns-in_ok-push_within-in-Some-clause-settled c =
    settled_met c.args.out.now c.push_within.new.out c.args.w.now (Some c.in-Some.all) c.args.since c.requires.settled c.in_ok-push_within-in-Some.ensures.added
