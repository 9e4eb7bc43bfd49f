use Rattle.region_sets.proofs.TrimSteps.{joined_last}
use Rattle.region_sets.proofs.trimming.with_hull.Goals as goal

pub returns-in_ok-push-in-Some-clause-defined : goal.returns-in_ok-push-in-Some-clause-defined
returns-in_ok-push-in-Some-clause-defined c =
    joined_last c.args.pieces.items c.pop.new.self.items c.push-in-Some.new.self.items c.in-Some.s c.args.last c.in_ok-both-in-Some.both c.in-Some.ensures.items c.in_ok-both-in-Some.ensures.defined c.in_ok-push-in-Some.ensures.items
