use Rattle.preconditions.proofs.WalkLaws.{each_pushed}
use Rattle.preconditions.proofs.statement.push_found.Goals as goal

pub returns-clause-fits : goal.returns-clause-fits
returns-clause-fits c =
    each_pushed c.args.at.now c.push.new.self c.args.id c.in_ok-value.value c.in_ok-push.ensures.ok c.requires.found c.in_ok-value.ensures.fits
