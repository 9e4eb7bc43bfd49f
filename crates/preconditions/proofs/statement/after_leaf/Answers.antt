use Rattle.preconditions.proofs.StatementLaws.{found_fits}
use Rattle.preconditions.proofs.statement.after_leaf.Goals as goal

pub apply-requires-in-Some-clause-transformer : goal.apply-requires-in-Some-clause-transformer
apply-requires-in-Some-clause-transformer c =
    found_fits c.args.known.now.own.now c.args.id c.in-Some.t.now c.in-Some.ensures c.requires.known
