use Rattle.elimination.proofs.LoneSteps.{closed_by}
use Rattle.elimination.proofs.closed.is_closed.Goals as goal

pub returns-in-None-clause-terms : goal.returns-in-None-clause-terms
returns-in-None-clause-terms c e = c.all_have_terms.ensures c.if-not-all_have_terms.false

pub returns-in-None-clause-closed : goal.returns-in-None-clause-closed
returns-in-None-clause-closed c e q n =
    closed_by q c.args.items.now n (c.all_have_terms.ensures c.if-not-all_have_terms.false) (c.all_rise.ensures c.if-not-all_rise.false)
    (c.all_apart.ensures c.if-not-all_apart.false) c.in-None.ensures
