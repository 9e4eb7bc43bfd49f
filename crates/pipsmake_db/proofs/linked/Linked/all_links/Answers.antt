use Rattle.std.proofs.Common.{subst}
use Rattle.pipsmake_db.specs.Refusals.{IsRefused, link_refusal}
use Rattle.pipsmake_db.proofs.linked.Linked.all_links.Goals as goal

pub returns-in-Err-clause-refused : goal.returns-in-Err-clause-refused
returns-in-Err-clause-refused c = subst (λ ts. IsRefused (link_refusal ts) c.refused.result) c.take.ensures.same c.refused.ensures
