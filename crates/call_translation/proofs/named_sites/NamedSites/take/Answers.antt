use Rattle.call_translation.proofs.NamedSiteLaws.{taken_at}
use Rattle.call_translation.proofs.named_sites.NamedSites.take.Goals as goal

pub returns-in-None-clause-others : goal.returns-in-None-clause-others
returns-in-None-clause-others g c = taken_at c.args.self.now.by_name c.remove.new.self c.as_slice.result.now c.args.name.now c.in-None.ensures.updates c.as_slice.ensures

pub returns-in-Some-clause-others : goal.returns-in-Some-clause-others
returns-in-Some-clause-others g c = taken_at c.args.self.now.by_name c.remove.new.self c.as_slice.result.now c.args.name.now c.in-Some.ensures.updates c.as_slice.ensures
