use Rattle.std.proofs.Common.{sym, subst}
use Rattle.region_sets.specs.Sets.{SetFits}
use Rattle.region_sets.proofs.ListSteps.{value-fits}
use Rattle.region_sets.proofs.list.push_accesses_at.Goals as goal

pub push_accesses-requires-clause-set : goal.push_accesses-requires-clause-set
push_accesses-requires-clause-set c = subst SetFits (sym c.as_slice.ensures) (value-fits c.args.at.now c.args.id c.in-Some.set.now (sym c.in-Some.ensures) c.requires.at)
