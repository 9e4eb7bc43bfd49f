use Rattle.array_regions.proofs.RegionSets.ListSteps.{set-fits}
use Rattle.in_out_regions.proofs.statement.+ins.Goals as goal

pub what_in-first_reads-requires : goal.what_in-first_reads-requires
what_in-first_reads-requires t c = set-fits c.args.known.now.regions.now c.args.id c.set_at.result.now c.set_at.ensures c.requires.known.regions
