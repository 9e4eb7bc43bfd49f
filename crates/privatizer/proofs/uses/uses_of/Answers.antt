use Rattle.in_out_regions.proofs.RegionSets.ListSteps.{set-fits}
use Rattle.privatizer.proofs.uses.uses_of.Goals as goal

pub returns-clause-fits : goal.returns-clause-fits
returns-clause-fits c = record {
  head = c.in_ok-head_in.ensures.fits;
  ins = c.in_ok-ins_in.ensures.fits;
  before = c.in_ok-system_at.ensures.fits;
  outs = set-fits c.args.a.now.outs.now.at c.args.at c.set_at.result.now c.set_at.ensures c.requires.outs;
}
