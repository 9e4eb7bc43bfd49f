use Rattle.region_sets.specs.Sets.{all_trimmed}
use Rattle.region_sets.proofs.LiveSteps.{trimmed_back, less_fits}
use Rattle.region_sets.proofs.SettledLaws.{less_settled}
use Rattle.region_sets.proofs.living.all_trimmed.Goals as goal

pub loop-r-preserved : goal.loop-r-preserved
loop-r-preserved c = record {
  same = trimmed_back c.loop-r.left.items c.pop.new.self.items c.loop-r.out.items c.push_trimmed.new.out.items (all_trimmed c.args.set) c.in-Some.r c.in-Some.ensures.items c.in_ok-push_trimmed.ensures.added c.loop-r.invariant.same;
  fits = c.in_ok-push_trimmed.ensures.fits;
  settled = less_settled c.loop-r.left.items c.pop.new.self.items c.in-Some.r c.in-Some.ensures.items c.loop-r.invariant.settled;
  each = less_fits c.loop-r.left.items c.pop.new.self.items c.in-Some.r c.in-Some.ensures.items c.loop-r.invariant.each;
}
