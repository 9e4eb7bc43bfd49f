use Rattle.std.proofs.Common.{reverse}
use Rattle.region_sets.specs.Sets.{with_regions}
use Rattle.region_sets.proofs.LiveSteps.{start_of_last, gather_back, less_fits, next_before}
use Rattle.region_sets.proofs.SettledLaws.{less_settled}
use Rattle.region_sets.proofs.sets.put_all.Goals as goal

pub with_trimmed-requires-clause-before : goal.with_trimmed-requires-clause-before
with_trimmed-requires-clause-before c = start_of_last c.loop-r.left.items c.pop.new.self.items c.loop-r.set c.in-Some.r c.loop-r.start c.in-Some.ensures.items c.loop-r.invariant.before

pub loop-r-preserved : goal.loop-r-preserved
loop-r-preserved c = record {
  same = gather_back c.loop-r.left.items c.pop.new.self.items c.loop-r.set c.in_ok-placed.placed.set (with_regions c.args.set (reverse c.args.regions.items)) c.in-Some.r c.in-Some.ensures.items c.in_ok-placed.ensures.defined c.loop-r.invariant.same;
  fits = c.in_ok-placed.ensures.fits;
  each = less_fits c.loop-r.left.items c.pop.new.self.items c.in-Some.r c.in-Some.ensures.items c.loop-r.invariant.each;
  settled = λ k. less_settled c.loop-r.left.items c.pop.new.self.items c.in-Some.r c.in-Some.ensures.items (c.loop-r.invariant.settled k);
  before = λ d z. next_before c.pop.new.self.items c.as_slice.result.now c.in_ok-placed.placed.set c.in-Some.r d c.in_ok-placed.placed.at c.start_at-start.result c.is_last_after-rises.result c.as_slice.ensures.value c.start_at-start.ensures c.is_last_after-rises.ensures c.in_ok-placed.ensures.before z;
}
