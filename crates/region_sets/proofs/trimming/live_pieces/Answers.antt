use Rattle.region_sets.specs.Trim.{live_pieces}
use Rattle.region_sets.proofs.TrimSteps.{live_back, less_fit}
use Rattle.region_sets.proofs.trimming.live_pieces.Goals as goal

pub loop-s-preserved : goal.loop-s-preserved
loop-s-preserved c = record {
  same = live_back c.loop-s.left.items c.pop.new.self.items c.loop-s.out.items c.push_live.new.out.items (live_pieces c.args.pieces) c.in-Some.s c.in-Some.ensures.items c.in_ok-push_live.ensures.added c.loop-s.invariant.same;
  fits = c.in_ok-push_live.ensures.fits;
  each = less_fit c.loop-s.left.items c.pop.new.self.items c.in-Some.s c.in-Some.ensures.items c.loop-s.invariant.each;
}
