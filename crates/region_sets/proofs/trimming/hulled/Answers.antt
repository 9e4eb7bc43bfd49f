use Rattle.std.proofs.Common.{◌<◌, length, arith}
use Rattle.region_sets.specs.Joining.{three_and_hull}
use Rattle.region_sets.proofs.TrimSteps.{joined_same, joined_many}
use Rattle.region_sets.proofs.trimming.hulled.Goals as goal

pub loop-alloc-preserved : goal.loop-alloc-preserved
loop-alloc-preserved c =
    let many : 4 < length c.loop-alloc.left.items = omega (arith, c.loop-alloc-test.true, c.len.ensures) in
    record {
      same = joined_same c.loop-alloc.left.items c.in_ok-left.left.items (three_and_hull c.args.pieces.items) c.in_ok-left.ensures.defined many c.loop-alloc.invariant.same;
      many = joined_many c.loop-alloc.left.items c.in_ok-left.left.items c.in_ok-left.ensures.defined many;
      fits = c.in_ok-left.ensures.fits;
    }
