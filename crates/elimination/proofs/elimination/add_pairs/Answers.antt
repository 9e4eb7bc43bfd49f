use Rattle.std.proofs.Common.{◌+◌, ◌++◌, take, arith}
use Rattle.affine_systems.specs.Eliminate.{with_uppers, pairs}
use Rattle.elimination.proofs.PairLaws.{stands_same, pairs_grow}
use Rattle.elimination.proofs.elimination.add_pairs.Goals as goal

pub loop-low-preserved : goal.loop-low-preserved
loop-low-preserved c =
    let k = c.loop-low.low-index in
    let low = c.low-item.result in
    let lows = c.args.lows.now in
    let ups = c.args.ups.now in
    let number = c.loop-low.invariant.2 in (
      λ is h. stands_same c.args.rational ((is ++ pairs c.args.made c.args.v (take k lows) ups) ++ with_uppers c.loop-low.next c.args.v low ups) (is ++ pairs c.args.made c.args.v (take (k + 1) lows) ups) c.add_uppers.new.form
          (pairs_grow c.args.made c.loop-low.next c.args.v lows ups is k low c.loop-low-test.true c.low-item.is number)
          (c.in_ok-add_uppers.ensures.stands (is ++ pairs c.args.made c.args.v (take k lows) ups) (c.loop-low.invariant.0 is h)),
      c.in_ok-add_uppers.ensures.rises,
      omega (arith, number),
    )
