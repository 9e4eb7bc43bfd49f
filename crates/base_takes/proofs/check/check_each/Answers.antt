use Rattle.std.proofs.Common.{◌≡◌, true, arith}
use Rattle.base_values.proofs.Rests.{each_rest}
use Rattle.base_takes.proofs.check.check_each.Goals as goal

pub loop-rest-preserved : goal.loop-rest-preserved
loop-rest-preserved g c =
    let t : c.in_ok-holds.holds ≡ true = cc in
    λ h. c.loop-rest.invariant (each_rest (g.T.Check.fits c.args.scope.now) c.loop-rest.rest.now c.item-item.result (omega (arith, c.in-len1-up.len_at_least)) c.item-item.is (c.in_ok-holds.ensures t) h)
