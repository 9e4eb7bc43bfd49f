use Rattle.std.proofs.Common.{◌≡◌, get_or, arith}
use Rattle.base_takes.proofs.Pairs.{at_rest}
use Rattle.base_takes.proofs.check_values.are_at.Goals as goal

pub loop-rest-preserved : goal.loop-rest-preserved
loop-rest-preserved g c =
    let same : c.one-item.result.id ≡ get_or c.loop-rest.ids.now 0 0 = omega arith in
    λ h. c.loop-rest.invariant (at_rest c.loop-rest.rest.now c.loop-rest.ids.now c.one-item.result (omega (arith, c.in-len1-up.len_at_least)) (omega arith) c.one-item.is same h)
