use Rattle.std.proofs.Common.{◌<◌, ◌^◌, arith}
use Rattle.f77_ast.specs.declared.results.At.{At}
use Rattle.base_values.proofs.Rests.{each_rest}
use Rattle.base_values.proofs.ranges.ids_fit.Goals as goal

pub loop-rest-preserved : goal.loop-rest-preserved
loop-rest-preserved g c =
    let small : c.one-item.result.id < 2 ^ 64 = omega arith in
    λ h. c.loop-rest.invariant (each_rest (λ (a : At _). a.id < 2 ^ 64) c.loop-rest.rest.now c.one-item.result (omega (arith, c.in-len1-up.len_at_least)) c.one-item.is small h)
