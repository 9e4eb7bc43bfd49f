use Rattle.std.proofs.Common.{◌<◌, ◌^◌, arith}
use Rattle.f77_ast.specs.declared.variable.Unit.{Unit as BlockUnit}
use Rattle.base_values.proofs.Rests.{each_rest}
use Rattle.base_values.proofs.ranges.offsets_fit.Goals as goal

pub loop-rest-preserved : goal.loop-rest-preserved
loop-rest-preserved c =
    λ h. c.loop-rest.invariant (each_rest (λ (u : BlockUnit). u.offset < 2 ^ 64) c.loop-rest.rest.now c.unit-item.result (omega (arith, c.in-len1-up.len_at_least)) c.unit-item.is c.fits.ensures h)
