use Rattle.std.proofs.Common.{arith, subst}
use Rattle.f77_ast.specs.declared.results.At.{At}
use Rattle.preconditions.specs.transformer_algebra.declared.transformer.Transformer.{Transformer}
use Rattle.base_values.specs.Ranges.{OffsetsFit}
use Rattle.base_values.proofs.Rests.{each_rest}
use Rattle.base_values.proofs.ranges.transformers_fit.Goals as goal

pub loop-rest-preserved : goal.loop-rest-preserved
loop-rest-preserved c =
    let offsets : OffsetsFit c.one-item.result.value.foreign = subst OffsetsFit c.as_slice.ensures c.offsets_fit.ensures in
    λ h. c.loop-rest.invariant (each_rest (λ (a : At Transformer). OffsetsFit a.value.foreign) c.loop-rest.rest.now c.one-item.result (omega (arith, c.in-len1-up.len_at_least)) c.one-item.is offsets h)
