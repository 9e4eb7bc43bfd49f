use Rattle.std.proofs.Common.{arith}
use Rattle.base_values.specs.Ranges.{NumbersFit}
use Rattle.base_values.proofs.Rests.{each_rest}
use Rattle.base_text.specs.declared.base.StoredResult.{StoredResult}
use Rattle.base_text.proofs.write.all_numbers_fit.Goals as goal

pub loop-rest-preserved : goal.loop-rest-preserved
loop-rest-preserved c =
    λ h. c.loop-rest.invariant (each_rest (λ (r : StoredResult). NumbersFit r.value) c.loop-rest.rest.now c.stored-item.result (omega (arith, c.in-len1-up.len_at_least)) c.stored-item.is c.numbers_fit.ensures h)
