use Rattle.std.proofs.Common.{arith}
use Rattle.base_values.proofs.Rests.{each_rest}
use Rattle.base_text.specs.Grammar.{HasBytes}
use Rattle.base_text.proofs.taken.each_has_bytes.Goals as goal

pub loop-rest-preserved : goal.loop-rest-preserved
loop-rest-preserved c =
    λ h. c.loop-rest.invariant (each_rest HasBytes c.loop-rest.rest.now c.module-item.result (omega (arith, c.in-len1-up.len_at_least)) c.module-item.is (c.are_bytes.ensures, c.are_bytes-in-len1-up.ensures) h)
