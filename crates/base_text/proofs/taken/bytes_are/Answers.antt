use Rattle.std.proofs.Common.{◌<◌, arith}
use Rattle.base_text.proofs.TakenBase.{numbers_rest}
use Rattle.base_text.proofs.taken.bytes_are.Goals as goal

pub loop-rest-preserved : goal.loop-rest-preserved
loop-rest-preserved c = λ h. c.loop-rest.invariant (numbers_rest (λ b. b < 256) c.loop-rest.rest.now (omega (arith, c.in-len1-up.len_at_least)) c.is_byte.ensures h)
