-- Numbers as they are written.
use Rattle.std.proofs.Common.{◌≡◌, refl}
use Rattle.std.specs.Prelude.{ℤ, pos, negsuc}
use Rattle.std.specs.Fmt.{signed_decimal}
use Rattle.serde_json.specs.Data.{number}
use Rattle.serde_json.specs.Find.{of_integer}
use Rattle.serde_json.specs.Written.{compact_text}

pub integer_text : (z : ℤ) → compact_text (number (of_integer z)) ≡ signed_decimal z
integer_text (pos n) = refl
integer_text (negsuc n) = refl

pub ruleset numbers = (integer_text)
