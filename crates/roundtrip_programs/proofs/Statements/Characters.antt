-- Letters and digits are none of the other characters.
use Rattle.std.proofs.Common.{◌≡◌, ℕ, ◌<◌, ◌≤◌, arith, true, false}
use Rattle.std.specs.Prelude.{nat_eq, nat_le}
use Rattle.std.specs.Char.{is_ascii_digit, is_ascii_uppercase}
use Rattle.std.proofs.lemmas.Bool.{ne_eqb, leb-true, and_parts}

pub letter_range : (c : ℕ) → is_ascii_uppercase c ≡ true → (65 ≤ c) × (c ≤ 90)
letter_range c h = let p = and_parts (nat_le 65 c) (nat_le c 90) h in (leb-true 65 c p.0, leb-true c 90 p.1)

pub digit_range : (c : ℕ) → is_ascii_digit c ≡ true → (48 ≤ c) × (c ≤ 57)
digit_range c h = let p = and_parts (nat_le 48 c) (nat_le c 57) h in (leb-true 48 c p.0, leb-true c 57 p.1)

pub letter_is_no : (c k : ℕ) → is_ascii_uppercase c ≡ true → k < 65 → nat_eq c k ≡ false
letter_is_no c k h l = let r = letter_range c h in ne_eqb c k (λ e. omega arith)

pub digit_is_no : (c k : ℕ) → is_ascii_digit c ≡ true → k < 48 → nat_eq c k ≡ false
digit_is_no c k h l = let r = digit_range c h in ne_eqb c k (λ e. omega arith)

pub digit_is_no_more : (c k : ℕ) → is_ascii_digit c ≡ true → 57 < k → nat_eq c k ≡ false
digit_is_no_more c k h l = let r = digit_range c h in ne_eqb c k (λ e. omega arith)
