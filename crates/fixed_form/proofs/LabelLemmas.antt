-- Lemmas on labels.
use Rattle.std.proofs.Common.{◌≡◌, ℕ, suc, zero, ◌<◌, ◌≤◌, ◌+◌, ◌*◌, ◌^◌, arith, add-one}
use Rattle.std.proofs.Math.Nat.{pow-succ'}
use Rattle.fx_lists.proofs.Numbers.{power-more}

-- a label has at most five digits
pub power-small : (i : ℕ) → i < 5 → 10 ^ i ≤ 10000
power-small zero h = omega arith
power-small (suc zero) h = omega arith
power-small (suc (suc zero)) h = omega arith
power-small (suc (suc (suc zero))) h = omega arith
power-small (suc (suc (suc (suc zero)))) h = omega arith
power-small (suc (suc (suc (suc (suc n))))) h = absurd (omega arith)

pub ruleset digit_steps = (power-more, power-small)
