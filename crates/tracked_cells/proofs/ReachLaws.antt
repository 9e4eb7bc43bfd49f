-- Units from an offset on, counted from there.
use Rattle.std.proofs.Common.{◌≡◌, ℕ, ◌+◌, ◌-◌, ◌≤◌, arith}
use Rattle.std.specs.Prelude.{nat_lt}
use Rattle.std.proofs.lemmas.Bool.Decides.{nat_tests}

pub from_there : (o n k : ℕ) → o ≤ k → nat_lt (k - o) n ≡ nat_lt k (o + n)
from_there o n k h = grind (arith, nat_tests)

pub ruleset reach_tests = (from_there)
