-- Counts that rise, or stand at the last value of their type.
use Rattle.std.specs.Prelude.{ℕ, ◌+◌, ◌≤◌, min}

-- the last value of a count
abbrev pub last_count : ℕ
last_count = 18446744073709551615

-- one more, or the last value
abbrev pub raised_count : ℕ → ℕ
raised_count count = min (count + 1) last_count

-- the count rose, or stands at its last value, which counts as risen
abbrev pub Rose : ℕ → ℕ → Type 0
Rose old new = raised_count old ≤ new
