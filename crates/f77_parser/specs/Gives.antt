-- What a reading function returns, beside what the definition gives.
use Rattle.std.specs.Prelude.{◌≡◌, ℕ, Bool, true, false, List, Result, Ok, Err}
use Rattle.f77_parser.specs.declared.refusal.ParseRefusal.{ParseRefusal}
use Rattle.f77_parser.specs.declared.refusal.ParseRefusal.TheVariants.{At, Memory}

-- the line of a refusal, the number of its cause, and the keyword that is left out
pub record Refused : Type 0 where
  pub line : ℕ
  pub code : ℕ
  pub keyword : List ℕ

-- what was read or refused, unless memory ran out
abbrev pub Gives : {A B : Type 0} → (A → B) → Result A ParseRefusal → Result B Refused → Type 0
Gives view (Ok a) read = read ≡ Ok (view a)
Gives view (Err (At line code keyword)) read = read ≡ Err (record { line = line; code = code; keyword = keyword })
Gives view (Err Memory) read = Unit {0}

abbrev pub is_memory : ParseRefusal → Bool
is_memory (At line code keyword) = false
is_memory Memory = true

abbrev pub and_then : {A B : Type 0} → Result A Refused → (A → Result B Refused) → Result B Refused
and_then (Ok a) f = f a
and_then (Err r) f = Err r
