-- What a text weighs, where all printable characters weigh the same.
use Rattle.std.specs.Prelude.{◌≡◌, ℕ, ◌+◌, List, [], ◌∷◌, true}
use Rattle.roundtrip_programs.specs.Cards.Good.{is_printable}

pub record Weight : Type 0 where
  pub of : ℕ → ℕ
  pub each : ℕ
  pub even : (c : ℕ) → is_printable c ≡ true → of c ≡ each

abbrev pub weigh : Weight → List ℕ → ℕ
weigh w [] = 0
weigh w (c ∷ cs) = w.of c + weigh w cs
