-- What the calls of a sink append, and why they stop.
use Rattle.std.specs.Prelude.{◌≡◌, ℕ, ◌≤◌, ◌<◌, List, ◌++◌, length, take, Option, option_map}
use Rattle.fx_base.specs.Counts.{Rose}
use Rattle.fx_base.specs.declared.sink.Put.{Put}
use Rattle.fx_base.specs.declared.sink.Put.TheVariants.{Took, Failed}
use Rattle.fx_base.specs.declared.sending.Sent.{Sent}
use Rattle.fx_base.specs.declared.sending.Sent.TheVariants.{All, Failed as Stopped}

-- the bytes taken, where told, with more behind them
abbrev pub appended : Option (List ℕ) → List ℕ → Option (List ℕ)
appended taken more = option_map (λ bytes. bytes ++ more) taken

-- what a put answers, by the bytes taken before and after, where told, and by the count of faults
abbrev pub PutBy : Option (List ℕ) → Option (List ℕ) → ℕ → ℕ → List ℕ → Put → Type 0
PutBy old new before after piece (Took n) = (n ≤ length piece) × (0 < length piece → 0 < n) × (new ≡ appended old (take n piece))
PutBy old new before after piece Failed = Rose before after × (new ≡ old)

-- what a send answers: the whole text was appended, or its first n bytes and the count rose
abbrev pub SentBy : Option (List ℕ) → Option (List ℕ) → ℕ → ℕ → List ℕ → Sent → Type 0
SentBy old new before after text All = new ≡ appended old text
SentBy old new before after text (Stopped n) = Rose before after × (n ≤ length text) × (new ≡ appended old (take n text))
