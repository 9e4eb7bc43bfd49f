-- What always holds of the statements that reading gives.
use Rattle.std.specs.Prelude.{ℕ, ◌<◌, ◌≤◌, ◌^◌, List, IfSome, All, AllPairs, IsTrue}
use Rattle.fixed_form.specs.declared.line.Line.{Line}
use Rattle.fixed_form.specs.Reading.{ends_well}

-- statements stand in the order of their initial lines
abbrev pub Ascend : List Line → Type 0
Ascend lines = AllPairs (λ s t. s.first < t.first) lines

abbrev pub IsLabel : ℕ → Type 0
IsLabel n = (1 ≤ n) × (n ≤ 99999)

abbrev pub AreLabelled : List Line → Type 0
AreLabelled lines = All (λ s. IfSome s.label IsLabel) lines

-- the numbers of lines are small
abbrev pub AreSmall : List Line → Type 0
AreSmall lines = All (λ s. (s.first < 2 ^ 28) × (s.last < 2 ^ 28)) lines

-- the last statement is END, where there is any
abbrev pub EndWithEnd : List Line → Type 0
EndWithEnd lines = IsTrue (ends_well lines)

pub record IsRead (lines : List Line) : Type 0 where
  pub ascend : Ascend lines
  pub labelled : AreLabelled lines
  pub small : AreSmall lines
  pub ended : EndWithEnd lines

-- a statement runs from its first line to its last, and lines are numbered from 1
abbrev pub AreSpans : List Line → Type 0
AreSpans lines = All (λ s. (1 ≤ s.first) × (s.first ≤ s.last)) lines
