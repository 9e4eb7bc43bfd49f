-- The lines of a text.
use Rattle.std.specs.Prelude.{ℕ, List, [], ◌∷◌, map, if◌then◌else◌, nat_eq}
use Rattle.fixed_form.specs.Characters.{line_feed, carriage_return}

-- a byte goes onto the first line
abbrev pub onto_first : ℕ → List (List ℕ) → List (List ℕ)
onto_first b [] = (b ∷ []) ∷ []
onto_first b (l ∷ ls) = (b ∷ l) ∷ ls

-- a line ends with LF; the last needs none
abbrev pub lines_of : List ℕ → List (List ℕ)
lines_of [] = []
lines_of (b ∷ bs) = if nat_eq b line_feed then [] ∷ lines_of bs else onto_first b (lines_of bs)

abbrev pub unless_return : ℕ → List ℕ → List ℕ
unless_return b [] = if nat_eq b carriage_return then [] else b ∷ []
unless_return b (c ∷ cs) = b ∷ c ∷ cs

-- every CR at the end is dropped
abbrev pub without_returns : List ℕ → List ℕ
without_returns [] = []
without_returns (b ∷ bs) = unless_return b (without_returns bs)

abbrev pub text_lines : List ℕ → List (List ℕ)
text_lines text = map without_returns (lines_of text)
