-- The first lines of a text, with their line ends, and what follows them.
use Rattle.std.specs.Prelude.{ℕ, ◌-◌, List, [], ◌∷◌, if◌then◌else◌, nat_eq}
use Rattle.fixed_form.specs.Characters.{line_feed}

-- so many lines are still to come after this character
abbrev pub lines_after : ℕ → ℕ → ℕ
lines_after b count = if nat_eq b line_feed then count - 1 else count

-- the first lines, so many of them, or all that there are
abbrev pub first_lines : ℕ → List ℕ → List ℕ
first_lines count [] = []
first_lines count (b ∷ bs) = if nat_eq count 0 then [] else b ∷ first_lines (lines_after b count) bs

abbrev pub after_lines : ℕ → List ℕ → List ℕ
after_lines count [] = []
after_lines count (b ∷ bs) = if nat_eq count 0 then b ∷ bs else after_lines (lines_after b count) bs
