-- The longest of some words.
use Rattle.std.specs.Prelude.{ℕ, List, [], ◌∷◌, length, Option, Some, None, Bool, if◌then◌else◌, nat_lt}

-- the one with the longer word, and of two equal ones the first
abbrev pub longer : {X : Type 0} → (X → List ℕ) → Option X → Option X → Option X
longer word None b = b
longer word (Some a) None = Some a
longer word (Some a) (Some b) = if nat_lt (length (word a)) (length (word b)) then Some b else Some a

-- of those that pass a test the one with the longest word, and of two such the first
abbrev pub longest : {X : Type 0} → (X → List ℕ) → (X → Bool) → List X → Option X
longest word test [] = None
longest word test (x ∷ xs) = longer word (if test x then Some x else None) (longest word test xs)
