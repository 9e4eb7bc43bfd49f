-- The commands of a script.
use Rattle.std.specs.Prelude.{ℕ, ◌-◌, ◌≤◌, List, [], ◌∷◌, ◌++◌, All, length, take, codes, bytes_eq, nat_eq, nat_le, Option, Some, None, if◌then◌else◌}
use Rattle.fixed_form.specs.Characters.{line_feed}
use Rattle.fixed_form.specs.TextLines.{text_lines}
use Rattle.session_texts.specs.declared.command.Command.{Command}
use Rattle.session_texts.specs.declared.command.Command.TheVariants.{Source, Drop, Make, Show, Print, Bad, Short}
use Rattle.session_texts.specs.declared.command.Line.{Line}
use Rattle.session_texts.specs.declared.command.Line.TheVariants.{Blank, Heading, Whole}
use Rattle.session_texts.specs.Words.{words_of, count_of}

-- a line that says how many lines of source follow
abbrev pub heading : Option ℕ → Line
heading None = Whole Bad
heading (Some count) = Heading count

abbrev pub of_one : List ℕ → Line
of_one a = if bytes_eq a (codes "PRINT") then Whole Print else Whole Bad

abbrev pub of_two : List ℕ → List ℕ → Line
of_two a b =
    if bytes_eq a (codes "SOURCE") then heading (count_of b)
    else if bytes_eq a (codes "DROP") then Whole (Drop b)
    else Whole Bad

abbrev pub of_three : List ℕ → List ℕ → List ℕ → Line
of_three a b c =
    if bytes_eq a (codes "MAKE") then Whole (Make b c)
    else if bytes_eq a (codes "SHOW") then Whole (Show b c)
    else Whole Bad

-- what a line of these words says
abbrev pub line_of : List (List ℕ) → Line
line_of [] = Blank
line_of (a ∷ []) = of_one a
line_of (a ∷ b ∷ []) = of_two a b
line_of (a ∷ b ∷ c ∷ []) = of_three a b c
line_of (a ∷ b ∷ c ∷ d ∷ more) = Whole Bad

-- lines as a text, in which each ends with LF
abbrev pub source_text : List (List ℕ) → List ℕ
source_text [] = []
source_text (line ∷ lines) = (line ++ line_feed ∷ []) ++ source_text lines

-- the commands from a line on, where these lines follow it, and `after n` are the commands of those that follow the next n
abbrev pub from_line : Line → List (List ℕ) → (ℕ → List Command) → List Command
from_line Blank lines after = after 0
from_line (Heading count) lines after = if nat_le count (length lines) then Source (source_text (take count lines)) ∷ after count else Short ∷ []
from_line (Whole command) lines after = command ∷ after 0

-- the commands of the lines that follow the first of these lines, so many of them
abbrev pub commands_after : ℕ → List (List ℕ) → List Command
commands_after count [] = []
commands_after count (line ∷ lines) =
    if nat_eq count 0 then from_line (line_of (words_of line)) lines (λ n. commands_after n lines) else commands_after (count - 1) lines

-- lines end as those of a source text
unfoldable pub commands_of : List ℕ → List Command
commands_of script = commands_after 0 (text_lines script)

-- the text of a source is no longer than this
abbrev pub IsWithin : ℕ → Command → Type 0
IsWithin most (Source text) = length text ≤ most
IsWithin most (Drop name) = Unit {0}
IsWithin most (Make kind name) = Unit {0}
IsWithin most (Show kind name) = Unit {0}
IsWithin most Print = Unit {0}
IsWithin most Bad = Unit {0}
IsWithin most Short = Unit {0}

abbrev pub AreWithin : ℕ → List Command → Type 0
AreWithin most commands = All (IsWithin most) commands
