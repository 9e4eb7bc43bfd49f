-- The lines of a statement in fixed form (ANSI X3.9-1978 §3.2): columns 1 to 5 have the label, and column 7 begins the text.
use Rattle.std.specs.Prelude.{ℕ, ◌+◌, ◌-◌, List, [], ◌∷◌, ◌++◌, length, replicate, nat_lt, not, nat_eq, Bool, false, Option, Some, None, codes, decimal, if◌then◌else◌}

-- columns 1 to 6 of the first line: the label, filled with blanks
abbrev pub label_field : Option ℕ → List ℕ
label_field None = codes "      "
label_field (Some label) = decimal label ++ replicate (6 - length (decimal label)) 32

-- a text over lines, where the first one has some characters already: the 67th goes to a continuation line
abbrev pub over_lines : ℕ → List ℕ → List ℕ
over_lines used [] = codes "\n"
over_lines used (c ∷ cs) = if nat_eq used 66 then codes "\n     &" ++ c ∷ over_lines 1 cs else c ∷ over_lines (used + 1) cs

-- a text without the blanks outside its character constants; inside tells whether it begins inside one
abbrev pub stripped : Bool → List ℕ → List ℕ
stripped inside [] = []
stripped inside (c ∷ cs) =
    if nat_eq c 39 then c ∷ stripped (not inside) cs
    else if nat_eq c 32 then (if inside then c ∷ stripped inside cs else stripped inside cs)
    else c ∷ stripped inside cs

-- what is written of a text: one that twenty lines do not hold is stripped of its blanks
abbrev pub fitted : List ℕ → List ℕ
fitted text = if nat_lt 1320 (length text) then stripped false text else text

-- the lines of a statement with its label, each ended by LF
abbrev pub statement_lines : Option ℕ → List ℕ → List ℕ
statement_lines label text = label_field label ++ over_lines 0 (fitted text)
