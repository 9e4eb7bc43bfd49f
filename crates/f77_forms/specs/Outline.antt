-- Parentheses and character constants of a statement.
use Rattle.std.specs.Prelude.{ℕ, List, [], ◌∷◌, Option, Some, None, Bool, true, false, not, ◌+◌, ◌&&◌, nat_eq, nat_le, if◌then◌else◌}
use Rattle.f77_forms.specs.declared.outline.Outline.{Outline}
use Rattle.f77_forms.specs.declared.outline.Marks.{Marks}
use Rattle.f77_forms.specs.declared.outline.Marks.TheVariants.{NoEqual, Equal, EqualAndComma}

-- before the first character
abbrev pub front : Outline
front = record { opens = 0; closes = 0; quoted = false }

-- behind a character: an apostrophe, and outside constants a parenthesis, changes something
abbrev pub step : ℕ → Outline → Outline
step c o =
    if nat_eq c 39 then record o { quoted = not o.quoted }
    else if o.quoted then o
    else if nat_eq c 40 then record o { opens = o.opens + 1 }
    else if nat_eq c 41 then record o { closes = o.closes + 1 }
    else o

-- outside constants and parentheses: no more of these opened than closed
abbrev pub is_outer : Outline → Bool
is_outer o = not o.quoted && nat_le o.opens o.closes

-- a comma stands outside
abbrev pub has_comma : Outline → List ℕ → Bool
has_comma o [] = false
has_comma o (c ∷ cs) = if nat_eq c 44 && is_outer o then true else has_comma (step c o) cs

-- whether an = stands outside, and a comma outside after the first such =
abbrev pub marks_of : Outline → List ℕ → Marks
marks_of o [] = NoEqual
marks_of o (c ∷ cs) =
    if nat_eq c 61 && is_outer o then (if has_comma o cs then EqualAndComma else Equal)
    else marks_of (step c o) cs

-- outside constants, with one parenthesis open
abbrev pub is_one_deep : Outline → Bool
is_one_deep o = not o.quoted && nat_eq o.opens (o.closes + 1)

-- what stands behind the parenthesis that closes the one at the front
abbrev pub rest_after_close : Outline → List ℕ → Option (List ℕ)
rest_after_close o [] = None
rest_after_close o (c ∷ cs) = if nat_eq c 41 && is_one_deep o then Some cs else rest_after_close (step c o) cs
