-- The texts of the modules of a source text.
use Rattle.std.specs.Prelude.{◌≡◌, ℕ, ◌+◌, ◌-◌, List, [], ◌∷◌, ◌++◌, if◌then◌else◌}
use Rattle.fixed_form.specs.declared.line.Line.{Line}
use Rattle.fixed_form.specs.Reading.{is_end}
use Rattle.fixed_form.specs.declared.source.Piece.{Piece}
use Rattle.fixed_form.specs.Cuts.{first_lines, after_lines}

-- the last lines of the END statements: there modules end
abbrev pub end_lines : List Line → List ℕ
end_lines [] = []
end_lines (s ∷ ss) = if is_end s then s.last ∷ end_lines ss else end_lines ss

abbrev pub piece : ℕ → List ℕ → Piece
piece first text = record { first = first; text = text }

-- of a text the first lines, so many of them; where no further module ends, all of it
abbrev pub module_text : List ℕ → ℕ → List ℕ → List ℕ
module_text [] count text = text
module_text (next ∷ ends) count text = first_lines count text

-- a text that begins with this line, cut after each of these lines but the last
abbrev pub cut_from : ℕ → List ℕ → List ℕ → List Piece
cut_from first [] text = []
cut_from first (end ∷ ends) text =
    piece first (module_text ends (end + 1 - first) text) ∷ cut_from (end + 1) ends (after_lines (end + 1 - first) text)

-- each module goes on to the last line of its END, the last one to the end of the text
unfoldable pub pieces_of : List ℕ → List Line → List Piece
pieces_of text statements = cut_from 1 (end_lines statements) text

-- pieces one after another
abbrev pub joined : List Piece → List ℕ
joined [] = []
joined (p ∷ ps) = p.text ++ joined ps

-- no piece, or all of the text
abbrev pub HasAll : List Piece → List ℕ → Type 0
HasAll [] text = Unit {0}
HasAll (p ∷ ps) text = joined (p ∷ ps) ≡ text
