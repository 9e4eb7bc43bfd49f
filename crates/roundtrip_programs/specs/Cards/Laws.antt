-- What was written is read as it was, and what is read is short.
use Rattle.std.specs.Prelude.{◌≡◌, ℕ, List, Ok}
use Rattle.fixed_form.specs.declared.line.Lines.{Lines}
use Rattle.fixed_form.specs.Reading.{reading}
use Rattle.roundtrip_programs.specs.Cards.Cards.{Card, cards_text, lines_from, kept}
use Rattle.roundtrip_programs.specs.Cards.Good.{AreComments, AreCards, AreEnded, AreBodies}

-- no line has a fault, and the statements are those of the cards, with their labels and their kept comments
abbrev pub LinesReadBack : Type 0
LinesReadBack =
    (cards : List Card) (closing : List (List ℕ)) → AreCards cards → AreComments closing → AreEnded cards
    → reading (cards_text cards closing) ≡ Ok (record { lines = lines_from 1 cards; closing = kept closing })

-- each statement that a text gives is one of at most 1320 allowed characters
abbrev pub BodiesAreShort : Type 0
BodiesAreShort = (text : List ℕ) (read : Lines) → reading text ≡ Ok read → AreBodies read.lines
