-- Statements that are written without too many parentheses in one another.
use Rattle.std.specs.Prelude.{◌≡◌, false}
use Rattle.f77_structure.specs.Depth.{is_deep}
use Rattle.f77_statements.specs.Phrases.{PhraseTree}
use Rattle.f77_printer.specs.Layout.{stripped}
use Rattle.roundtrip_programs.specs.Statements.Written.{phrase_text}

-- in the text of the statement at most 64 parentheses stand in one another
abbrev pub IsFlat : PhraseTree → Type 0
IsFlat p = is_deep (stripped false (phrase_text p)) ≡ false
