-- The texts of a session after commands, whatever is kept of results.
use Rattle.std.specs.Prelude.{List, [], ◌∷◌, Result, Ok, Err, if◌then◌else◌}
use Rattle.f77_parser.specs.Gives.{Refused}
use Rattle.session_texts.specs.pipsmake_rules.Neighbours.{has_name}
use Rattle.session_texts.specs.declared.command.Command.{Command}
use Rattle.session_texts.specs.declared.command.Command.TheVariants.{Source, Drop, Make, Show, Print, Bad, Short}
use Rattle.session_texts.specs.pipsmake_meaning.Texts.{ModuleText, names_in}
use Rattle.session_texts.specs.Changes.{replaced, without}
use Rattle.session_texts.specs.Sources.{source_modules}

-- with the modules that were read; a source text that is refused changes nothing
abbrev pub texts_with : List ModuleText → Result (List ModuleText) Refused → List ModuleText
texts_with ts (Ok us) = replaced ts us
texts_with ts (Err r) = ts

abbrev pub texts_after : List ModuleText → Command → List ModuleText
texts_after ts (Source text) = texts_with ts (source_modules text)
texts_after ts (Drop x) = if has_name (names_in ts) x then without x ts else ts
texts_after ts (Make kind x) = ts
texts_after ts (Show kind x) = ts
texts_after ts Print = ts
texts_after ts Bad = ts
texts_after ts Short = ts

-- after all of these commands
abbrev pub texts_at_end : List ModuleText → List Command → List ModuleText
texts_at_end ts [] = ts
texts_at_end ts (c ∷ cs) = texts_at_end (texts_after ts c) cs
