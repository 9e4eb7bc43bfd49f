-- Modules of texts as plain data.
use Rattle.std.specs.Prelude.{◌≡◌, List, [], ◌∷◌, map, Some, bytes_eq}
use Rattle.std.specs.List.{IsDistinct}
use Rattle.f77_ast.specs.PlainDecl.{parsed_tree}
use Rattle.f77_ast.specs.Symbols.{symbol_tree}
use Rattle.session_texts.specs.declared.source.ModuleText.{ModuleText as Kept}
use Rattle.session_texts.specs.declared.source.Source.{Source}
use Rattle.pipsmake_meaning.specs.Texts.{ModuleText, ReadModule, module_read, names_in}

-- a module's name, its text, and the line of its source where the text begins
abbrev pub text_record : Kept → ModuleText
text_record t = record { name = t.name; text = t.text; first = t.first }

abbrev pub source_text : Source → ModuleText
source_text s = text_record s.text

-- the module that was read, with its symbols
abbrev pub source_read : Source → ReadModule
source_read s = record { module_is = parsed_tree s.parsed; table = map symbol_tree s.symbols }

-- the text alone is read as this module with these symbols, and has its name
pub record IsSource (s : Source) : Type 0 where
  pub is_read : module_read s.text.text ≡ Some (source_read s)
  pub is_named : s.parsed.module.name ≡ s.text.name

abbrev pub AreSources : List Source → Type 0
AreSources [] = Unit {0}
AreSources (s ∷ ss) = IsSource s × AreSources ss

-- no two texts have one name
abbrev pub NamesDiffer : List ModuleText → Type 0
NamesDiffer ts = IsDistinct bytes_eq (names_in ts)
