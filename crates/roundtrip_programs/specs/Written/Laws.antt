-- Modules are written as the same text, whether one text has them or each has its own.
use Rattle.std.specs.Prelude.{◌≡◌, ℕ, List, [], map}
use Rattle.f77_ast.specs.DeclTrees.{ModuleTree, ParsedTree}
use Rattle.f77_printer.specs.declared.added.Added.{Added}
use Rattle.f77_printer.specs.ModuleText.{module_text}
use Rattle.fixed_form.specs.Pieces.{pieces_of}
use Rattle.roundtrip_programs.specs.Texts.Texts.{IsReadAs, modules_text}
use Rattle.roundtrip_programs.specs.Laws.{tree_of}
use Rattle.roundtrip_programs.specs.Pieces.Moved.{moved}
use Rattle.roundtrip_programs.specs.Pieces.Joined.{AreReadAlone, joined_from}
use Rattle.roundtrip_programs.specs.Pieces.Programs.{text_in}

-- what is added to a module, by its tree alone
abbrev pub by_tree : (ModuleTree → List Added) → ParsedTree → List Added
by_tree added p = added p.module_read

-- a module is written alike, whatever the lines of its statements
abbrev pub MovedAreWrittenAlike : Type 0
MovedAreWrittenAlike = (by : ℕ) (m : ParsedTree) (added : List Added) → module_text (moved by m).places (moved by m).module_read added ≡ module_text m.places m.module_read added

-- the modules that the pieces of a text are read as, each by itself, have the trees of the modules of the text
abbrev pub PiecesHaveTheSameTrees : Type 0
PiecesHaveTheSameTrees = (text : List ℕ) (ms alone : List ParsedTree) (r : IsReadAs text ms) → AreReadAlone (map text_in (pieces_of text r.lines.lines)) alone → map tree_of alone ≡ map tree_of ms

-- the modules that joined texts are read as have the trees of those of each text
abbrev pub JoinedHaveTheSameTrees : Type 0
JoinedHaveTheSameTrees = (texts : List (List ℕ)) (ms : List ParsedTree) → AreReadAlone texts ms → map tree_of (joined_from [] 0 texts ms) ≡ map tree_of ms

-- the modules that the pieces of a text are read as are written as the modules of the text
abbrev pub PiecesAreWrittenAlike : Type 0
PiecesAreWrittenAlike =
    (text : List ℕ) (ms alone : List ParsedTree) (added : ModuleTree → List Added) (r : IsReadAs text ms) → AreReadAlone (map text_in (pieces_of text r.lines.lines)) alone
    → modules_text (by_tree added) alone ≡ modules_text (by_tree added) ms

-- the modules that joined texts are read as are written as those of each text, one after another
abbrev pub JoinedAreWrittenAlike : Type 0
JoinedAreWrittenAlike =
    (texts : List (List ℕ)) (ms : List ParsedTree) (added : ModuleTree → List Added) → AreReadAlone texts ms
    → modules_text (by_tree added) (joined_from [] 0 texts ms) ≡ modules_text (by_tree added) ms
