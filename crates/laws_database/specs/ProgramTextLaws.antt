-- A program is the same, and is written as the same text, whether one text has its modules or each has its own.
use Rattle.std.specs.Prelude.{◌≡◌, ℕ, List, map, Some, Ok}
use Rattle.f77_ast.specs.DeclTrees.{ModuleTree, ParsedTree}
use Rattle.f77_ast.specs.Symbols.{SymbolTree}
use Rattle.f77_printer.specs.declared.added.Added.{Added}
use Rattle.call_graph.specs.declared.graph.Graph.{Graph}
use Rattle.f77_meaning.specs.Modules.{known_of}
use Rattle.fixed_form.specs.Pieces.{pieces_of}
use Rattle.result_lines.specs.declared.show.Show.{Show}
use Rattle.laws_programs.specs.roundtrip_programs.Programs.{IsProgram}
use Rattle.laws_programs.specs.roundtrip_programs.Pieces.Joined.{joined_texts}
use Rattle.laws_programs.specs.roundtrip_programs.Pieces.Programs.{text_in}
use Rattle.laws_programs.specs.roundtrip_programs.Texts.Texts.{modules_text}
use Rattle.laws_programs.specs.roundtrip_programs.Written.Laws.{by_tree}
use Rattle.session_texts.specs.pipsmake_meaning.Texts.{ModuleText, AreModules, names_in, trees_in, tables_in, links_in, known_in}
use Rattle.laws_database.specs.ProgramTexts.{name_of, program_text, texts_of, session_text, joined_modules, texts_named}

-- texts of modules that link make a program when they are joined
abbrev pub TextsMakeTheProgram : Type 0
TextsMakeTheProgram =
    (ts : List ModuleText) (g : Graph) → AreModules ts → links_in ts ≡ Ok g → IsProgram (joined_texts (texts_of ts)) (joined_modules ts) (tables_in ts) g

-- it is written as its modules are, each from its own text
abbrev pub TextsAreWrittenAlike : Type 0
TextsAreWrittenAlike = (show : Show) (ts : List ModuleText) (g : Graph) → AreModules ts → program_text show (joined_modules ts) (tables_in ts) g ≡ session_text show ts g

-- each text is the module of its name, and together they have these tables and this graph, and are written as these modules, whatever is added to each by its tree
pub record SameProgram (ms : List ParsedTree) (tables : List (List SymbolTree)) (g : Graph) (ts : List ModuleText) : Type 0 where
  pub modules : AreModules ts
  pub tabled : tables_in ts ≡ tables
  pub linked : links_in ts ≡ Ok g
  pub known : known_in ts ≡ known_of ms tables
  pub alike : (added : ModuleTree → List Added) → modules_text (by_tree added) (trees_in ts) ≡ modules_text (by_tree added) ms
  pub written : (show : Show) → program_text show ms tables g ≡ session_text show ts g

-- the pieces of the text of a program, with the names of its modules, make the program
abbrev pub PiecesAreTheProgram : Type 0
PiecesAreTheProgram =
    (text : List ℕ) (ms : List ParsedTree) (tables : List (List SymbolTree)) (g : Graph) (p : IsProgram text ms tables g) (ts : List ModuleText)
    → texts_of ts ≡ map text_in (pieces_of text p.read.lines.lines) → names_in ts ≡ map name_of ms → SameProgram ms tables g ts

-- the texts of the modules of linked texts by their names, one after another, are the text of all
abbrev pub NamesShowTheText : Type 0
NamesShowTheText =
    (show : Show) (ts : List ModuleText) (g : Graph) (text : List ℕ) → AreModules ts → links_in ts ≡ Ok g → texts_named show ts (names_in ts) ≡ Some text → session_text show ts g ≡ text
