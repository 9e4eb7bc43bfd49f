-- A source text, read into its modules: what a session makes of an accepted program.
use Rattle.std.specs.Prelude.{◌≡◌, ℕ, List, map, Some, Ok}
use Rattle.f77_ast.specs.DeclTrees.{ModuleTree, ParsedTree}
use Rattle.f77_ast.specs.Symbols.{SymbolTree}
use Rattle.f77_printer.specs.declared.added.Added.{Added}
use Rattle.call_graph.specs.declared.graph.Graph.{Graph}
use Rattle.f77_meaning.specs.Modules.{known_of}
use Rattle.result_lines.specs.declared.show.Show.{Show}
use Rattle.laws_programs.specs.roundtrip_programs.Programs.{IsProgram}
use Rattle.laws_programs.specs.roundtrip_programs.Texts.Texts.{modules_text}
use Rattle.laws_programs.specs.roundtrip_programs.Written.Laws.{by_tree}
use Rattle.session_texts.specs.pipsmake_meaning.Texts.{ModuleText, AreModules, names_in, trees_in, tables_in, links_in, known_in}
use Rattle.laws_database.specs.ProgramTexts.{name_of, program_text, texts_named}
use Rattle.session_texts.specs.Modules.{NamesDiffer}
use Rattle.session_texts.specs.Sources.{source_modules}

-- the text is read as the texts of its modules; these are the modules of the program, link as it does, and are written as it is, one after another, whatever is added to each by its tree
pub record IsSplit (text : List ℕ) (ms : List ParsedTree) (tables : List (List SymbolTree)) (g : Graph) : Type 0 where
  pub texts : List ModuleText
  pub read : source_modules text ≡ Ok texts
  pub named : names_in texts ≡ map name_of ms
  pub differ : NamesDiffer texts
  pub modules : AreModules texts
  pub tabled : tables_in texts ≡ tables
  pub linked : links_in texts ≡ Ok g
  pub known : known_in texts ≡ known_of ms tables
  pub alike : (added : ModuleTree → List Added) → modules_text (by_tree added) (trees_in texts) ≡ modules_text (by_tree added) ms
  pub shown : (show : Show) → texts_named show texts (names_in texts) ≡ Some (program_text show ms tables g)

-- the text of an accepted program is not refused as a source, and is split into the program's modules
abbrev pub AcceptedIsSplit : Type 0
AcceptedIsSplit = (text : List ℕ) (ms : List ParsedTree) (tables : List (List SymbolTree)) (g : Graph) → IsProgram text ms tables g → IsSplit text ms tables g
