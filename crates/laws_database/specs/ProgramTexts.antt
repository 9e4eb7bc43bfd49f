-- The written text of a program, and of texts of its modules.
use Rattle.std.specs.Prelude.{ℕ, List, [], ◌∷◌, ◌++◌, map, Option, Some, None, option_map, option_and_then}
use Rattle.f77_ast.specs.DeclTrees.{ModuleTree, ParsedTree}
use Rattle.f77_ast.specs.Symbols.{SymbolTree}
use Rattle.f77_printer.specs.declared.added.Added.{Added}
use Rattle.f77_printer.specs.ModuleText as printer
use Rattle.call_graph.specs.declared.graph.Graph.{Graph}
use Rattle.f77_meaning.specs.Modules.{known_of}
use Rattle.loop_marker.specs.Results.{ModuleResults}
use Rattle.result_lines.specs.Lines.{lines_of}
use Rattle.result_lines.specs.declared.show.Show.{Show}
use Rattle.laws_programs.specs.roundtrip_programs.Texts.Texts.{modules_text}
use Rattle.laws_programs.specs.roundtrip_programs.Pieces.Joined.{joined_from}
use Rattle.laws_programs.specs.roundtrip_programs.Written.Laws.{by_tree}
use Rattle.session_texts.specs.pipsmake_meaning.ResultEntries.{results_of_modules, results_for}
use Rattle.session_texts.specs.pipsmake_meaning.Texts.{ModuleText, ReadModule, modules_in, trees_in, known_in}
use Rattle.session_texts.specs.pipsmake_meaning.Definitions.{module_named, printed_of, results_in, text_shown}

-- ---- a program

abbrev pub name_of : ParsedTree → List ℕ
name_of m = m.module_read.name

-- the lines that are added to a module: those of its results, where there are any
abbrev pub lines_with : Show → Option ModuleResults → List Added
lines_with show None = []
lines_with show (Some f) = lines_of show f.known (printed_of f)

-- which are found by its name
abbrev pub lines_found : Show → List ModuleResults → ModuleTree → List Added
lines_found show fs m = lines_with show (results_for fs m.name)

-- the modules of a program one after another, each with its lines
abbrev pub program_text : Show → List ParsedTree → List (List SymbolTree) → Graph → List ℕ
program_text show ms tables g = modules_text (by_tree (lines_found show (results_of_modules (known_of ms tables) g))) ms

-- ---- texts of modules

abbrev pub texts_of : List ModuleText → List (List ℕ)
texts_of ts = map (λ t. t.text) ts

-- a module with its results; without any nothing is added
abbrev pub text_with : Show → ReadModule → Option ModuleResults → List ℕ
text_with show m None = printer.module_text m.module_is.places m.module_is.module_read []
text_with show m (Some f) = text_shown show m f

abbrev pub texts_with : Show → List ModuleResults → List ReadModule → List ℕ
texts_with show fs [] = []
texts_with show fs (m ∷ ms) = text_with show m (results_for fs m.module_is.module_read.name) ++ texts_with show fs ms

-- the modules of these texts one after another, each as it is written with its results
abbrev pub session_text : Show → List ModuleText → Graph → List ℕ
session_text show ts g = texts_with show (results_of_modules (known_in ts) g) (modules_in ts)

-- what the joined texts are read as
abbrev pub joined_modules : List ModuleText → List ParsedTree
joined_modules ts = joined_from [] 0 (texts_of ts) (trees_in ts)

-- ---- by names

-- the written text of the module of a name; none where the module or its results lack
abbrev pub text_named : Show → List ModuleText → List ℕ → Option (List ℕ)
text_named show ts x = option_and_then (λ m. option_map (text_shown show m) (results_in ts x)) (module_named ts x)

abbrev pub before_text : Option (List ℕ) → Option (List ℕ) → Option (List ℕ)
before_text first later = option_and_then (λ a. option_map (λ b. a ++ b) later) first

-- those of these names one after another, where there are all
abbrev pub texts_named : Show → List ModuleText → List (List ℕ) → Option (List ℕ)
texts_named show ts [] = Some []
texts_named show ts (x ∷ xs) = before_text (text_named show ts x) (texts_named show ts xs)
