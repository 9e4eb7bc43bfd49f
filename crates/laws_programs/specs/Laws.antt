-- What laws on runs ask of modules and their tables holds of programs that are read.
use Rattle.std.specs.Prelude.{◌≡◌, ℕ, List, Ok, Some, slice_get}
use Rattle.std.specs.List.{filter}
use Rattle.fixed_form.specs.declared.line.Lines.{Lines}
use Rattle.f77_ast.specs.DeclTrees.{ParsedTree}
use Rattle.f77_parser.specs.Modules.{parse_of}
use Rattle.f77_ast.specs.Symbols.{SymbolTree}
use Rattle.call_graph.specs.declared.graph.Graph.{Graph}
use Rattle.f77_meaning.specs.Modules.{known_of}
use Rattle.f77_meaning.specs.Claimed.{InEveryRun}
use Rattle.laws_programs.specs.Storage.Programs.{IsLinked}
use Rattle.laws_programs.specs.Storage.Calls.{AreLaidOut}
use Rattle.f77_ast.specs.Hidden.{is_hidden}
use Rattle.f77_ast.specs.StatementNumbers.{list_numbers}
use Rattle.laws_programs.specs.Effects.Claims.{IsOfModule}
use Rattle.laws_programs.specs.Effects.Laws.{AreRead, AreNumberedOnce, AllHold}
use Rattle.laws_programs.specs.Effects.Summaries.{bottom_up}
use Rattle.laws_programs.specs.Programs.{AreTables, IsProgram, GoUp, is_shown}

-- modules that are read, with their tables, are such as laws on runs ask
abbrev pub ModulesAreRead : Type 0
ModulesAreRead = (lines : Lines) (ps : List ParsedTree) (sss : List (List SymbolTree)) → parse_of lines ≡ Ok ps → AreTables ps sss → AreRead (known_of ps sss)

-- the executable statements of each have the numbers 1, 2, 3 and so on, in the order of the text, and hidden statements those from 4097 on
abbrev pub AreInOrder : List ℕ → Type 0
AreInOrder ns = GoUp 1 (filter is_shown ns) × GoUp 4097 (filter is_hidden ns)

abbrev pub NumbersGoUp : Type 0
NumbersGoUp = (lines : Lines) (ps : List ParsedTree) → parse_of lines ≡ Ok ps → (i : ℕ) (p : ParsedTree) → slice_get ps i ≡ Some p → AreInOrder (list_numbers p.module_read.body)

-- so none stands twice
abbrev pub NumbersStandOnce : Type 0
NumbersStandOnce = (lines : Lines) (ps : List ParsedTree) (sss : List (List SymbolTree)) → parse_of lines ≡ Ok ps → AreNumberedOnce (known_of ps sss)

-- they are linked, and each table is that of its module, as laws on cells and CALLs ask
abbrev pub ProgramsAreLinked : Type 0
ProgramsAreLinked = (ps : List ParsedTree) (sss : List (List SymbolTree)) (g : Graph) → IsProgram ps sss g → IsLinked ps sss g × AreLaidOut ps sss

-- the effects that are made bottom-up hold in every run of a program that is read
abbrev pub EffectsAreOfPrograms : Type 0
EffectsAreOfPrograms = (ps : List ParsedTree) (sss : List (List SymbolTree)) (g : Graph) → IsProgram ps sss g →
    InEveryRun (known_of ps sss) g (λ x. IsOfModule (known_of ps sss) g (bottom_up (known_of ps sss) g) x)

-- whatever effects the results give
abbrev pub AllAreOfPrograms : Type 0
AllAreOfPrograms = (ps : List ParsedTree) (sss : List (List SymbolTree)) (g : Graph) → IsProgram ps sss g →
    InEveryRun (known_of ps sss) g (λ x. AllHold (known_of ps sss) g (bottom_up (known_of ps sss) g) x)
