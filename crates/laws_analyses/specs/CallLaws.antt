-- What tables, layout and links give of programs that are read, as laws on the runs of whole programs ask, and what holds of these runs.
use Rattle.std.specs.Prelude.{◌≡◌, ℕ, false, List}
use Rattle.affine_systems.specs.declared.row.System.{System}
use Rattle.f77_ast.specs.DeclTrees.{ParsedTree}
use Rattle.f77_ast.specs.Symbols.{SymbolTree}
use Rattle.call_graph.specs.declared.graph.Graph.{Graph}
use Rattle.f77_meaning.specs.Modules.{Known, known_of, names}
use Rattle.f77_meaning.specs.Claimed.{InEveryRun}
use Rattle.affine_forms.specs.Scalars.{is_cell}
use Rattle.affine_forms.specs.Claims.{Agrees}
use Rattle.preconditions.specs.call_translation.Sites.{HoldingSite}
use Rattle.preconditions.specs.transformers.Given.{Callees}
use Rattle.preconditions.specs.transformers.Jumps.{list_has}
use Rattle.laws_programs.specs.Storage.Programs.{IsLinked, IsModule, known}
use Rattle.laws_programs.specs.Storage.Initial.{DataLies}
use Rattle.laws_programs.specs.Storage.Calls.{AreLaidOut}
use Rattle.laws_programs.specs.Programs.{IsProgram}
use Rattle.laws_analyses.specs.Statements.Leads.{StaysIn}
use Rattle.laws_analyses.specs.Statements.Targets.{lacks_targets}
use Rattle.f77_ast.specs.StatementNumbers.{HasNumbers}
use Rattle.laws_analyses.specs.Statements.Laws.{is_scalar}
use Rattle.laws_analyses.specs.Calls.Parts.{Sane}
use Rattle.laws_analyses.specs.Calls.ProgramLaws.{EachHolds}
use Rattle.laws_analyses.specs.Parts.{scope_in, blocks_in, part_of}
use Rattle.laws_analyses.specs.Analysed.{part_named, AreAnalysed}

-- names of a module are taken for what they stand for
abbrev pub NamesAgree : Graph → ParsedTree → List SymbolTree → Type 0
NamesAgree g p ss = Agrees (names ss) (scope_in g (known p ss)).scalars (is_cell (scope_in g (known p ss)).tracked)

-- a module whose names are so, and whose GO TOs stay in it, is such as the induction over modules asks, whatever holds where it is entered
abbrev pub ModulesMeetHypotheses : Type 0
ModulesMeetHypotheses = (ps : List ParsedTree) (sss : List (List SymbolTree)) (g : Graph) → IsLinked ps sss g → AreLaidOut ps sss → (i : ℕ) (p : ParsedTree) (ss : List SymbolTree) → IsModule ps sss i p ss →
    (cs : Callees) (entry : System) → NamesAgree g p ss → StaysIn p.module_read.body → Sane (blocks_in (known_of ps sss) g) (part_of (known_of ps sss) g cs entry (known p ss))

-- what is left to be known of each module
pub record Settled (g : Graph) (p : ParsedTree) (ss : List SymbolTree) : Type 0 where
  pub agrees : NamesAgree g p ss
  -- GO TOs lead to labels of their module
  pub stays : StaysIn p.module_read.body
  pub numbered : HasNumbers p.module_read.body
  -- left sides, items of READ and indices of DO are scalars or elements with subscripts
  pub targets : list_has (lacks_targets (is_scalar ss)) p.module_read.body ≡ false

-- then in every run of a program that is read, up to its first fault, the preconditions and transformers hold that such summaries and entries give
abbrev pub AnalysedProgramsHold : Type 0
AnalysedProgramsHold = (ps : List ParsedTree) (sss : List (List SymbolTree)) (g : Graph) → IsProgram ps sss g → DataLies ps sss →
    ((i : ℕ) (p : ParsedTree) (ss : List SymbolTree) → IsModule ps sss i p ss → Settled g p ss) →
    (cs : Callees) (sites : List ℕ → List HoldingSite) (entry : Known → System) → AreAnalysed (known_of ps sss) g cs sites entry → InEveryRun (known_of ps sss) g (EachHolds cs (part_named (known_of ps sss) g cs entry))
