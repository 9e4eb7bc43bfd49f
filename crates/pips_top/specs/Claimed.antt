-- What is claimed of every run of a program by what is said of its modules, and what each line is read as.
use Rattle.std.specs.Prelude.{All as EachOf, ◌≡◌, ℕ, List, Some, slice_get}
use Rattle.f77_printer.specs.declared.added.Added.{Added}
use Rattle.call_graph.specs.declared.graph.Graph.{Graph}
use Rattle.f77_meaning.specs.Modules.{Known, known_of, symbol_names}
use Rattle.f77_meaning.specs.Occurrences.{Occurrence}
use Rattle.f77_meaning.specs.Claimed.{InEveryRun, InConformingRuns}
use Rattle.pipsmake_base.specs.module_phases.ScalarPhases.{scope_of}
use Rattle.pipsmake_base.specs.loop_marker.Results.{ModuleResults}
use Rattle.pipsmake_base.specs.result_lines.Lines.{scalar_lines_of, region_lines_of}
use Rattle.pipsmake_base.specs.privatizer.Functions.{module_functions}
use Rattle.pipsmake_base.specs.result_lines.ShownMarks.{shown_marks}
use Rattle.laws_bounds.specs.laws_analyses.Claims.{AnalysisHolds}
use Rattle.laws_lines.specs.Lines.{EachMeans}
use Rattle.laws_bounds.specs.laws_analyses.Regions.Claims.{RegionsHold}
use Rattle.laws_bounds.specs.laws_marks.InClaims.{InRegionsHold}
use Rattle.laws_bounds.specs.laws_marks.OutClaims.{OutRegionsHold}
use Rattle.laws_bounds.specs.laws_marks.Said.{reductions_of}
use Rattle.laws_lines.specs.Regions.Laws.{SetsAreOver}
use Rattle.laws_lines.specs.Regions.Lines.{AreRegionLines}
use Rattle.pips_top.specs.Covered.{AreCovered}
use Rattle.pips_top.specs.MarksRead.{AreMarksRead, AreReductionsRead}
use Rattle.pips_top.specs.Program.{ProgramTree}
use Rattle.pips_top.specs.Said.{scalars_said}
use Rattle.pips_top.specs.Shown.{results_of_program, lines_wanted, lines_for}
use Rattle.pips_top.specs.declared.wanted.Wanted.{Wanted}

-- ---- claims

-- of an execution of a statement of the module, or of its entry: its precondition and its transformer, its READ and WRITE regions, and its IN regions
pub record SaidHolds (ks : List Known) (g : Graph) (f : ModuleResults) (x : Occurrence) : Type 0 where
  pub scalars : AnalysisHolds g (scalars_said f) x
  pub regions : RegionsHold ks g (scope_of g.untracked f.known) f.regions x
  pub ins : InRegionsHold ks g (scope_of g.untracked f.known) f.ins x

-- of an execution in whatever module
abbrev pub AllSaidHolds : List Known → Graph → List ModuleResults → Occurrence → Type 0
AllSaidHolds ks g fs x = EachOf (λ f. f.known.read.name ≡ x.spot.module_name → SaidHolds ks g f x) fs

-- and its OUT regions
abbrev pub AllOutsHold : List Known → Graph → List ModuleResults → Occurrence → Type 0
AllOutsHold ks g fs x = EachOf (λ f. f.known.read.name ≡ x.spot.module_name → OutRegionsHold ks g (scope_of g.untracked f.known) f.outs x) fs

-- a region has one to four systems, on the subscripts and on analysed scalars where the statement begins; they name no other variable
pub record PlacesAreOver (g : Graph) (f : ModuleResults) : Type 0 where
  pub regions : SetsAreOver g.untracked f.known f.regions
  pub ins : SetsAreOver g.untracked f.known f.ins
  pub outs : SetsAreOver g.untracked f.known f.outs

pub record AllHold (ks : List Known) (g : Graph) (fs : List ModuleResults) : Type 0 where
  -- up to the end of the run or its first fault
  pub runs : InEveryRun ks g (AllSaidHolds ks g fs)
  -- where no fault ends the run
  pub outs : InConformingRuns ks g (AllOutsHold ks g fs)
  pub places : EachOf (PlacesAreOver g) fs

-- what is said is true
abbrev pub ClaimsHold : ProgramTree → Type 0
ClaimsHold p = AllHold (known_of p.modules p.tables) p.graph (results_of_program p)

-- and nothing is left out
abbrev pub SaysAll : ProgramTree → Type 0
SaysAll p = AreCovered (known_of p.modules p.tables) (results_of_program p)

-- ---- lines

-- lines are those of a module; each claim is read, by the names of the symbols, as just what was found there: a precondition, a transformer or, where no symbol is named PHI1 to PHI7, a region,
-- whose line says of all its systems together that rows were lost; there is one line for each region of a DO or a CALL and of the entry; each directive is read as the names of its private variables, without those of functions of which the module takes values,
-- and one of a DO with reduction variables as its REDUCTION clauses too
pub record AreRead (show : Wanted) (g : Graph) (f : ModuleResults) (lines : List Added) : Type 0 where
  pub parts : lines ≡ lines_wanted show g f
  pub scalars : EachMeans (scalars_said f) (scalar_lines_of f.known f.transformers f.preconditions)
  pub regions : AreRegionLines f.known f.regions (region_lines_of f.known f.regions)
  pub ins : AreRegionLines f.known f.ins (region_lines_of f.known f.ins)
  pub outs : AreRegionLines f.known f.outs (region_lines_of f.known f.outs)
  pub marks : AreMarksRead (symbol_names f.known.symbols) (shown_marks f.known.read (symbol_names f.known.symbols) f.marks)
  pub reductions : AreReductionsRead (module_functions f.known.read) (symbol_names f.known.symbols) (reductions_of show.reductions g f)

-- and each line that is added to a module is one of these
abbrev pub LinesMean : Wanted → ProgramTree → Type 0
LinesMean show p = (j : ℕ) (f : ModuleResults) → slice_get (results_of_program p) j ≡ Some f → AreRead show p.graph f (lines_for show p.graph (results_of_program p) f.known.read.name)
