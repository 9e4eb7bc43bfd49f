-- What is computed of the small programs, and a claim on one of them that does not hold.
use Rattle.std.specs.Prelude.{◌≡◌, ℕ, ℤ, pos, negsuc, Bool, true, false, List, [], ◌∷◌, Option, Some, None, Ok, codes, option_and_then}
use Rattle.affine_systems.specs.declared.row.Var.TheVariants.{Cell, Exit}
use Rattle.affine_systems.specs.declared.row.System.{System}
use Rattle.affine_systems.specs.Terms.{term}
use Rattle.affine_systems.specs.Rows.{row, system}
use Rattle.f77_ast.specs.declared.marks.Mark.{Mark}
use Rattle.f77_ast.specs.declared.marks.Mark.TheVariants.{Parallel}
use Rattle.f77_ast.specs.ResultLists.{value_at}
use Rattle.f77_ast.specs.Runs.{Ran, Gave}
use Rattle.f77_ast.specs.Plans.{Flow, Normal}
use Rattle.f77_ast.specs.Programs.{program_run}
use Rattle.f77_meaning.specs.Claimed.{InEveryRun}
use Rattle.f77_meaning.specs.Linked.{program_of}
use Rattle.f77_meaning.specs.Modules.{Known, known_of}
use Rattle.affine_forms.specs.Conditions.{no_rows}
use Rattle.in_out_regions.specs.transformer_algebra.declared.transformer.Transformer.{Transformer}
use Rattle.in_out_regions.specs.transformer_algebra.Transformers.{transformer, identity_transformer}
use Rattle.pipsmake_base.specs.module_phases.ScalarPhases.{Analysis}
use Rattle.pipsmake_base.specs.loop_marker.Results.{ModuleResults}
use Rattle.pipsmake_base.specs.result_lines.declared.reduction.ReduceOp.TheVariants.{Sum}
use Rattle.pipsmake_base.specs.result_lines.declared.reduction.Reduction.{Reduction}
use Rattle.pipsmake_base.specs.result_lines.declared.show.Show.TheVariants.{Bare}
use Rattle.pipsmake_base.specs.pipsmake_meaning.ResultEntries.{results_for}
use Rattle.laws_bounds.specs.laws_analyses.Claims.{AnalysesHold}
use Rattle.laws_interleavings.specs.Marks.{Ended, OutOfPicks, Parallel as Execution}
use Rattle.laws_interleavings.specs.MarkedPrograms.{marked_run}
use Rattle.laws_lines.specs.Marks.Directives.{Clauses}
use Rattle.laws_lines.specs.Marks.MarkedLoops.{directives_of}
use Rattle.laws_bounds.specs.laws_marks.Said.{said_at}
use Rattle.laws_programs.specs.roundtrip_programs.Texts.Texts.{modules_text}
use Rattle.pips_top.specs.Program.{ProgramTree}
use Rattle.pips_top.specs.Reading.{reading}
use Rattle.pips_top.specs.MarkedText.{loops_found, directives_meant, executed}
use Rattle.pips_top.specs.Shown.{results_of_program, alone}
use Rattle.pips_top.specs.Written.{written}
use Rattle.pips_top.specs.declared.wanted.Wanted.{Wanted}
use Rattle.pips_top.specs.Small.{text, parsed, table, graph, trace, modules}
use Rattle.pips_top.specs.SmallFunction as small
use Rattle.pips_top.specs.SmallParallel as parallel
use Rattle.pips_top.specs.SmallBounds as bounds
use Rattle.pips_top.specs.SmallReduced as reduced

abbrev pub program : ProgramTree
program = record { modules = parsed ∷ []; tables = table ∷ []; graph = graph }

-- a run of a program that was read, on no input
abbrev pub run_of : ProgramTree → Ran Flow
run_of p = program_run (program_of (known_of p.modules p.tables) p.graph) 0 []

-- the bytes are read as this program, whose run comes to its END by this trace
pub record TextRunsSo : Type 0 where
  pub read : reading text ≡ Ok program
  pub ends : (run_of program).answer ≡ Gave Normal
  pub does : (run_of program).trace ≡ trace

-- K is this number
abbrev pub k_is : ℤ → System
k_is n = system (row true (term (Cell 2) (pos 1) ∷ []) n ∷ []) false

-- an analysis that says one thing: K is this number where statement 4, the PRINT, begins
abbrev pub says : Known → ℤ → Analysis
says m n = record {
  found = record { known = m; own = record { at = []; summary = identity_transformer } };
  holds = record { at = record { id = 4; value = k_is n } ∷ []; summary = no_rows };
}

-- of the only module
abbrev pub all_say : List Known → ℤ → List Analysis
all_say [] n = []
all_say (m ∷ ms) n = says m n ∷ all_say ms n

-- K is 4 there: it does not hold of every run that K is 5
abbrev pub WrongClaimFails : Type 0
WrongClaimFails = InEveryRun modules graph (AnalysesHold graph (all_say modules (pos 5))) → ⊥

-- the bytes with a function and a DO WHILE are read as that program, and it is written as these bytes, where nothing is added
pub record FunctionIsReadSo : Type 0 where
  pub read : reading small.text ≡ Ok small.program
  pub written : modules_text (λ m. []) small.program.modules ≡ small.text

-- ---- what the analyses give

-- of the module of a name
abbrev pub results_in : ProgramTree → List ℕ → Option ModuleResults
results_in p x = results_for (results_of_program p) x

-- what a statement of it does
abbrev pub does_at : ProgramTree → List ℕ → ℕ → Option Transformer
does_at p x n = option_and_then (λ r. value_at r.transformers.at n) (results_in p x)

-- what holds where a statement of it begins
abbrev pub holds_at : ProgramTree → List ℕ → ℕ → Option System
holds_at p x n = option_and_then (λ r. value_at r.preconditions.at n) (results_in p x)

-- the mark of a DO of it
abbrev pub mark_at : ProgramTree → List ℕ → ℕ → Option Mark
mark_at p x n = option_and_then (λ r. value_at r.marks n) (results_in p x)

-- 3 <= K', K <= K'
abbrev pub turns_do : Transformer
turns_do = transformer (1 ∷ 2 ∷ []) [] (system (row false (term (Exit 1) (negsuc 0) ∷ []) (negsuc 2) ∷ row false (term (Cell 1) (pos 1) ∷ term (Exit 1) (negsuc 0) ∷ []) (pos 0) ∷ []) false)

-- K == 3, F == 3
abbrev pub both_are_three : System
both_are_three = system (row true (term (Cell 1) (pos 1) ∷ []) (pos 3) ∷ row true (term (Cell 2) (pos 1) ∷ []) (pos 3) ∷ []) false

-- F == 0, 0 <= N, N <= 2
abbrev pub at_entry : System
at_entry =
    system (row true (term (Cell 2) (pos 1) ∷ []) (pos 0)
    ∷ row false (term (Cell 1) (negsuc 0) ∷ []) (pos 0)
    ∷ row false (term (Cell 1) (pos 1) ∷ []) (pos 2)
    ∷ []) false

-- of the program with a function and a DO WHILE: what the DO WHILE does, with the test false at its end; what holds at the PRINT after it, where its test was true
-- before the last iteration; and what holds in the function, which is called only where the test is true
pub record FunctionIsAnalysedSo : Type 0 where
  pub turns : does_at small.program (codes "P") 2 ≡ Some turns_do
  pub after : holds_at small.program (codes "P") 4 ≡ Some both_are_three
  pub called : holds_at small.program (codes "F") 1 ≡ Some at_entry

-- of the program with a loop that refers to a function: the loop is parallel, and F, the symbol 2, is private; it is written with a directive that does not name F
pub record FunctionIsPrivateSo : Type 0 where
  pub marked : mark_at parallel.program (codes "P") 1 ≡ Some (Parallel (2 ∷ []))
  pub written_so : written (alone Bare) parallel.program ≡ parallel.text

-- ---- loops with reduction variables

-- of a DO of a module: what its directive says, where reductions are asked for or not
abbrev pub reduction_at : Bool → ProgramTree → List ℕ → ℕ → Option Reduction
reduction_at reductions p x n = option_and_then (λ r. said_at p.graph reductions r n) (results_in p x)

abbrev pub with_reductions : Wanted
with_reductions = record { show = Bare; reductions = true; bounds = false }

-- REDUCTION(+:K)
abbrev pub sum_of_k : Clauses
sum_of_k = record { private = []; reductions = record { op = Sum; name = codes "K" } ∷ [] }

-- a run of the program, its DO as its directive says, by these picks: no access of an iteration is shared, so each pick combines a copy
abbrev pub run_by : List ℕ → Execution
run_by picks = marked_run (executed reduced.program) 0 (directives_meant (directives_of reduced.program.modules (loops_found with_reductions reduced.program))) (picks ∷ []) []

-- of the program with a sum: the DO has K, the symbol 1, as reduction variable, and it is written so; where no reductions are asked for it is neither
pub record SumIsReducedSo : Type 0 where
  pub found : reduction_at true reduced.program (codes "P") 2 ≡ Some (record { private = []; parts = record { cell = 1; op = Sum } ∷ [] })
  pub none : reduction_at false reduced.program (codes "P") 2 ≡ None
  pub written_so : written with_reductions reduced.program ≡ reduced.text_with_directive
  pub written_alone : written (alone Bare) reduced.program ≡ reduced.text
  pub directive : directives_of reduced.program.modules (loops_found with_reductions reduced.program) (codes "P") 2 ≡ Some sum_of_k
  -- the copies combined in their order, and the second one first: then the sum passes 2147483647 on the way
  pub in_order : ((run_by (0 ∷ 0 ∷ [])).outcome ≡ Ended Normal) × ((run_by (0 ∷ 0 ∷ [])).printed ≡ reduced.printed)
  pub backwards : ((run_by (1 ∷ 0 ∷ [])).outcome ≡ Ended Normal) × ((run_by (1 ∷ 0 ∷ [])).printed ≡ reduced.printed)
  -- a pick too few: nothing is printed
  pub short : ((run_by (1 ∷ [])).outcome ≡ OutOfPicks) × ((run_by (1 ∷ [])).printed ≡ [])

-- ---- references

abbrev pub with_bounds : Wanted
with_bounds = record { show = Bare; reductions = false; bounds = true }

-- of the program with references to an array of ten elements, in a loop whose variable is 2 to 10: that before and that at the variable are safe, and that behind it is not;
-- the lines stand before the statement, SAFE first; without lines on references none is written
pub record ReferencesAreCheckedSo : Type 0 where
  pub written_so : written with_bounds bounds.program ≡ bounds.text_with_checks
  pub written_alone : written (alone Bare) bounds.program ≡ bounds.text
