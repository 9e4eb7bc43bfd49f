-- What is claimed of the iterations in a run of a program: of the DOs of its modules.
use Rattle.std.specs.Prelude.{◌≡◌, ℕ, List, Some}
use Rattle.affine_systems.specs.declared.row.System.{System}
use Rattle.f77_ast.specs.Trees.{LoopTree}
use Rattle.f77_ast.specs.declared.results.At.{At}
use Rattle.call_graph.specs.declared.graph.Graph.{Graph}
use Rattle.f77_meaning.specs.Modules.{Known}
use Rattle.preconditions.specs.transformers.Given.{Callees}
use Rattle.preconditions.specs.Modules.{preconditions_of}
use Rattle.in_out_regions.specs.region_sets.Lists.{accesses_at, set_at}
use Rattle.in_out_regions.specs.array_regions.Calls.{Callees as Summaries}
use Rattle.loop_marker.specs.dependence_test.Body.{body_of}
use Rattle.loop_marker.specs.dependence_test.Finding.{loop_in}
use Rattle.loop_marker.specs.privatizer.Uses.{ins_in}
use Rattle.laws_analyses.specs.Statements.Results.{found_in}
use Rattle.laws_analyses.specs.Calls.Parts.{Part}
use Rattle.laws_analyses.specs.Regions.Programs.{regions_in_part}
use Rattle.laws_marks.specs.InPrograms.{ins_in_part}
use Rattle.laws_marks.specs.ConflictExecutions.{Execution}
use Rattle.laws_marks.specs.ConflictIterations.{iterations}
use Rattle.laws_marks.specs.ConflictClaims.{KnownLoop, LoopIs}

-- what holds where the statements of a module begin
abbrev pub holding : Callees → Part → List (At System)
holding cs k = (preconditions_of k.routine.body k.scope (found_in k.routine.body k.scope cs) k.entry).at

-- what is known of a DO of a module, with the regions of the modules that it calls: rs has READ and WRITE, is has IN
abbrev pub loop_in_part : Graph → Callees → Summaries → Summaries → Part → LoopTree → KnownLoop
loop_in_part g cs rs is k l = record {
  loop = l;
  body = body_of l k.scope k.found.transformer (holding cs k) (accesses_at (regions_in_part g cs rs k).at);
  ins = ins_in k.scope.symbols k.found.transformer (set_at (regions_in_part g cs rs k).at) (set_at (ins_in_part g cs rs is k).at) l;
}

abbrev pub PartLoopsHold : List Known → Graph → Callees → Summaries → Summaries → Part → Execution → Type 0
PartLoopsHold ks g cs rs is k x = (l : LoopTree) → loop_in x.spot.statement k.routine.body ≡ Some l → LoopIs ks g k.scope x.places (loop_in_part g cs rs is k l) x.start (iterations x.does x.start x.input)

-- of an execution of a statement, or of the entry, by the name of its module
abbrev pub EachLoopHolds : List Known → Graph → Callees → (List ℕ → Summaries) → (List ℕ → Summaries) → (List ℕ → Part) → Execution → Type 0
EachLoopHolds ks g cs rs is of x = let k = of x.spot.module_name in PartLoopsHold ks g cs (rs k.routine.name) (is k.routine.name) k x
