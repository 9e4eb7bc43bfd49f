-- What is known of a marked loop at an execution of its DO.
use Rattle.std.specs.Prelude.{◌≡◌, ◌⊎◌, ℕ, Bool, true, List, Option, Some, All}
use Rattle.f77_ast.specs.Trees.{LoopTree, StmtTrees}
use Rattle.f77_ast.specs.DeclTrees.{ParsedTree}
use Rattle.f77_ast.specs.Places.{Places}
use Rattle.f77_ast.specs.Store.{Content, Store}
use Rattle.f77_ast.specs.Writes.{Locks}
use Rattle.f77_ast.specs.Loops.{Range}
use Rattle.f77_ast.specs.Plans.{Flow}
use Rattle.f77_ast.specs.Runs.{Answer, Gave, Broke}
use Rattle.f77_ast.specs.Executions.{run_of}
use Rattle.f77_ast.specs.Statements.{do_plan}
use Rattle.f77_ast.specs.declared.variable.Variable.TheVariants.{Own}
use Rattle.f77_ast.specs.Symbols.{SymbolTree}
use Rattle.call_graph.specs.declared.graph.Graph.{Graph}
use Rattle.f77_meaning.specs.Modules.{Known, known_of, names}
use Rattle.f77_meaning.specs.Processes.{Marked}
use Rattle.preconditions.specs.transformer_algebra.Laws.{In}
use Rattle.preconditions.specs.call_translation.Scopes.{ScopeTree}
use Rattle.in_out_regions.specs.region_sets.declared.region.Access.TheVariants.{Write}
use Rattle.in_out_regions.specs.region_sets.declared.region.Region.{Region}
use Rattle.loop_marker.specs.module_phases.ScalarPhases.{scope_of}
use Rattle.loop_marker.specs.dependence_test.Finding.{loop_in}
use Rattle.f77_ast.specs.declared.marks.Mark.TheVariants.{Parallel, Serial}
use Rattle.f77_ast.specs.declared.marks.Reason.{Reason}
use Rattle.loop_marker.specs.Marks.{Knowledge, mark_of}
use Rattle.loop_marker.specs.Results.{ModuleResults}
use Rattle.loop_marker.specs.Phases.{phases_of, all_marks}
use Rattle.laws_programs.specs.Programs.{IsProgram}
use Rattle.laws_marks.specs.ConflictExecutions.{Execution, InEachExecution}
use Rattle.laws_marks.specs.ConflictClaims.{KnownLoop, LoopIs, loop_with}
use Rattle.laws_interleavings.specs.MarkedStatements.{MarkedScope, marked_loop}
use Rattle.laws_marks.specs.MarkedBegun.{iterations_of}
use Rattle.laws_marks.specs.MarkedEnding.{EndsQuietly}
use Rattle.laws_marks.specs.MarkedBegins.{Begins}
use Rattle.laws_marks.specs.MarkedFit.{IsFree, HasOwnUnits, HasPrivateUnits}
use Rattle.laws_marks.specs.Dead.{index_name}
use Rattle.laws_marks.specs.DeadLaws.{outs_of}
use Rattle.result_lines.specs.declared.reduction.Part.{Part}
use Rattle.result_lines.specs.declared.reduction.Reduction.{Reduction}
use Rattle.reductions.specs.Reduced.{is_carried_by, reduction_of}
use Rattle.laws_marks.specs.Said.{knowledge, without_parts, said_at}
use Rattle.laws_marks.specs.Verdicts.{Says}

-- it came to an end
abbrev pub Finishes : Answer Flow → Type 0
Finishes (Gave f) = Unit {0}
Finishes (Broke b) = ⊥

-- the first of what is asked of a loop so that its iterations may be interleaved (`LoopIsFit`): it ends normally and has no input or output; its iterations are as claimed; and each variable of a WRITE
-- region of its body has no conflict, or what is written of it is of the iteration's own: private, or of a reduction variable
pub record LoopIsKnown (ks : List Known) (g : Graph) (k : ScopeTree) (at : Places) (d : KnownLoop) (own : ℕ → Bool) (m : Marked) (s : Store) (i : List Content) : Type 0 where
  pub ends : EndsQuietly m s
  pub known : LoopIs ks g k at d s (iterations_of m s i)
  pub verdicts : (r : Region) → In r d.body.regions → r.kind ≡ Write → IsFree k d r.variable ⊎ HasOwnUnits ks g k at own m s r.variable

-- of an execution of whatever statement of the module that came to an end, where it is a DO of which this is said: each loop to which it comes, where what an iteration writes of the symbols of
-- which it has copies is private in the loop, and what it writes of reduction variables is of its own, as is all that is private
abbrev pub MarkedLoopIsKnown : List Known → Graph → ModuleResults → Execution → Type 0
MarkedLoopIsKnown ks g f x =
    let k = f.known in
    Finishes (run_of x.does x.start x.input).answer →
    (l : LoopTree) → loop_in x.spot.statement k.read.body ≡ Some l →
    (reductions : Bool) (said : Reduction) → said_at g reductions f x.spot.statement ≡ Some said →
    (xs : List (List ℕ)) (sc : MarkedScope) (body : StmtTrees) (r : Range) (u : ℕ) (inner locked : Locks) → sc.plain.names ≡ names k.symbols → x.does ≡ do_plan l sc.plain x.places locked →
    let m = marked_loop xs sc body x.places r u inner in
    (own : ℕ → Bool) → ((y : ℕ) → m.private y ≡ true → own y ≡ true) → ((n : ℕ) → In n said.private → HasPrivateUnits ks g (scope_of g.untracked k) x.places m x.start (Own n)) →
    ((p : Part) → In p said.parts → HasOwnUnits ks g (scope_of g.untracked k) x.places own m x.start (Own p.cell)) → Begins sc.plain (index_name l) l x.places locked m x.start x.input →
    LoopIsKnown ks g (scope_of g.untracked k) x.places (loop_with g (phases_of f).known l) own m x.start x.input

-- of an execution in whatever module
abbrev pub AllMarkedLoopsAreKnown : List Known → Graph → List ModuleResults → Execution → Type 0
AllMarkedLoopsAreKnown ks g fs x = All (λ f. f.known.read.name ≡ x.spot.module_name → MarkedLoopIsKnown ks g f x) fs

-- ---- laws

-- what a mark says of a DO
abbrev pub MarksSayParallel : Type 0
MarksSayParallel = (k : Knowledge) (n : ℕ) (label : Option ℕ) (l : LoopTree) (ns : List ℕ) → mark_of k n label l ≡ Parallel ns → Says k n l (without_parts ns)

-- and what reduction variables say of one that nothing but its variables stands against
abbrev pub ReductionsSay : Type 0
ReductionsSay =
    (g : Graph) (f : ModuleResults) (n : ℕ) (label : Option ℕ) (l : LoopTree) (s : Reason) (r : Reduction) → mark_of (knowledge g f) n label l ≡ Serial s → is_carried_by s ≡ true →
    reduction_of (knowledge g f) g.order n l ≡ Some r → Says (knowledge g f) n l r

-- so it is in every run of a program that is read, up to its first fault
abbrev pub ReadMarkedLoopsAreKnown : Type 0
ReadMarkedLoopsAreKnown = (ps : List ParsedTree) (sss : List (List SymbolTree)) (g : Graph) → IsProgram ps sss g → InEachExecution (known_of ps sss) g (AllMarkedLoopsAreKnown (known_of ps sss) g (all_marks g (outs_of ps sss g)))
