-- What is proved of marked loops.
use Rattle.std.specs.Prelude.{◌≡◌, ℕ, List, [], ◌∷◌, Option, Some}
use Rattle.f77_ast.specs.Trees.{ExprTree, StmtTrees, LoopTree, loop}
use Rattle.f77_ast.specs.Places.{Places}
use Rattle.f77_ast.specs.Store.{Content, Store}
use Rattle.f77_ast.specs.Writes.{Locks, lock}
use Rattle.f77_ast.specs.Faults.{Locked}
use Rattle.f77_ast.specs.Loops.{Range}
use Rattle.f77_ast.specs.Plans.{Normal}
use Rattle.f77_ast.specs.Statements.{Scope}
use Rattle.f77_ast.specs.Runs.{Event, Gave}
use Rattle.call_graph.specs.declared.graph.Graph.{Graph}
use Rattle.f77_meaning.specs.Modules.{Known}
use Rattle.f77_meaning.specs.Processes.{Marked}
use Rattle.preconditions.specs.call_translation.Scopes.{ScopeTree}
use Rattle.laws_marks.specs.ConflictClaims.{KnownLoop}
use Rattle.laws_interleavings.specs.Iterations.{whole_loop, MayInterleave}
use Rattle.laws_interleavings.specs.Sound.{NoTake}
use Rattle.laws_interleavings.specs.Holds.{LoopHolds, MarksHold}
use Rattle.laws_interleavings.specs.Reductions.{Reduced, own}
use Rattle.laws_interleavings.specs.ReducedLoops.{ReducedHolds}
use Rattle.laws_interleavings.specs.Accumulating.{Reduction, Directive}
use Rattle.laws_interleavings.specs.MarkedStatements.{MarkedScope, marked_loop, reduced_loop, loop_with}
use Rattle.laws_marks.specs.MarkedBegun.{iterations_of, AreBegun}
use Rattle.laws_marks.specs.MarkedEnding.{EndsQuietly, IsQuietRun, IsQuietDo}
use Rattle.laws_marks.specs.MarkedBegins.{Begins}
use Rattle.laws_marks.specs.MarkedFit.{LoopIsFit, IsDeadAfter, AccumulatesAlone}

-- so it is of each marked DO with its statements
abbrev pub OfMarkedLoops : (Marked → Type 0) → Type 0
OfMarkedLoops C = (xs : List (List ℕ)) (sc : MarkedScope) (ss : StmtTrees) (at : Places) (r : Range) (u : ℕ) (locked : Locks) → C (marked_loop xs sc ss at r u locked)

abbrev pub OfReducedLoops : (Reduced → Type 0) → Type 0
OfReducedLoops C = (e : Directive) (sc : MarkedScope) (ss : StmtTrees) (at : Places) (r : Range) (u : ℕ) (locked : Locks) → C (reduced_loop e sc ss at r u locked)

-- where the loop ends normally and takes no input, the plan of the DO is cut into its iterations, on whatever input
abbrev pub IterationsAreBegun : Type 0
IterationsAreBegun = OfMarkedLoops (λ m. (s : Store) (i : List Content) → (whole_loop m s).answer ≡ Gave Normal → NoTake (whole_loop m s).trace → AreBegun m s (iterations_of m s i))

-- a loop whose run on an input is quiet ends quietly without input
abbrev pub LoopsEndQuietly : Type 0
LoopsEndQuietly = (m : Marked) (s : Store) (i : List Content) → IsQuietRun m s i → EndsQuietly m s

-- such is the run of the loop of a DO whose run is quiet
abbrev pub DosAreQuiet : Type 0
DosAreQuiet = (sc : Scope) (variable : List ℕ) (l : LoopTree) (at : Places) (locked : Locks) (m : Marked) (s : Store) (i : List Content) → Begins sc variable l at locked m s i → IsQuietDo sc l at locked s i → IsQuietRun m s i

-- what is asked of a loop and of what the run does later, by the REDUCTION clauses of its directive
abbrev pub DirectedHolds : List Reduction → Reduced → Store → List Event → Type 0
DirectedHolds [] d s later = LoopHolds d.loop s later
DirectedHolds (r ∷ rs) d s later = ReducedHolds d s later

-- what is asked of a DO with a directive and of what the run does later holds, where it does of each loop to which it comes
abbrev pub LoopsBegin : Type 0
LoopsBegin = (e : Directive) (sc : MarkedScope) (variable : List ℕ) (e1 e2 : ExprTree) (e3 : Option ExprTree) (body : StmtTrees) (at : Places) (locked : Locks) (s : Store) (i : List Content) (later : List Event) →
    ((r : Range) (u : ℕ) → let d = reduced_loop e sc body at r u (lock locked u Locked) in Begins sc.plain variable (loop variable e1 e2 e3 body) at locked d.loop s i → DirectedHolds e.reductions d s later) →
    MarksHold (loop_with (Some e) (loop variable e1 e2 e3 body) sc at locked) s i later

-- a loop that is fit may be interleaved
abbrev pub LoopsMayInterleave : Type 0
LoopsMayInterleave = OfMarkedLoops (λ m. (ks : List Known) (g : Graph) (k : ScopeTree) (at : Places) (d : KnownLoop) (s : Store) (i : List Content) → LoopIsFit ks g k at d m.private m s i → MayInterleave m s)

-- and what is asked of it and of what the run does later holds, where nothing later reads what it loses
abbrev pub LoopsHold : Type 0
LoopsHold =
    OfMarkedLoops (λ m. (ks : List Known) (g : Graph) (k : ScopeTree) (at : Places) (d : KnownLoop) (s : Store) (i : List Content) (later : List Event) → LoopIsFit ks g k at d m.private m s i → IsDeadAfter m s later → LoopHolds m s later)

-- so it is of a loop with reduction variables whose body uses these to accumulate alone
abbrev pub ReducedLoopsHold : Type 0
ReducedLoopsHold =
    OfReducedLoops (λ d. (ks : List Known) (g : Graph) (k : ScopeTree) (at : Places) (l : KnownLoop) (s : Store) (i : List Content) (later : List Event) →
    LoopIsFit ks g k at l (own d) d.loop s i → IsDeadAfter d.loop s later → AccumulatesAlone d s → ReducedHolds d s later)
