-- What is claimed of the iterations of a DO.
use Rattle.std.specs.Prelude.{◌≡◌, ◌⊎◌, ℕ, ℤ, ◌<◌, true, false, List, Some, None, slice_get}
use Rattle.affine_systems.specs.declared.row.System.{System}
use Rattle.f77_ast.specs.Trees.{LoopTree, StmtTrees}
use Rattle.f77_ast.specs.Trees as tree
use Rattle.f77_ast.specs.Store.{Store}
use Rattle.f77_ast.specs.Runs.{Answer, Gave, Broke}
use Rattle.f77_ast.specs.Plans.{Flow, Normal, Jump, Returned, Stopped}
use Rattle.f77_ast.specs.DeclTrees.{ModuleTree}
use Rattle.f77_ast.specs.Places.{Places}
use Rattle.f77_ast.specs.Symbols.{SymbolTree}
use Rattle.f77_ast.specs.Shared.{overlap}
use Rattle.f77_ast.specs.declared.variable.Variable.{Variable}
use Rattle.call_graph.specs.declared.graph.Graph.{Graph}
use Rattle.f77_meaning.specs.Modules.{Known}
use Rattle.f77_meaning.specs.Accesses.{is_read_first}
use Rattle.affine_forms.specs.Scalars.{is_cell}
use Rattle.affine_forms.specs.Claims.{unit_in, numbers_of}
use Rattle.preconditions.specs.transformer_algebra.Cells.{has}
use Rattle.preconditions.specs.transformer_algebra.Claims.{Scene, HoldsAt}
use Rattle.preconditions.specs.call_translation.Scopes.{ScopeTree}
use Rattle.preconditions.specs.transformers.Jumps.{list_has}
use Rattle.preconditions.specs.transformers.Lists.{transformer_at}
use Rattle.f77_ast.specs.declared.marks.Kinds.{Kinds}
use Rattle.in_out_regions.specs.region_sets.declared.region.Access.{Access}
use Rattle.in_out_regions.specs.region_sets.declared.region.Access.TheVariants.{Write, In as AtIn}
use Rattle.in_out_regions.specs.region_sets.declared.region.Region.{Region}
use Rattle.in_out_regions.specs.region_sets.Claims.{LiesInSet}
use Rattle.in_out_regions.specs.region_sets.Lists.{accesses_at, set_at}
use Rattle.loop_marker.specs.module_phases.InPhases.{ModuleIns}
use Rattle.loop_marker.specs.module_phases.ScalarPhases.{scope_of}
use Rattle.loop_marker.specs.dependence_test.declared.body.LoopBody.{LoopBody}
use Rattle.loop_marker.specs.dependence_test.Body.{body_of}
use Rattle.loop_marker.specs.dependence_test.Finding.{loop_in}
use Rattle.loop_marker.specs.dependence_test.declared.answer.Conflict.TheVariants as answer
use Rattle.loop_marker.specs.dependence_test.Kinds.{first_access, second_access}
use Rattle.loop_marker.specs.dependence_test.Conflicts.{kept_system, conflict_of}
use Rattle.loop_marker.specs.dependence_test.Claims.{IsWritten}
use Rattle.f77_ast.specs.declared.marks.Private.TheVariants.{Yes}
use Rattle.loop_marker.specs.privatizer.Uses.{ins_in}
use Rattle.loop_marker.specs.privatizer.Private.{private_in}
use Rattle.laws_analyses.specs.Statements.Leads.{list_leads}
use Rattle.laws_analyses.specs.Statements.Activation.{Jumps}
use Rattle.laws_analyses.specs.Regions.Settings.{elements_with}
use Rattle.laws_analyses.specs.Regions.Shown.{accessed, Touches}
use Rattle.laws_marks.specs.InShown.{IsFirst}
use Rattle.laws_marks.specs.ConflictExecutions.{Execution}
use Rattle.laws_marks.specs.ConflictIterations.{Iteration, iterations}
use Rattle.f77_ast.specs.Shapes.{is_return}

-- ---- units

-- the tracked cells of a module whose variables lie at these places
abbrev pub scene_in : ScopeTree → Places → Scene
scene_in m at = record { tracked = is_cell m.tracked; unit = unit_in at; far = λ u. false; place = λ u. 0 }

-- ---- no conflict

-- an earlier and a later iteration access the unit, as the kinds say, where it lies in the WRITE region of the variable at the beginning of one that so
-- writes it
pub record Meet (ks : List Known) (g : Graph) (m : ScopeTree) (at : Places) (rs : List Region) (v : Variable) (kinds : Kinds) (x y : Iteration) (u : ℕ) : Type 0 where
  pub earlier : accessed (first_access kinds) x.did u ≡ true
  pub later : accessed (second_access kinds) y.did u ≡ true
  pub written : ((first_access kinds ≡ Write) × IsWritten (scene_in m at) (elements_with ks g m.symbols at) rs v (numbers_of x.start) u)
      ⊎ ((second_access kinds ≡ Write) × IsWritten (scene_in m at) (elements_with ks g m.symbols at) rs v (numbers_of y.start) u)

-- of iterations in their order none two meet
abbrev pub NoneMeet : List Known → Graph → ScopeTree → Places → List Region → Variable → Kinds → List Iteration → Type 0
NoneMeet ks g m at rs v kinds xs = (i j : ℕ) (x y : Iteration) → i < j → slice_get xs i ≡ Some x → slice_get xs j ≡ Some y → (u : ℕ) → Meet ks g m at rs v kinds x y u → ⊥

-- ---- what is known of a DO

-- its body, and what the body reads first, by IN regions
pub record KnownLoop : Type 0 where
  pub loop : LoopTree
  pub body : LoopBody
  pub ins : List Region

abbrev pub body_list : LoopTree → StmtTrees
body_list (tree.loop index first last step body) = body

-- control leaves a body by a GO TO, or by a RETURN, only where it has such
abbrev pub LeavesBy : StmtTrees → Answer Flow → Type 0
LeavesBy body (Gave Normal) = Unit {0}
LeavesBy body (Gave (Jump l)) = Jumps (λ ls. list_leads body ls) l
LeavesBy body (Gave Returned) = list_has is_return body ≡ true
LeavesBy body (Gave Stopped) = Unit {0}
LeavesBy body (Broke c) = Unit {0}

-- an iteration of a DO that was begun with the store s. Units of expressions that are actuals, and of locals, not saved, of modules that it enters, are left out
pub record IterationIs (ks : List Known) (g : Graph) (m : ScopeTree) (at : Places) (d : KnownLoop) (s : Store) (x : Iteration) : Type 0 where
  -- what holds where it begins
  pub head : HoldsAt (scene_in m at) d.body.head (numbers_of x.start)
  -- cells that the body does not change, other than the index, have the numbers that they had where the DO began
  pub steady : (c : ℕ) → is_cell m.tracked c ≡ true → has d.body.cells c ≡ false → numbers_of x.start (unit_in at c) ≡ numbers_of s (unit_in at c)
  -- what it reads, or writes, lies in the READ, or WRITE, regions of the body, and what it reads before it writes it, in the IN regions
  pub accesses : (a : Access) (u : ℕ) → Touches ks g a x.did u → LiesInSet (scene_in m at) (elements_with ks g m.symbols at) a d.body.regions (numbers_of x.start) u
  pub firsts : (u : ℕ) → IsFirst ks g x.did u → LiesInSet (scene_in m at) (elements_with ks g m.symbols at) AtIn d.ins (numbers_of x.start) u
  pub leaves : LeavesBy (body_list d.loop) x.ended

-- no other variable overlaps it by the tables
abbrev pub IsSole : List SymbolTree → Variable → Type 0
IsSole ss v = (w : Variable) → overlap ss w v ≡ true → ⊥

-- no unit of the variable is read in one of the iterations before it is written there
abbrev pub IsWrittenFirst : List Known → Graph → ScopeTree → Places → Variable → List Iteration → Type 0
IsWrittenFirst ks g m at v xs = (i : ℕ) (x : Iteration) → slice_get xs i ≡ Some x → (phi : ℕ → ℤ) (u : ℕ) → elements_with ks g m.symbols at v phi ≡ Some u → is_read_first u x.did ≡ false

-- its iterations are such; where no conflict is found for a variable, none two of them meet; and where each may have its own copy of a variable, by the
-- tables of a module t, whatever holds where the DO begins, and whatever its OUT regions are, it is written in each before it is read
pub record LoopIs (ks : List Known) (g : Graph) (m : ScopeTree) (at : Places) (d : KnownLoop) (s : Store) (xs : List Iteration) : Type 0 where
  pub each : (i : ℕ) (x : Iteration) → slice_get xs i ≡ Some x → IterationIs ks g m at d s x
  pub apart : (v : Variable) (kinds : Kinds) → conflict_of (kept_system m.symbols d.body v kinds) ≡ answer.None → NoneMeet ks g m at d.body.regions v kinds xs
  pub private : (t : ModuleTree) (before : System) (outs : List Region) (v : Variable) → private_in t m.symbols (record { head = d.body.head; ins = d.ins; before = before; outs = outs }) v ≡ Yes → IsSole m.symbols v → IsWrittenFirst ks g m at v xs

-- of a DO of a module with its regions
abbrev pub loop_with : Graph → ModuleIns → LoopTree → KnownLoop
loop_with g f l = record {
  loop = l;
  body = body_of l (scope_of g.untracked f.known.analysis.found.known) (transformer_at f.known.analysis.found.own.at) f.known.analysis.holds.at (accesses_at f.known.regions.at);
  ins = ins_in f.known.analysis.found.known.symbols (transformer_at f.known.analysis.found.own.at) (set_at f.known.regions.at) (set_at f.ins.at) l;
}

-- of an execution of whatever statement of the module, where it is a DO
abbrev pub LoopsHold : List Known → Graph → ModuleIns → Execution → Type 0
LoopsHold ks g f x = (l : LoopTree) → loop_in x.spot.statement f.known.analysis.found.known.read.body ≡ Some l →
    LoopIs ks g (scope_of g.untracked f.known.analysis.found.known) x.places (loop_with g f l) x.start (iterations x.does x.start x.input)
