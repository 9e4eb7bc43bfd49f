-- What sets of regions say of runs of statements, a law for each form.
use Rattle.std.specs.Prelude.{◌≡◌, ℕ, Bool, true, false, List, if◌then◌else◌}
use Rattle.f77_ast.specs.Trees.{ExprTree, ExprTrees}
use Rattle.f77_ast.specs.Store.{Content, Store}
use Rattle.f77_ast.specs.Numbers.{is_true}
use Rattle.f77_ast.specs.Values.{value, all_shown}
use Rattle.f77_ast.specs.Writes.{Locks, assigned, items_read}
use Rattle.f77_ast.specs.Plans.{Normal, Plan, Ends, Show, first}
use Rattle.f77_ast.specs.Executions.{run_of}
use Rattle.in_out_regions.specs.region_sets.declared.region.Region.{Region}
use Rattle.in_out_regions.specs.array_regions.Arms.{if_set}
use Rattle.in_out_regions.specs.array_regions.Simple.{assignment, printing, reading}
use Rattle.laws_analyses.specs.Statements.Targets.{are_targets}
use Rattle.laws_analyses.specs.Statements.Activation.{Fit}
use Rattle.laws_analyses.specs.Regions.Settings.{Setting, scene, Sound, is_plain, are_plain}
use Rattle.laws_analyses.specs.Regions.Shown.{Shown}

-- begun with any store and on any input, all that is read and written lies in the set, and at a normal end exact regions are accessed in full
abbrev pub IsShown : Setting → List Region → Plan → Type 0
IsShown k rs t = (s : Store) (i : List Content) → (let q = run_of t s i in Shown k false rs s q.answer q.trace)

-- a module that runs, with units that are locked
abbrev pub Runs : (Setting → Locks → Type 0) → Type 0
Runs P = (k : Setting) → Sound k → (locked : Locks) (still : ℕ → Bool) → Fit k.sc.names k.scalar k.at (scene k) locked still → P k locked

abbrev pub AssignmentsAreShown : Type 0
AssignmentsAreShown = Runs (λ k locked. (a b : ExprTree) → is_plain k.scalar a ≡ true → is_plain k.scalar b ≡ true →
    IsShown k (assignment k.m a b) (first (assigned a b k.sc.names k.at locked) (λ o. Ends Normal)))

abbrev pub PrintsAreShown : Type 0
PrintsAreShown = Runs (λ k locked. (es : ExprTrees) → are_plain k.scalar es ≡ true →
    IsShown k (printing k.m es) (first (all_shown es k.sc.names k.at) (λ xs. Show xs (Ends Normal))))

abbrev pub ReadsAreShown : Type 0
ReadsAreShown = Runs (λ k locked. (es : ExprTrees) → are_targets k.scalar es ≡ true → are_plain k.scalar es ≡ true →
    IsShown k (reading es k.m) (first (items_read es k.sc.names k.at locked) (λ o. Ends Normal)))

-- a logical IF, whose statement has a plan and a set
abbrev pub LogicalIfsAreShown : Type 0
LogicalIfsAreShown = Runs (λ k locked. (e : ExprTree) (rs : List Region) (one : Plan) → is_plain k.scalar e ≡ true → IsShown k rs one →
    IsShown k (if_set k.m e rs) (first (value e k.sc.names k.at) (λ c. if is_true c.number then one else Ends Normal)))
