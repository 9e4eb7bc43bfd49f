-- What is asked of an execution of a marked loop, in the words of what is known of its iterations.
use Rattle.std.specs.Prelude.{◌≡◌, ◌⊎◌, ℕ, ℤ, ◌<◌, Bool, true, false, nat_eq, List, Some}
use Rattle.affine_systems.specs.declared.row.System.{System}
use Rattle.f77_ast.specs.DeclTrees.{ModuleTree}
use Rattle.f77_ast.specs.Places.{Places}
use Rattle.f77_ast.specs.Store.{Content, Store}
use Rattle.f77_ast.specs.Runs.{Event}
use Rattle.f77_ast.specs.declared.variable.Variable.{Variable}
use Rattle.call_graph.specs.declared.graph.Graph.{Graph}
use Rattle.f77_meaning.specs.Modules.{Known}
use Rattle.f77_meaning.specs.Accesses.{is_written, is_read_first}
use Rattle.f77_meaning.specs.Processes.{Marked}
use Rattle.preconditions.specs.transformer_algebra.Laws.{In}
use Rattle.preconditions.specs.call_translation.Scopes.{ScopeTree}
use Rattle.f77_ast.specs.declared.marks.Kinds.{Kinds}
use Rattle.f77_ast.specs.declared.marks.Private.TheVariants.{Yes}
use Rattle.in_out_regions.specs.region_sets.declared.region.Access.TheVariants.{Write}
use Rattle.in_out_regions.specs.region_sets.declared.region.Region.{Region}
use Rattle.loop_marker.specs.dependence_test.declared.answer.Conflict.TheVariants as answer
use Rattle.loop_marker.specs.dependence_test.Conflicts.{kept_system, conflict_of}
use Rattle.loop_marker.specs.privatizer.Private.{private_in}
use Rattle.laws_analyses.specs.Regions.Settings.{elements_with}
use Rattle.laws_analyses.specs.Regions.Shown.{is_hidden}
use Rattle.laws_marks.specs.ConflictClaims.{KnownLoop, IsSole, LoopIs}
use Rattle.laws_interleavings.specs.Sound.{some_wrote, is_own}
use Rattle.laws_interleavings.specs.Reductions.{Reduced, is_accumulator}
use Rattle.laws_interleavings.specs.ReducedLoops.{AreDistinct, HaveRange}
use Rattle.laws_interleavings.specs.Rides.{Outside, Rides}
use Rattle.f77_ast.specs.Plans.{steps_of}
use Rattle.laws_interleavings.specs.Plans.Fine.{IsFine}
use Rattle.laws_interleavings.specs.Plans.Cleared.{HasNoValue, Cleared}
use Rattle.laws_marks.specs.MarkedBegun.{iterations_of, did_in}
use Rattle.laws_marks.specs.MarkedEnding.{EndsQuietly}

-- ---- variables

-- the unit of an element of the variable
pub record IsUnitOf (ks : List Known) (g : Graph) (k : ScopeTree) (at : Places) (v : Variable) (u : ℕ) : Type 0 where
  pub phi : ℕ → ℤ
  pub there : elements_with ks g k.symbols at v phi ≡ Some u

-- no conflict of any kind is found for it
abbrev pub IsFree : ScopeTree → KnownLoop → Variable → Type 0
IsFree k d v = (kinds : Kinds) → conflict_of (kept_system k.symbols d.body v kinds) ≡ answer.None

-- of a loop that is begun with the store s: each unit of it that an iteration writes is one of these, which each iteration has for itself
abbrev pub HasOwnUnits : List Known → Graph → ScopeTree → Places → (ℕ → Bool) → Marked → Store → Variable → Type 0
HasOwnUnits ks g k at separate m s v = (u : ℕ) → IsUnitOf ks g k at v u → (j : ℕ) → j < m.count → is_written u (did_in m s j) ≡ true → separate u ≡ true

-- or is private
abbrev pub HasPrivateUnits : List Known → Graph → ScopeTree → Places → Marked → Store → Variable → Type 0
HasPrivateUnits ks g k at m s v = HasOwnUnits ks g k at m.private m s v

-- a unit of a variable of which each iteration may have its own copy, and which no other variable overlaps
pub record IsCopied (ks : List Known) (g : Graph) (k : ScopeTree) (at : Places) (d : KnownLoop) (u : ℕ) : Type 0 where
  pub variable : Variable
  pub unit : IsUnitOf ks g k at variable u
  pub tree : ModuleTree
  pub before : System
  pub outs : List Region
  pub copied : private_in tree k.symbols (record { head = d.body.head; ins = d.ins; before = before; outs = outs }) variable ≡ Yes
  pub sole : IsSole k.symbols variable

-- ---- an execution

-- begun with the store s, in a module of the scope k whose variables lie at these places; d has what is known of the DO. These units each iteration has for itself: the private ones, and of a loop
-- with reduction variables also its copies
pub record LoopIsFit (ks : List Known) (g : Graph) (k : ScopeTree) (at : Places) (d : KnownLoop) (separate : ℕ → Bool) (m : Marked) (s : Store) (i : List Content) : Type 0 where
  pub ends : EndsQuietly m s
  -- its iterations are as claimed
  pub known : LoopIs ks g k at d s (iterations_of m s i)
  -- each variable of a WRITE region of the body has no conflict, or each iteration has for itself what is written of it
  pub verdicts : (r : Region) → In r d.body.regions → r.kind ≡ Write → IsFree k d r.variable ⊎ HasOwnUnits ks g k at separate m s r.variable
  -- the names of the directive are of variables that may be copied
  pub names : (u : ℕ) → m.named u ≡ true → nat_eq u m.index ≡ false → IsCopied ks g k at d u
  -- the body reads no unit without a value but to fault, and changes without an event only private units that belong to no name
  pub free : ℕ → Bool
  pub own : ℕ → Bool
  pub fine : IsFine free own m.body
  pub owned : (u : ℕ) → own u ≡ true → is_own m u ≡ true
  -- what is written and belongs to no variable that the module can see is private
  pub hidden : (j u : ℕ) → j < m.count → is_hidden ks g (did_in m s j) u ≡ true → is_written u (did_in m s j) ≡ true → free u ≡ true → m.private u ≡ true
  -- such units have no value before the loop, and the body leaves them so
  pub own_before : (u : ℕ) → is_own m u ≡ true → HasNoValue s u
  pub cleared : (u : ℕ) → is_own m u ≡ true → Cleared u m.body

-- what comes later reads neither the loop's variable, nor what some iteration wrote of a name of the directive, before it is written again
pub record IsDeadAfter (m : Marked) (s : Store) (later : List Event) : Type 0 where
  pub index : is_read_first m.index later ≡ false
  pub named : (u : ℕ) → m.named u ≡ true → some_wrote m s m.count u ≡ true → is_read_first u later ≡ false

-- of a loop with reduction variables: its body uses these to accumulate alone, no two of them have one unit, none has a private one, and MAX and MIN begin with numbers in the range of INTEGER
pub record AccumulatesAlone (d : Reduced) (s : Store) : Type 0 where
  pub rides : Rides d.accumulators Outside (steps_of d.loop.body) (steps_of d.body)
  pub distinct : AreDistinct d.accumulators
  pub none_private : (u : ℕ) → is_accumulator d.accumulators u ≡ true → d.loop.private u ≡ false
  pub have_range : HaveRange d s
