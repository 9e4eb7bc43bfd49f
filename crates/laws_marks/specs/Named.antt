-- The names of the directive of a DO: what has the units in their places, and what the rest of a run reads of them.
use Rattle.std.specs.Prelude.{◌≡◌, ◌⊎◌, ℕ, ℤ, Bool, true, false, nat_eq, List, Some, map, bytes_eq}
use Rattle.std.specs.List.{IsDistinct}
use Rattle.system_text.specs.SystemText.{name_at}
use Rattle.f77_ast.specs.Trees.{LoopTree, StmtTrees}
use Rattle.f77_ast.specs.Store.{Content, Store}
use Rattle.f77_ast.specs.Places.{Variable, Names, Places}
use Rattle.f77_ast.specs.Writes.{Locks}
use Rattle.f77_ast.specs.Loops.{Range}
use Rattle.f77_ast.specs.Executions.{run_of}
use Rattle.f77_ast.specs.Statements.{do_plan}
use Rattle.f77_ast.specs.declared.variable.Variable.TheVariants.{Own}
use Rattle.f77_ast.specs.Symbols.{SymbolTree}
use Rattle.call_graph.specs.declared.graph.Graph.{Graph}
use Rattle.f77_meaning.specs.Modules.{Known, names, symbol_names, fixed, dummies_from}
use Rattle.f77_meaning.specs.Linked.{numbering}
use Rattle.f77_meaning.specs.Occurrences.{Occurrence}
use Rattle.affine_forms.specs.Claims.{unit_in}
use Rattle.preconditions.specs.transformer_algebra.Laws.{In}
use Rattle.preconditions.specs.call_translation.Scopes.{ScopeTree}
use Rattle.loop_marker.specs.privatizer.Functions.{is_function, own_functions}
use Rattle.loop_marker.specs.Jumps.{body_of}
use Rattle.loop_marker.specs.Results.{ModuleResults}
use Rattle.loop_marker.specs.Phases.{phases_of}
use Rattle.loop_marker.specs.module_phases.ScalarPhases.{scope_of}
use Rattle.loop_marker.specs.dependence_test.Finding.{loop_in}
use Rattle.laws_interleavings.specs.MarkedStatements.{MarkedScope, unit_of_some, marked_loop}
use Rattle.laws_analyses.specs.Regions.Settings.{elements_with}
use Rattle.laws_marks.specs.ConflictExecutions.{Execution}
use Rattle.laws_marks.specs.ConflictClaims.{KnownLoop, loop_with, IsSole}
use Rattle.laws_interleavings.specs.Typed.{IsNoDummy}
use Rattle.laws_marks.specs.MarkedBegins.{Begins}
use Rattle.laws_marks.specs.MarkedEnding.{EndsQuietly}
use Rattle.laws_marks.specs.MarkedFit.{IsCopied, IsDeadAfter}
use Rattle.laws_marks.specs.Dead.{index_name}
use Rattle.laws_marks.specs.Units.{IsPassing}
use Rattle.result_lines.specs.declared.reduction.Reduction.{Reduction}
use Rattle.laws_marks.specs.Said.{said_at}
use Rattle.laws_marks.specs.Parts.{PartsStand}

-- each of these names that stands for a variable stands for one of these, or for that of the DO
abbrev pub AreNamesOf : List (List ℕ) → Names → LoopTree → List ℕ → Type 0
AreNamesOf xs w l ns = (y : List ℕ) → In y xs → (v : ℕ) → w y ≡ Variable v → In v ns ⊎ (w (index_name l) ≡ Variable v)

-- the unit of the variable of the DO
pub record IsOfIndex (w : Names) (l : LoopTree) (at : Places) (u : ℕ) : Type 0 where
  pub symbol : ℕ
  pub is_symbol : w (index_name l) ≡ Variable symbol
  pub unit : unit_in at symbol ≡ u

-- the unit of an element of one of these variables
pub record IsOfOne (ks : List Known) (g : Graph) (ss : List SymbolTree) (at : Places) (ns : List ℕ) (u : ℕ) : Type 0 where
  pub number : ℕ
  pub is_one : In number ns
  pub phi : ℕ → ℤ
  pub there : elements_with ks g ss at (Own number) phi ≡ Some u

-- of a DO of which iterations have copies of these variables, in a module of the scope k whose names mean this and whose variables lie at these places; d has what is known of the DO
pub record NamesStand (ks : List Known) (g : Graph) (k : ScopeTree) (w : Names) (d : KnownLoop) (l : LoopTree) (ns : List ℕ) (at : Places) : Type 0 where
  -- their names, as a directive has them, stand for them
  pub written : AreNamesOf (map (name_at (symbol_names k.symbols)) ns) w l ns
  -- a unit in the place of such a name is that of an element, or of the variable of the DO
  pub units : (xs : List (List ℕ)) → AreNamesOf xs w l ns → (u : ℕ) → unit_of_some xs w at u ≡ true → IsOfIndex w l at u ⊎ IsOfOne ks g k.symbols at ns u
  -- each iteration may have its own copy of the variables, and no other overlaps one
  pub copied : (u : ℕ) → IsOfOne ks g k.symbols at ns u → IsCopied ks g k at d u

-- of an execution of whatever statement of the module, where it is a DO of which this is said
abbrev pub ModuleNamesStand : List Known → Graph → ModuleResults → Execution → Type 0
ModuleNamesStand ks g f x =
    let k = f.known in
    (l : LoopTree) → loop_in x.spot.statement k.read.body ≡ Some l →
    (reductions : Bool) (r : Reduction) → said_at g reductions f x.spot.statement ≡ Some r → NamesStand ks g (scope_of g.untracked k) (names k.symbols) (loop_with g (phases_of f).known l) l r.private x.places

-- of a DO of which this is said, in a module: the variables of which iterations have copies are locals that are not saved, which no other overlaps by the tables; they, and the variable of the DO, are
-- no dummies, and lie at their own places. The names of the functions of which each iteration has the result for itself stand for some of them, and they have no name of another function of which the
-- module takes a value. So it is of reduction variables
pub record PlacesStand (ks : List Known) (g : Graph) (k : Known) (l : LoopTree) (r : Reduction) (at : Places) : Type 0 where
  pub locals : (n : ℕ) → In n r.private → IsPassing k.symbols n
  pub sole : (n : ℕ) → In n r.private → IsSole k.symbols (Own n)
  pub distinct : IsDistinct bytes_eq (symbol_names k.symbols)
  pub taken : AreNamesOf (own_functions k.read (body_of l)) (names k.symbols) l r.private
  pub shown : (n : ℕ) → In n r.private → is_function k.read (name_at (symbol_names k.symbols) n) ≡ true → In (name_at (symbol_names k.symbols) n) (own_functions k.read (body_of l))
  pub placed : (v : ℕ) → In v r.private ⊎ (names k.symbols (index_name l) ≡ Variable v) → IsNoDummy (dummies_from 1 k.symbols) v × (at v ≡ fixed (numbering ks g) k v)
  pub parts : PartsStand ks g k l r at

abbrev pub ModulePlacesStand : List Known → Graph → ModuleResults → Execution → Type 0
ModulePlacesStand ks g f x =
    (l : LoopTree) → loop_in x.spot.statement f.known.read.body ≡ Some l → (reductions : Bool) (r : Reduction) → said_at g reductions f x.spot.statement ≡ Some r → PlacesStand ks g f.known l r x.places

-- of each loop to which it comes, with the names of its directive, where that ends quietly: what comes later reads neither its variable, nor what some iteration wrote of these names, before it is
-- written again
abbrev pub MarkedLoopIsDead : List Known → Graph → ModuleResults → Occurrence → Type 0
MarkedLoopIsDead ks g f x =
    let k = f.known in
    (l : LoopTree) → loop_in x.spot.statement k.read.body ≡ Some l →
    (reductions : Bool) (said : Reduction) → said_at g reductions f x.spot.statement ≡ Some said →
    (xs : List (List ℕ)) → AreNamesOf xs (names k.symbols) l said.private →
    (sc : MarkedScope) (body : StmtTrees) (r : Range) (u : ℕ) (inner locked : Locks) (i : List Content) → sc.plain.names ≡ names k.symbols → x.ran ≡ run_of (do_plan l sc.plain x.places locked) x.start i →
    let m = marked_loop xs sc body x.places r u inner in
    Begins sc.plain (index_name l) l x.places locked m x.start i → EndsQuietly m x.start → IsDeadAfter m x.start x.later

-- so each unit of a name of the directive, other than that of the variable of the DO, is of a variable that may be copied, in each loop to which the DO comes
abbrev pub NamesAreCopied : Type 0
NamesAreCopied =
    (ks : List Known) (g : Graph) (k : ScopeTree) (w : Names) (d : KnownLoop) (l : LoopTree) (ns : List ℕ) (at : Places) → NamesStand ks g k w d l ns at →
    (xs : List (List ℕ)) → AreNamesOf xs w l ns →
    (sc : MarkedScope) (body : StmtTrees) (r : Range) (u : ℕ) (inner locked : Locks) (s : Store) (i : List Content) → sc.plain.names ≡ w →
    let m = marked_loop xs sc body at r u inner in
    Begins sc.plain (index_name l) l at locked m s i → (y : ℕ) → m.named y ≡ true → nat_eq y m.index ≡ false → IsCopied ks g k at d y
