-- What is known of the units of a module's variables where a DO is executed.
use Rattle.std.specs.Prelude.{◌≡◌, ◌⊎◌, ℕ, ℤ, true, false, List, Some}
use Rattle.f77_ast.specs.Trees.{LoopTree}
use Rattle.f77_ast.specs.Trees as tree
use Rattle.f77_ast.specs.Executions.{run_of}
use Rattle.f77_ast.specs.Places.{Variable, Names, Places}
use Rattle.f77_ast.specs.Calls.{Dummy}
use Rattle.f77_ast.specs.declared.variable.Variable.TheVariants.{Own}
use Rattle.f77_ast.specs.Symbols.{SymbolTree}
use Rattle.f77_ast.specs.Shared.{symbol_at, overlap}
use Rattle.call_graph.specs.declared.graph.Graph.{Graph}
use Rattle.f77_meaning.specs.Modules.{Known, names, fixed, dummies_from}
use Rattle.f77_meaning.specs.Linked.{numbering}
use Rattle.affine_forms.specs.Claims.{unit_in}
use Rattle.preconditions.specs.transformer_algebra.Laws.{In}
use Rattle.preconditions.specs.call_translation.Scopes.{ScopeTree}
use Rattle.preconditions.specs.transformers.Given.{Callees}
use Rattle.preconditions.specs.transformers.Loops.{number_in}
use Rattle.in_out_regions.specs.region_sets.declared.region.Region.{Region}
use Rattle.in_out_regions.specs.array_regions.Calls.{Callees as Summaries}
use Rattle.loop_marker.specs.module_phases.InPhases.{ModuleIns}
use Rattle.loop_marker.specs.module_phases.ScalarPhases.{scope_of}
use Rattle.loop_marker.specs.dependence_test.Finding.{loop_in}
use Rattle.laws_analyses.specs.Calls.Parts.{Part, NoDummy}
use Rattle.laws_analyses.specs.Regions.Settings.{is_told, elements_with}
use Rattle.laws_analyses.specs.Regions.Shown.{is_hidden}
use Rattle.laws_analyses.specs.Regions.Programs.{regions_in_part}
use Rattle.laws_marks.specs.ConflictExecutions.{Execution}
use Rattle.laws_marks.specs.Dead.{index_name}
use Rattle.in_out_regions.specs.region_sets.Lists.{set_at}
use Rattle.call_graph.specs.Visible.{is_local}

-- a local that is not saved
pub record IsPassing (ss : List SymbolTree) (n : ℕ) : Type 0 where
  pub symbol : SymbolTree
  pub is_symbol : symbol_at ss n ≡ Some symbol
  pub local : is_local symbol.place ≡ true
  pub unsaved : symbol.saved ≡ false

-- the number of the variable of a DO
abbrev pub index_in : ScopeTree → LoopTree → ℕ
index_in m (tree.loop index first last step body) = number_in m index

-- at an execution of a DO, with what it accesses; in a module with these names, places of variables that are no dummies, and dummies
pub record UnitsStand (ks : List Known) (g : Graph) (w : Names) (fixed_places : Places) (dummies : List Dummy) (m : ScopeTree) (accesses : List Region) (l : LoopTree) (x : Execution) : Type 0 where
  -- a unit of a local that is not saved is none that what it does hides
  pub seen : (n : ℕ) → IsPassing m.symbols n → (phi : ℕ → ℤ) (u : ℕ) → elements_with ks g m.symbols x.places (Own n) phi ≡ Some u → is_hidden ks g (run_of x.does x.start x.input).trace u ≡ false
  -- another variable that has it, of which something is accessed, overlaps the local by the tables
  pub others : (n : ℕ) → IsPassing m.symbols n → (phi : ℕ → ℤ) (u : ℕ) → elements_with ks g m.symbols x.places (Own n) phi ≡ Some u →
      (r : Region) → In r accesses → (psi : ℕ → ℤ) → elements_with ks g m.symbols x.places r.variable psi ≡ Some u → (r.variable ≡ Own n) ⊎ (overlap m.symbols r.variable (Own n) ≡ true)
  -- what is accessed is told
  pub told : (r : Region) → In r accesses → is_told r.variable ≡ true
  pub fixed : (n : ℕ) → NoDummy dummies n → x.places n ≡ fixed_places n
  -- the variable of the DO is a scalar
  pub number : (v : ℕ) → w (index_name l) ≡ Variable v → index_in m l ≡ v
  pub index : (v : ℕ) → w (index_name l) ≡ Variable v → IsPassing m.symbols v → (phi : ℕ → ℤ) → elements_with ks g m.symbols x.places (Own v) phi ≡ Some (unit_in x.places v)

-- of an execution of whatever statement, where it is a DO
abbrev pub PartUnitsStand : List Known → Graph → Callees → Summaries → Part → Execution → Type 0
PartUnitsStand ks g cs rs k x =
    (l : LoopTree) → loop_in x.spot.statement k.routine.body ≡ Some l →
    UnitsStand ks g k.routine.names k.routine.fixed k.routine.dummies k.scope (set_at (regions_in_part g cs rs k).at x.spot.statement) l x

-- by the name of its module
abbrev pub EachUnitsStand : List Known → Graph → Callees → (List ℕ → Summaries) → (List ℕ → Part) → Execution → Type 0
EachUnitsStand ks g cs rs of x = let k = of x.spot.module_name in PartUnitsStand ks g cs (rs k.routine.name) k x

-- of a module with its regions
abbrev pub ModuleUnitsStand : List Known → Graph → ModuleIns → Execution → Type 0
ModuleUnitsStand ks g f x =
    let k = f.known.analysis.found.known in
    (l : LoopTree) → loop_in x.spot.statement k.read.body ≡ Some l →
    UnitsStand ks g (names k.symbols) (fixed (numbering ks g) k) (dummies_from 1 k.symbols) (scope_of g.untracked k) (set_at f.known.regions.at x.spot.statement) l x
