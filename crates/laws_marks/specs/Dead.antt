-- Variables of a DO of which the rest of a run reads nothing that the DO wrote.
use Rattle.std.specs.Prelude.{◌≡◌, ℕ, ℤ, Bool, true, false, List, Some}
use Rattle.f77_ast.specs.Trees.{LoopTree}
use Rattle.f77_ast.specs.Trees as tree
use Rattle.f77_ast.specs.Places.{Variable}
use Rattle.f77_ast.specs.declared.variable.Variable.{Variable as Named}
use Rattle.f77_ast.specs.declared.variable.Variable.TheVariants.{Own}
use Rattle.f77_ast.specs.Symbols.{SymbolTree}
use Rattle.call_graph.specs.declared.graph.Graph.{Graph}
use Rattle.f77_meaning.specs.Modules.{Known, names}
use Rattle.f77_meaning.specs.Accesses.{is_read_first}
use Rattle.f77_meaning.specs.Claims.{LiesIn, writes, gives_out}
use Rattle.f77_meaning.specs.Occurrences.{Occurrence}
use Rattle.affine_forms.specs.Scalars.{is_cell}
use Rattle.affine_forms.specs.Claims.{unit_in}
use Rattle.preconditions.specs.transformer_algebra.Laws.{In}
use Rattle.preconditions.specs.call_translation.Scopes.{ScopeTree}
use Rattle.f77_ast.specs.declared.marks.Private.TheVariants.{Yes}
use Rattle.in_out_regions.specs.region_sets.declared.region.Access.TheVariants.{Out}
use Rattle.in_out_regions.specs.region_sets.declared.region.Region.{Region}
use Rattle.loop_marker.specs.module_phases.OutPhases.{ModuleOuts}
use Rattle.loop_marker.specs.Results.{ModuleResults}
use Rattle.loop_marker.specs.module_phases.ScalarPhases.{scope_of}
use Rattle.loop_marker.specs.dependence_test.Finding.{loop_in}
use Rattle.loop_marker.specs.privatizer.Names.{may_copy}
use Rattle.loop_marker.specs.privatizer.Uses.{Uses, uses_from}
use Rattle.loop_marker.specs.privatizer.Private.{private_in}
use Rattle.laws_analyses.specs.Regions.Claims.{as_region}
use Rattle.laws_analyses.specs.Regions.Settings.{elements_with}
use Rattle.in_out_regions.specs.region_sets.Lists.{set_at}
use Rattle.result_lines.specs.declared.reduction.Reduction.{Reduction}
use Rattle.laws_marks.specs.Said.{said_at}

-- no unit of the variable that the execution writes is read by the rest of the run before it is written there
abbrev pub IsDead : List Known → Graph → List SymbolTree → Named → Occurrence → Type 0
IsDead ks g ss v x = (phi : ℕ → ℤ) (u : ℕ) → elements_with ks g ss x.places v phi ≡ Some u → writes x u ≡ true → is_read_first u x.later ≡ false

-- ---- OUT regions of the variable itself

-- a unit lies in one of these OUT regions, which is of this variable
pub record LiesInOwn (ks : List Known) (g : Graph) (m : ScopeTree) (v : Named) (rs : List Region) (x : Occurrence) (u : ℕ) : Type 0 where
  pub region : Region
  pub is_one : In region rs
  pub kind : region.kind ≡ Out
  pub same : region.variable ≡ v
  pub lies : LiesIn ks g (is_cell m.tracked) x u (as_region ks g x.places region)

-- each unit of a variable whose name allows copies that a DO writes, and that the rest of the run reads before it writes it, lies in an OUT region of that variable
abbrev pub CopiesLieInOwn : List Known → Graph → ModuleOuts → Occurrence → Type 0
CopiesLieInOwn ks g f x =
    let k = f.known.known.analysis.found.known in
    (l : LoopTree) → loop_in x.spot.statement k.read.body ≡ Some l →
    (v : Named) → may_copy k.read k.symbols v ≡ true → (phi : ℕ → ℤ) (u : ℕ) → elements_with ks g k.symbols x.places v phi ≡ Some u → gives_out x u ≡ true →
    LiesInOwn ks g (scope_of g.untracked k) v (set_at f.outs.at x.spot.statement) x u

-- ---- private variables

-- what is known of a DO, by its number, where marks are made
abbrev pub uses_in : ModuleOuts → ℕ → LoopTree → Uses
uses_in f n l = let a = f.known.known.analysis in uses_from a.found.known.symbols a.found.own.at a.holds.at f.known.known.regions.at f.known.ins.at f.outs.at n l

-- of a DO: a variable of which each iteration may have its own copy is dead
abbrev pub PrivatesAreDead : List Known → Graph → ModuleOuts → Occurrence → Type 0
PrivatesAreDead ks g f x =
    let k = f.known.known.analysis.found.known in
    (l : LoopTree) → loop_in x.spot.statement k.read.body ≡ Some l →
    (v : Named) → private_in k.read k.symbols (uses_in f x.spot.statement l) v ≡ Yes → IsDead ks g k.symbols v x

-- ---- marked loops

-- the name of the variable of a DO
abbrev pub index_name : LoopTree → List ℕ
index_name (tree.loop index first last step body) = index

-- of a DO of which iterations have copies of these variables
pub record MarkedIsDead (ks : List Known) (g : Graph) (m : ScopeTree) (l : LoopTree) (ns : List ℕ) (x : Occurrence) : Type 0 where
  -- the unit of its variable
  pub index : (v : ℕ) → names m.symbols (index_name l) ≡ Variable v → writes x (unit_in x.places v) ≡ true → is_read_first (unit_in x.places v) x.later ≡ false
  pub names : (n : ℕ) → In n ns → IsDead ks g m.symbols (Own n) x

abbrev pub MarkIsDead : List Known → Graph → ModuleResults → Occurrence → Type 0
MarkIsDead ks g f x =
    let k = f.known in
    (l : LoopTree) → loop_in x.spot.statement k.read.body ≡ Some l →
    (reductions : Bool) (r : Reduction) → said_at g reductions f x.spot.statement ≡ Some r → MarkedIsDead ks g (scope_of g.untracked k) l r.private x
