-- What the tables of a module, and their layout, give of the units of its variables.
use Rattle.std.specs.Prelude.{◌≡◌, ◌⊎◌, ℕ, ◌+◌, ◌<◌, Bool, true, false, List, Some}
use Rattle.f77_ast.specs.Places.{Place}
use Rattle.f77_ast.specs.declared.symbol.Place.TheVariants.{Block as InBlock}
use Rattle.f77_ast.specs.declared.variable.Variable.{Variable as Named}
use Rattle.f77_ast.specs.declared.variable.Variable.TheVariants.{Own, Block, Saved}
use Rattle.f77_ast.specs.Symbols.{SymbolTree}
use Rattle.f77_ast.specs.Shared.{symbol_at, overlap}
use Rattle.call_graph.specs.declared.graph.Graph.{Graph}
use Rattle.f77_meaning.specs.Areas.{is_own_unit}
use Rattle.f77_meaning.specs.Claims.{block_place, saved_place}
use Rattle.f77_meaning.specs.Linked.{numbering}
use Rattle.f77_meaning.specs.Modules.{Known}
use Rattle.in_out_regions.specs.array_regions.References.{is_constant}
use Rattle.laws_analyses.specs.Calls.Parts.{Part, NoDummy}
use Rattle.laws_analyses.specs.Regions.Settings.{is_told}
use Rattle.laws_analyses.specs.Regions.Entries.{IsLost}
use Rattle.laws_marks.specs.InDims.{OpenLast}
use Rattle.call_graph.specs.Visible.{is_local}

-- ---- variables that are no dummies

-- a variable with storage that is no dummy: one of the module, a block, or a local of another module
abbrev pub IsFixed : Part → Named → Type 0
IsFixed k (Own v) = ((s : SymbolTree) × (symbol_at k.scope.symbols v ≡ Some s) × (is_constant s.place ≡ false)) × NoDummy k.routine.dummies v
IsFixed k (Block b) = Unit {0}
IsFixed k (Saved m x) = Unit {0}

-- where it lies
abbrev pub fixed_place : List Known → Graph → Part → Named → Place
fixed_place ks g k (Own v) = k.routine.fixed v
fixed_place ks g k (Block b) = block_place ks g b
fixed_place ks g k (Saved m x) = saved_place ks g ks m x

-- a unit of a place
pub record HasUnit (p : Place) (u : ℕ) : Type 0 where
  pub offset : ℕ
  pub less : offset < p.extent
  pub is_there : p.first + offset ≡ u

-- ---- what is known of them

-- may_name: the variables that the module's regions may name
pub record Laid (ks : List Known) (g : Graph) (k : Part) (may_name : Named → Bool) : Type 0 where
  pub own : (n : ℕ) → may_name (Own n) ≡ true
  pub told : (v : Named) → may_name v ≡ true → is_told v ≡ true
  -- a unit of the module's own is in COMMON, or it owns it; and it is none of those below
  pub lies : (v u : ℕ) → IsFixed k (Own v) → HasUnit (k.routine.fixed v) u → (k.routine.common u ≡ true) ⊎ (k.owns u ≡ true)
  pub above : (v u : ℕ) → IsFixed k (Own v) → HasUnit (k.routine.fixed v) u → k.below u ≡ false
  -- a unit of a block is in COMMON of the module, and one of a local of another module is one of those below
  pub block : (b : List ℕ) (u : ℕ) → may_name (Block b) ≡ true → HasUnit (block_place ks g b) u → k.routine.common u ≡ true
  pub saved : (m x : List ℕ) (u : ℕ) → may_name (Saved m x) ≡ true → HasUnit (saved_place ks g ks m x) u → k.below u ≡ true
  pub open_saved : (m x : List ℕ) → may_name (Saved m x) ≡ true → OpenLast (saved_place ks g ks m x).dims
  -- of these none is lost at the end of a module
  pub not_lost : (m x : List ℕ) (u : ℕ) → may_name (Saved m x) ≡ true → HasUnit (saved_place ks g ks m x) u → (n : List ℕ) → IsLost ks g n u → ⊥
  -- what the module itself loses is its own
  pub lost : (u : ℕ) → IsLost ks g k.routine.name u → k.owns u ≡ true
  -- no unit is one of an expression that is an actual
  pub no_actual : (v : Named) → may_name v ≡ true → IsFixed k v → (u : ℕ) → HasUnit (fixed_place ks g k v) u → is_own_unit (numbering ks g) u ≡ false
  -- where two have a unit in common, the tables say so
  pub share : (v w : Named) → may_name v ≡ true → may_name w ≡ true → IsFixed k v → IsFixed k w → (u : ℕ) → HasUnit (fixed_place ks g k v) u → HasUnit (fixed_place ks g k w) u → (v ≡ w) ⊎ (overlap k.scope.symbols w v ≡ true)

-- ---- at a CALL

-- what a module that is called may name, its caller, which calls it by the name x, may name as it sees it: a saved local, the block of a variable, and what is
-- neither the callee's nor its caller's
pub record NamesGo (k : Part) (such_h such_k : Named → Bool) (x : List ℕ) : Type 0 where
  pub saved : (n : ℕ) (s : SymbolTree) → symbol_at k.scope.symbols n ≡ Some s → is_local s.place ≡ true → s.saved ≡ true → such_h (Saved x s.name) ≡ true
  pub block : (n : ℕ) (s : SymbolTree) (y : List ℕ) (o : ℕ) → symbol_at k.scope.symbols n ≡ Some s → s.place ≡ InBlock y o → such_h (Block y) ≡ true
  pub blocks : (y : List ℕ) → such_k (Block y) ≡ true → such_h (Block y) ≡ true
  pub others : (m y : List ℕ) → such_k (Saved m y) ≡ true → such_h (Saved m y) ≡ true
