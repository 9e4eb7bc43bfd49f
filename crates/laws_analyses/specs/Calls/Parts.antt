-- The modules of a program as runs and analyses see them, and what is known of where their names lie.
use Rattle.std.specs.Prelude.{◌≡◌, ◌⊎◌, ℕ, zero, suc, ◌+◌, ◌-◌, ◌<◌, Bool, true, false, not, ◌&&◌, ◌||◌, nat_eq, List, [], ◌∷◌, Some, slice_get}
use Rattle.affine_systems.specs.declared.row.System.{System}
use Rattle.f77_ast.specs.Places.{Variable, Place, Places}
use Rattle.f77_ast.specs.Writes.{Locks}
use Rattle.f77_ast.specs.Calls.{Dummy, first_place, other_places, in_place, scalars_bound}
use Rattle.f77_ast.specs.Programs.{Routine}
use Rattle.f77_ast.specs.declared.symbol.Place.TheVariants.{Dummy as DummyPlace}
use Rattle.f77_ast.specs.declared.variable.Unit.{Unit as BlockUnit}
use Rattle.f77_ast.specs.Symbols.{SymbolTree}
use Rattle.f77_ast.specs.Shared.{symbol_at, place_at}
use Rattle.tracked_cells.specs.Standing.{is_int_scalar}
use Rattle.tracked_cells.specs.Scalars.{unit}
use Rattle.affine_forms.specs.Scalars.{is_cell}
use Rattle.preconditions.specs.transformer_algebra.declared.transformer.Transformer.{Transformer}
use Rattle.preconditions.specs.transformer_algebra.Claims.{Scene}
use Rattle.preconditions.specs.call_translation.Scopes.{ScopeTree}
use Rattle.preconditions.specs.call_translation.Common.{declares}
use Rattle.preconditions.specs.transformers.Given.{Callees}
use Rattle.preconditions.specs.transformers.Modules.{summary_of}
use Rattle.preconditions.specs.transformers.Statement.{list_transformer}
use Rattle.laws_analyses.specs.Statements.Leads.{StaysIn}
use Rattle.laws_analyses.specs.Statements.Activation.{NamesFit, scene_at, is_locked}
use Rattle.laws_analyses.specs.Statements.Placed.{Found}
use Rattle.laws_analyses.specs.Calls.Scenes.{IsInBlock}

-- units of COMMON blocks: where each lies, and which of them are tracked by some module
pub record Blocks : Type 0 where
  pub place : BlockUnit → ℕ
  pub track : BlockUnit → Bool

-- a module with its results
pub record Part : Type 0 where
  pub routine : Routine
  pub scope : ScopeTree
  -- whether a name is that of a variable that is no array
  pub scalar : List ℕ → Bool
  -- what holds where it is entered
  pub entry : System
  pub found : Found
  -- units of its locals, of expressions at its CALLs, and of both of the modules that it reaches by calls; and the same without its own locals
  pub owns : ℕ → Bool
  pub below : ℕ → Bool

abbrev pub summary : Callees → Part → Transformer
summary cs k = summary_of k.scope.symbols (list_transformer k.routine.body k.scope cs true)

-- ---- dummy arguments

-- a variable is the dummy at a place, from 0
pub record DummyOf (ds : List Dummy) (v : ℕ) : Type 0 where
  pub at : ℕ
  pub dummy : Dummy
  pub is_dummy : slice_get ds at ≡ Some dummy
  pub symbol : dummy.symbol ≡ v

abbrev pub NoDummy : List Dummy → ℕ → Type 0
NoDummy ds v = DummyOf ds v → ⊥

-- what is offered to the dummy at a place
abbrev pub nth : List Place → ℕ → Place
nth ps zero = first_place ps
nth ps (suc i) = nth (other_places ps) i

-- some dummy is offered a unit
abbrev pub in_bound : List Dummy → List Place → ℕ → Bool
in_bound [] ps u = false
in_bound (d ∷ ds) ps u = in_place (first_place ps) u || in_bound ds (other_places ps) u

-- each dummy at the first unit that it is offered
abbrev pub places_in : Part → List Place → Places
places_in k ps = scalars_bound k.routine.dummies ps k.routine.fixed

-- ---- units

-- tracked, and reached by no name and no dummy of the module
abbrev pub far_in : Blocks → Part → List Place → BlockUnit → Bool
far_in b k ps u = b.track u && (not (declares k.scope u.block u.offset) && not (in_bound k.routine.dummies ps (b.place u)))

abbrev pub scene_in : Blocks → Part → List Place → Places → Scene
scene_in b k ps at = scene_at k.scope at (far_in b k ps) b.place

-- offered to a dummy, in COMMON, or one of its own
abbrev pub reach : Part → List Place → ℕ → Bool
reach k ps u = in_bound k.routine.dummies ps u || (k.routine.common u || k.owns u)

-- locked, or not reached
abbrev pub still_in : Part → List Place → Locks → ℕ → Bool
still_in k ps locked u = is_locked locked u || not (reach k ps u)

-- ---- what the tables, their layout and their links give

pub record Sane (b : Blocks) (k : Part) : Type 0 where
  pub names_fit : NamesFit k.routine.names k.scope
  -- dummies differ; one that is a scalar, or a tracked cell, has no bounds
  pub distinct : (i j : ℕ) (d f : Dummy) → slice_get k.routine.dummies i ≡ Some d → slice_get k.routine.dummies j ≡ Some f → d.symbol ≡ f.symbol → i ≡ j
  pub flat : (i : ℕ) (d : Dummy) (x : List ℕ) → slice_get k.routine.dummies i ≡ Some d → k.routine.names x ≡ Variable d.symbol → k.scalar x ≡ true → d.bounds ≡ []
  pub flat_cells : (i : ℕ) (d : Dummy) → slice_get k.routine.dummies i ≡ Some d → is_cell k.scope.tracked d.symbol ≡ true → d.bounds ≡ []
  -- a scalar that is no dummy has a unit, and a tracked cell has no dimensions
  pub fixed_solid : (x : List ℕ) (v : ℕ) → k.routine.names x ≡ Variable v → k.scalar x ≡ true → NoDummy k.routine.dummies v → 0 < (k.routine.fixed v).extent
  pub fixed_cells : (c : ℕ) → is_cell k.scope.tracked c ≡ true → NoDummy k.routine.dummies c → ((k.routine.fixed c).dims ≡ []) × (0 < (k.routine.fixed c).extent)
  -- a unit of a name that is no dummy is in COMMON, or one of the module's own that is not below
  pub lies : (x : List ℕ) (v n : ℕ) → k.routine.names x ≡ Variable v → NoDummy k.routine.dummies v → n < (k.routine.fixed v).extent → (k.routine.common ((k.routine.fixed v).first + n) ≡ true) ⊎ (k.owns ((k.routine.fixed v).first + n) ≡ true)
  pub hidden : (x : List ℕ) (v n : ℕ) → k.routine.names x ≡ Variable v → NoDummy k.routine.dummies v → n < (k.routine.fixed v).extent → k.below ((k.routine.fixed v).first + n) ≡ false
  -- the same of a tracked cell, whatever its name stands for
  pub cells_lie : (c : ℕ) → is_cell k.scope.tracked c ≡ true → NoDummy k.routine.dummies c → (k.routine.common (k.routine.fixed c).first ≡ true) ⊎ (k.owns (k.routine.fixed c).first ≡ true)
  pub cells_hidden : (c : ℕ) → is_cell k.scope.tracked c ≡ true → NoDummy k.routine.dummies c → k.below (k.routine.fixed c).first ≡ false
  -- at a unit of a block where a name lies, the table has a variable
  pub seen : (x : List ℕ) (v n : ℕ) → k.routine.names x ≡ Variable v → NoDummy k.routine.dummies v → n < (k.routine.fixed v).extent → (u : BlockUnit) → b.track u ≡ true → b.place u ≡ (k.routine.fixed v).first + n → declares k.scope u.block u.offset ≡ true
  -- the unit of a tracked cell is none of another name
  pub apart : (x : List ℕ) (v n c : ℕ) → k.routine.names x ≡ Variable v → NoDummy k.routine.dummies v → n < (k.routine.fixed v).extent → is_cell k.scope.tracked c ≡ true → NoDummy k.routine.dummies c → nat_eq v c ≡ false → (k.routine.fixed v).first + n ≡ (k.routine.fixed c).first → ⊥
  pub below_owned : (u : ℕ) → k.below u ≡ true → k.owns u ≡ true
  pub private : (u : ℕ) → k.owns u ≡ true → k.routine.common u ≡ false
  pub no_block : (u : ℕ) → k.owns u ≡ true → (v : BlockUnit) → b.track v ≡ true → b.place v ≡ u → ⊥
  -- dummies of the table are those of the routine
  pub dummies : (d n : ℕ) → place_at k.scope.symbols d ≡ Some (DummyPlace n) → (f : Dummy) × (slice_get k.routine.dummies (n - 1) ≡ Some f) × (f.symbol ≡ d)
  pub numbered : (i : ℕ) (f : Dummy) → slice_get k.routine.dummies i ≡ Some f → place_at k.scope.symbols f.symbol ≡ Some (DummyPlace (suc i))
  pub int_dummies : (d n : ℕ) (s : SymbolTree) → symbol_at k.scope.symbols d ≡ Some s → is_int_scalar s ≡ true → s.place ≡ DummyPlace n → is_cell k.scope.tracked d ≡ true
  -- a tracked cell in a block lies there; one in COMMON is in a block
  pub in_block : (c : ℕ) (x : List ℕ) (o : ℕ) → is_cell k.scope.tracked c ≡ true → IsInBlock k.scope.symbols c x o → NoDummy k.routine.dummies c × ((k.routine.fixed c).first ≡ b.place (unit x o)) × (b.track (unit x o) ≡ true)
  pub block_of : (c : ℕ) → is_cell k.scope.tracked c ≡ true → NoDummy k.routine.dummies c → k.routine.common (k.routine.fixed c).first ≡ true → (x : List ℕ) × (o : ℕ) × IsInBlock k.scope.symbols c x o
  pub one_each : (c d : ℕ) (x : List ℕ) (o : ℕ) → is_cell k.scope.tracked c ≡ true → is_cell k.scope.tracked d ≡ true → IsInBlock k.scope.symbols c x o → IsInBlock k.scope.symbols d x o → c ≡ d
  -- at a tracked unit of a block where the table has a variable, that is a tracked cell
  pub full : (u : BlockUnit) → b.track u ≡ true → declares k.scope u.block u.offset ≡ true → (d : ℕ) × (is_cell k.scope.tracked d ≡ true) × IsInBlock k.scope.symbols d u.block u.offset
  -- a GO TO leads to a label of its module
  pub stays_in : StaysIn k.routine.body
