-- What is known of an activation of a module by a CALL, on units and numbers: which cells of the two modules are the same unit, what is written
-- when the CALL begins and ends, and how each cell of the caller may be reached in between (ANSI X3.9-1978 §15.9.3, §8.3). In what follows h is the
-- scene of the caller and k that of what is called.
use Rattle.std.specs.Prelude.{◌≡◌, ℕ, true, List, [], Some, ℤ}
use Rattle.f77_ast.specs.declared.symbol.Place.TheVariants.{Dummy}
use Rattle.f77_ast.specs.declared.variable.Unit.{Unit as BlockUnit}
use Rattle.f77_ast.specs.Symbols.{SymbolTree}
use Rattle.f77_ast.specs.Shared.{place_at}
use Rattle.preconditions.specs.transformer_algebra.Claims.{Scene, Kept, Means}
use Rattle.preconditions.specs.call_translation.Actuals.{actual_of, form_in}
use Rattle.preconditions.specs.call_translation.Call.{CallTree, actual_cell}
use Rattle.laws_analyses.specs.Calls.Scenes.{IsInBlock, LieInBlocks, IsSceneOf}

-- a symbol of what is called is the dummy argument with a number, from 1
abbrev pub IsDummy : List SymbolTree → ℕ → ℕ → Type 0
IsDummy ss d n = place_at ss d ≡ Some (Dummy n)

-- the actual of a dummy names a tracked cell of the caller
abbrev pub NamesCell : CallTree → ℕ → ℕ → Type 0
NamesCell c n v = actual_cell c n ≡ Some v

-- which cells are the same
pub record Binds (c : CallTree) (h k : Scene) : Type 0 where
  pub caller : IsSceneOf c.caller h
  pub callee : LieInBlocks c.symbols k
  -- a unit of a block is the same for both
  pub places : (u : BlockUnit) → k.place u ≡ h.place u
  -- a dummy whose actual names a tracked cell has the unit of that cell
  pub passed_by_reference : (d n v : ℕ) → IsDummy c.symbols d n → NamesCell c n v → (h.tracked v ≡ true) × (k.unit d ≡ h.unit v)

-- from the numbers x where the CALL begins to the numbers y where the module is entered
pub record Begins (c : CallTree) (h k : Scene) (x y : ℕ → ℤ) : Type 0 where
  -- the values of expressions that are actuals were put into units that are no cell's and not far
  pub kept : Kept h [] [] x y
  -- each dummy begins with the value of its actual, as far as that has a form
  pub values : (d n : ℕ) → IsDummy c.symbols d n → Means h (form_in c.caller (actual_of c.actuals n)) x (y (k.unit d))

-- how a tracked cell v of the caller may be reached by what is called, which is left with the numbers z
pub data Reached (c : CallTree) (h k : Scene) (y z : ℕ → ℤ) (v : ℕ) : Type 0 where
  -- as a dummy that is tracked there
  passed_to : (d n : ℕ) → k.tracked d ≡ true → IsDummy c.symbols d n → NamesCell c n v → Reached c h k y z v
  -- as a tracked cell there that lies in the same block, at the same offset
  shared_with : (d : ℕ) (b : List ℕ) (o : ℕ) → k.tracked d ≡ true → IsInBlock c.symbols d b o → IsInBlock c.caller.symbols v b o → Reached c h k y z v
  -- as a unit of a block that is far there
  passed_by : (u : BlockUnit) → k.far u ≡ true → IsInBlock c.caller.symbols v u.block u.offset → Reached c h k y z v
  -- not at all, or it is locked, as where two dummies, or a dummy and a variable in a block, reach it: it has the number that it had
  untouched : z (h.unit v) ≡ y (h.unit v) → Reached c h k y z v

-- the same of a unit of a block that is far for the caller
pub data FarReached (c : CallTree) (h k : Scene) (y z : ℕ → ℤ) (u : BlockUnit) : Type 0 where
  far_shared_with : (d : ℕ) → k.tracked d ≡ true → IsInBlock c.symbols d u.block u.offset → FarReached c h k y z u
  far_passed_by : k.far u ≡ true → FarReached c h k y z u
  far_untouched : z (h.place u) ≡ y (h.place u) → FarReached c h k y z u

-- a whole CALL: x where it begins, y where the module is entered, z where that is left, w where the CALL has ended
pub record Runs (c : CallTree) (h k : Scene) (x y z w : ℕ → ℤ) : Type 0 where
  pub binds : Binds c h k
  pub begins : Begins c h k x y
  pub cells : (v : ℕ) → h.tracked v ≡ true → Reached c h k y z v
  pub far : (u : BlockUnit) → h.far u ≡ true → FarReached c h k y z u
  -- when it ends nothing is written that is a cell of the caller or far for it
  pub ends : Kept h [] [] z w
