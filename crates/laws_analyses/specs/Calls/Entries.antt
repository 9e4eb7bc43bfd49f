-- What is known where a module is entered, on units and numbers: by a CALL, or as the main program.
use Rattle.std.specs.Prelude.{◌≡◌, ℕ, true, List, ◌∷◌, Some, ℤ}
use Rattle.f77_ast.specs.declared.symbol.Place.TheVariants.{Dummy}
use Rattle.f77_ast.specs.declared.symbol.InitialRun.{InitialRun}
use Rattle.f77_ast.specs.Symbols.{SymbolTree}
use Rattle.f77_ast.specs.Shared.{symbol_at}
use Rattle.affine_forms.specs.Scalars.{is_cell}
use Rattle.tracked_cells.specs.Standing.{is_int_scalar}
use Rattle.preconditions.specs.transformer_algebra.Claims.{Scene}
use Rattle.preconditions.specs.call_translation.Scopes.{ScopeTree}
use Rattle.preconditions.specs.call_translation.Call.{CallTree}
use Rattle.preconditions.specs.call_translation.Sites.{HoldingSite}
use Rattle.laws_analyses.specs.Calls.Scenes.{IsSceneOf}
use Rattle.laws_analyses.specs.Calls.Bindings.{Binds, Begins}

-- a CALL of a module with this table
abbrev pub call_at : HoldingSite → List SymbolTree → CallTree
call_at c ss = record { caller = c.caller; actuals = c.actuals; symbols = ss }

-- an INTEGER scalar among the dummies is a tracked cell
abbrev pub DummiesAreTracked : List SymbolTree → Scene → Type 0
DummiesAreTracked ss m = (d n : ℕ) (s : SymbolTree) → symbol_at ss d ≡ Some s → is_int_scalar s ≡ true → s.place ≡ Dummy n → m.tracked d ≡ true

-- a module is entered from a CALL, where the numbers x hold, with the numbers y
pub record Enters (s : ScopeTree) (c : HoldingSite) (h k : Scene) (x y : ℕ → ℤ) : Type 0 where
  pub callee : IsSceneOf s k
  pub dummies : DummiesAreTracked s.symbols k
  pub binds : Binds (call_at c s.symbols) h k
  pub begins : Begins (call_at c s.symbols) h k x y

-- a tracked cell has the first value that DATA gives to its variable (ANSI X3.9-1978 §9)
abbrev pub BeginsWithData : ScopeTree → Scene → (ℕ → ℤ) → Type 0
BeginsWithData s m x = (c : ℕ) (v : SymbolTree) (r : InitialRun) (rs : List InitialRun) →
    is_cell s.tracked c ≡ true → symbol_at s.symbols c ≡ Some v → v.initial ≡ r ∷ rs → (m.tracked c ≡ true) × (x (m.unit c) ≡ r.value)
