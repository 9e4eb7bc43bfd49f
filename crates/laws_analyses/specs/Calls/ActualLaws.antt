-- What is known where actuals were evaluated.
use Rattle.std.specs.Prelude.{◌≡◌, ℕ, ◌-◌, true, List, Some, slice_get}
use Rattle.f77_ast.specs.Trees.{ExprTrees}
use Rattle.f77_ast.specs.Store.{Content, Store}
use Rattle.f77_ast.specs.Calls.{Actual, actuals}
use Rattle.f77_ast.specs.Runs.{Whole, run}
use Rattle.f77_ast.specs.Executions.{AtEndOf}
use Rattle.f77_ast.specs.Symbols.{SymbolTree}
use Rattle.affine_forms.specs.Claims.{numbers_of}
use Rattle.preconditions.specs.transformer_algebra.Claims.{Scene}
use Rattle.preconditions.specs.call_translation.Call.{CallTree}
use Rattle.laws_analyses.specs.Calls.Bindings.{IsDummy, NamesCell, Begins}
use Rattle.laws_analyses.specs.Calls.Actuals.{Activation, scene, Fits, AreOffered}

-- actuals that are evaluated without a fault leave the input, and offer their variables and values
abbrev pub ActualsOffer : Type 0
ActualsOffer = (a : Activation) → Fits a → (es : ExprTrees) (s : Store) (i : List Content) →
    AtEndOf (run (actuals es 0 a.names a.at a.own) (Whole s) i) (λ xs z j. (j ≡ i) × AreOffered a es 0 s z xs)

abbrev pub call_in : Activation → ExprTrees → List SymbolTree → CallTree
call_in a es ss = record { caller = a.table; actuals = es; symbols = ss }

-- each dummy of a module with this table has the first unit of its actual
abbrev pub AreBound : List SymbolTree → List Actual → Scene → Type 0
AreBound ss xs k = (d n : ℕ) (x : Actual) → IsDummy ss d n → slice_get xs (n - 1) ≡ Some x → k.unit d ≡ x.place.first

-- a dummy whose actual names a tracked cell has the unit of that cell
abbrev pub AreLent : CallTree → Scene → Scene → Type 0
AreLent c h k = (d n v : ℕ) → IsDummy c.symbols d n → NamesCell c n v → (h.tracked v ≡ true) × (k.unit d ≡ h.unit v)

-- then dummies that are bound to what the actuals offer begin with their values, and are the cells that they name
abbrev pub DummiesBegin : Type 0
DummiesBegin = (a : Activation) → Fits a → (es : ExprTrees) (s z : Store) (xs : List Actual) → AreOffered a es 0 s z xs → (ss : List SymbolTree) (k : Scene) → AreBound ss xs k →
    Begins (call_in a es ss) (scene a) k (numbers_of s) (numbers_of z) × AreLent (call_in a es ss) (scene a) k
