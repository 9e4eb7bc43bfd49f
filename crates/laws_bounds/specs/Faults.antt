-- An expression each of whose references stays inside is evaluated without a fault of subscripts.
use Rattle.std.specs.Prelude.{◌≡◌, ℕ, Bool, true, List, Ok}
use Rattle.f77_ast.specs.Trees.{ExprTree, ExprTrees}
use Rattle.f77_ast.specs.DeclTrees.{ParsedTree}
use Rattle.f77_ast.specs.Symbols.{SymbolTree}
use Rattle.f77_ast.specs.Store.{Content, Store}
use Rattle.f77_ast.specs.Faults.{Bounds}
use Rattle.f77_ast.specs.Steps.{Steps, Faulty}
use Rattle.f77_ast.specs.Runs.{Broke, Whole, run}
use Rattle.f77_ast.specs.Places.{Variable, Names, Places}
use Rattle.f77_ast.specs.Values.{value, target, shown}
use Rattle.f77_ast.specs.Calls.{actual}
use Rattle.preconditions.specs.transformer_algebra.Laws.{In}
use Rattle.preconditions.specs.call_translation.Scopes.{ScopeTree}
use Rattle.storage_layout.specs.Symbols.{symbols_of}
use Rattle.f77_meaning.specs.Modules.{names}
use Rattle.laws_programs.specs.SymbolTables.Shapes.{Shaped, ShapedList}
use Rattle.laws_analyses.specs.Statements.Laws.{scope_of}
use Rattle.bound_check.specs.References.{is_array, elements}
use Rattle.laws_bounds.specs.Claims.{StaysInside}

-- begun with a store and an input, the steps do not end by fault Bounds
abbrev pub NoBounds : {A : Type 0} → Steps A → Store → List Content → Type 0
NoBounds t z i = (run t (Whole z) i).answer ≡ Broke (Faulty Bounds) → ⊥

-- nothing is asked of a bare name; a variable with parentheses is an array, as in what is read (ANSI X3.9-1978 §5.4, §15.10)
abbrev pub AnyName : List ℕ → Type 0
AnyName x = Unit {0}

abbrev pub IsArrayIndexed : ScopeTree → Names → List ℕ → ExprTrees → Type 0
IsArrayIndexed m w x es = (v : ℕ) → w x ≡ Variable v → is_array m x ≡ true

-- as a value, on a left side or as an item of a READ, as an item of a PRINT, and as an actual argument whose own unit would be u
pub record EndsWithoutBounds (w : Names) (at : Places) (z : Store) (e : ExprTree) : Type 0 where
  pub as_value : (i : List Content) → NoBounds (value e w at) z i
  pub as_target : (i : List Content) → NoBounds (target e w at) z i
  pub as_shown : (i : List Content) → NoBounds (shown e w at) z i
  pub as_actual : (u : ℕ) (i : List Content) → NoBounds (actual e w at u) z i

abbrev pub InsideNeverFaults : Type 0
InsideNeverFaults =
    (m : ScopeTree) (w : Names) (at : Places) (z : Store) (e : ExprTree) → Shaped AnyName (IsArrayIndexed m w) e → ((r : ExprTree) → In r (elements e m) → StaysInside r w at z) → EndsWithoutBounds w at z e

-- the statements of a program that is read are such
abbrev pub BodiesAreIndexed : Type 0
BodiesAreIndexed = (p : ParsedTree) (ss : List SymbolTree) (flags : List Bool) → symbols_of p ≡ Ok ss → ShapedList AnyName (IsArrayIndexed (scope_of ss flags) (names ss)) p.module_read.body
