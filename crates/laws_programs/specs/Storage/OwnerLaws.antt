-- What is known of the owners of units in modules that link.
use Rattle.std.specs.Prelude.{◌≡◌, ◌⊎◌, ℕ, ◌<◌, true, false, List}
use Rattle.f77_ast.specs.DeclTrees.{ParsedTree}
use Rattle.f77_ast.specs.Places.{Variable}
use Rattle.f77_ast.specs.Calls.{in_place}
use Rattle.f77_ast.specs.Symbols.{SymbolTree}
use Rattle.call_graph.specs.declared.graph.Graph.{Graph}
use Rattle.f77_meaning.specs.Areas.{block, own, unit_at}
use Rattle.f77_meaning.specs.Modules.{known_of, names, fixed, dummies_from}
use Rattle.f77_meaning.specs.Linked.{room_for, is_common}
use Rattle.laws_programs.specs.Storage.Programs.{IsLinked, IsModule, known}
use Rattle.laws_programs.specs.Storage.CellLaws.{units}
use Rattle.laws_programs.specs.Storage.Below.{HasCall}
use Rattle.laws_programs.specs.Storage.Activations.{is_dummy}
use Rattle.laws_programs.specs.Storage.Owners.{owns, owns_below}

-- what is said of a module of modules that link
abbrev pub OfModules : (List ParsedTree → List (List SymbolTree) → Graph → (p : ParsedTree) → List SymbolTree → Type 0) → Type 0
OfModules P = (ps : List ParsedTree) (sss : List (List SymbolTree)) (g : Graph) → IsLinked ps sss g → (i : ℕ) (p : ParsedTree) (ss : List SymbolTree) → IsModule ps sss i p ss → P ps sss g p ss

-- the unit of a variable that is no dummy is one of COMMON, or its module's
abbrev pub VariablesLie : Type 0
VariablesLie = OfModules (λ ps sss g p ss. (x : List ℕ) (v u : ℕ) → names ss x ≡ Variable v → is_dummy (dummies_from 1 ss) v ≡ false → in_place (fixed (units ps sss g) (known p ss) v) u ≡ true →
    (is_common (known_of ps sss) g p.module_read.name u ≡ true) ⊎ (owns (known_of ps sss) g p.module_read.name u ≡ true))

-- and none below
abbrev pub VariablesAreHidden : Type 0
VariablesAreHidden = OfModules (λ ps sss g p ss. (x : List ℕ) (v u : ℕ) → names ss x ≡ Variable v → is_dummy (dummies_from 1 ss) v ≡ false → in_place (fixed (units ps sss g) (known p ss) v) u ≡ true →
    owns_below (known_of ps sss) g p.module_read.name u ≡ false)

-- the unit of an expression at a CALL is below its module
abbrev pub ExpressionsAreBelow : Type 0
ExpressionsAreBelow = OfModules (λ ps sss g p ss. (call place : ℕ) → owns_below (known_of ps sss) g p.module_read.name (unit_at (units ps sss g) (own p.module_read.name call place) 0) ≡ true)

abbrev pub BelowIsOwned : Type 0
BelowIsOwned = OfModules (λ ps sss g p ss. (u : ℕ) → owns_below (known_of ps sss) g p.module_read.name u ≡ true → owns (known_of ps sss) g p.module_read.name u ≡ true)

-- what belongs to modules is no unit of COMMON
abbrev pub OwnedIsPrivate : Type 0
OwnedIsPrivate = (ps : List ParsedTree) (sss : List (List SymbolTree)) (g : Graph) (x y : List ℕ) (u : ℕ) → owns (known_of ps sss) g x u ≡ true → is_common (known_of ps sss) g y u ≡ false

abbrev pub OwnedIsInNoBlock : Type 0
OwnedIsInNoBlock = (ps : List ParsedTree) (sss : List (List SymbolTree)) (g : Graph) (x b : List ℕ) (o : ℕ) → o < room_for (known_of ps sss) → owns (known_of ps sss) g x (unit_at (units ps sss g) (block b) o) ≡ false

-- what a called module owns is below its caller
abbrev pub CalledOwnsBelow : Type 0
CalledOwnsBelow = OfModules (λ ps sss g p ss. (x : List ℕ) (u : ℕ) → HasCall p ss x → owns (known_of ps sss) g x u ≡ true → owns_below (known_of ps sss) g p.module_read.name u ≡ true)

-- and is no unit of an expression of the caller
abbrev pub CalledOwnsNoExpression : Type 0
CalledOwnsNoExpression = OfModules (λ ps sss g p ss. (x : List ℕ) (call place : ℕ) → HasCall p ss x → owns (known_of ps sss) g x (unit_at (units ps sss g) (own p.module_read.name call place) 0) ≡ false)
