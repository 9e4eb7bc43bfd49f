-- Units that are a module's own, or those of what it reaches: of its locals and of its expressions that are actuals. What is passed to a module is none of them.
use Rattle.std.specs.Prelude.{◌≡◌, ℕ, true, List, Some}
use Rattle.f77_ast.specs.DeclTrees.{ParsedTree}
use Rattle.f77_ast.specs.Places.{Place, Places, Variable}
use Rattle.f77_ast.specs.Calls.{in_place}
use Rattle.f77_ast.specs.Symbols.{SymbolTree}
use Rattle.f77_ast.specs.Shared.{symbol_at}
use Rattle.call_graph.specs.declared.graph.Graph.{Graph}
use Rattle.f77_meaning.specs.Areas.{group, own, unit_at}
use Rattle.f77_meaning.specs.Modules.{names, fixed, dummies_from}
use Rattle.f77_meaning.specs.Laws.{area_of}
use Rattle.laws_programs.specs.Storage.Programs.{IsLinked, IsModule, known}
use Rattle.laws_programs.specs.Storage.CellLaws.{units, IsOfLocal}
use Rattle.laws_programs.specs.Storage.Below.{leads_to, HasCall}
use Rattle.laws_programs.specs.Storage.Activations.{is_dummy, Entered, KeepOffLocals}

-- a unit of a module alone: of a local, or of an expression that is an actual
pub data IsOwn (ps : List ParsedTree) (sss : List (List SymbolTree)) (g : Graph) (p : ParsedTree) (ss : List SymbolTree) (u : ℕ) : Type 0 where
  of_local : IsOfLocal ps sss g p ss u → IsOwn ps sss g p ss u
  of_expression : (call place : ℕ) → u ≡ unit_at (units ps sss g) (own p.module_read.name call place) 0 → IsOwn ps sss g p ss u

-- a unit of the module with this name, or of one that it reaches by calls
pub record IsOwnBelow (ps : List ParsedTree) (sss : List (List SymbolTree)) (g : Graph) (x : List ℕ) (u : ℕ) : Type 0 where
  pub at : ℕ
  pub parsed : ParsedTree
  pub table : List SymbolTree
  pub is_module : IsModule ps sss at parsed table
  pub reached : leads_to ps sss g x parsed.module_read.name
  pub is_own : IsOwn ps sss g parsed table u

-- the dummies of a module lie at none of them
abbrev pub DummiesKeepOff : List ParsedTree → List (List SymbolTree) → Graph → ParsedTree → List SymbolTree → Places → Type 0
DummiesKeepOff ps sss g p ss at = (v u : ℕ) → is_dummy (dummies_from 1 ss) v ≡ true → in_place (at v) u ≡ true → IsOwnBelow ps sss g p.module_read.name u → ⊥

-- what the module calls has no unit that is not one of the module's or below it
abbrev pub OwnOfCalled : Type 0
OwnOfCalled = (ps : List ParsedTree) (sss : List (List SymbolTree)) (g : Graph) → IsLinked ps sss g → (i : ℕ) (p : ParsedTree) (ss : List SymbolTree) → IsModule ps sss i p ss → (x : List ℕ) (u : ℕ) → HasCall p ss x →
    IsOwnBelow ps sss g x u → IsOwnBelow ps sss g p.module_read.name u

-- dummies that keep off all of them keep off the module's own locals
abbrev pub DummiesOffLocals : Type 0
DummiesOffLocals = (ps : List ParsedTree) (sss : List (List SymbolTree)) (g : Graph) (i : ℕ) (p : ParsedTree) (ss : List SymbolTree) → IsModule ps sss i p ss → (at : Places) → DummiesKeepOff ps sss g p ss at → KeepOffLocals ps sss g p ss at

-- then what the module lends keeps off those of what it calls: each of its variables, and each element,
abbrev pub VariablesKeepOff : Type 0
VariablesKeepOff = (ps : List ParsedTree) (sss : List (List SymbolTree)) (g : Graph) → IsLinked ps sss g → (i : ℕ) (p : ParsedTree) (ss : List SymbolTree) → IsModule ps sss i p ss → (qs : List Place) (at : Places) →
    Entered (dummies_from 1 ss) qs (fixed (units ps sss g) (known p ss)) at → DummiesKeepOff ps sss g p ss at →
    (x : List ℕ) → HasCall p ss x → (y : List ℕ) (v u : ℕ) → names ss y ≡ Variable v → in_place (at v) u ≡ true → IsOwnBelow ps sss g x u → ⊥

-- and each unit of an expression
abbrev pub ExpressionsKeepOff : Type 0
ExpressionsKeepOff = (ps : List ParsedTree) (sss : List (List SymbolTree)) (g : Graph) → IsLinked ps sss g → (i : ℕ) (p : ParsedTree) (ss : List SymbolTree) → IsModule ps sss i p ss → (x : List ℕ) → HasCall p ss x →
    (call place : ℕ) → IsOwnBelow ps sss g x (unit_at (units ps sss g) (own p.module_read.name call place) 0) → ⊥
