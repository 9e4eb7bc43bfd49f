-- What a CALL lends, and that it is none of the own units of what is called (ANSI X3.9-1978 §15.9.3).
use Rattle.std.specs.Prelude.{◌≡◌, ℕ, suc, ◌+◌, ◌-◌, ◌<◌, List, [], ◌∷◌}
use Rattle.f77_ast.specs.Trees.{ExprTree, ExprTrees}
use Rattle.f77_ast.specs.Trees as tree
use Rattle.f77_ast.specs.DeclTrees.{ParsedTree}
use Rattle.f77_ast.specs.Store.{Content, Store, Tag}
use Rattle.f77_ast.specs.Runs.{Whole, run}
use Rattle.f77_ast.specs.Places.{Place, Places, Variable, scalar_place}
use Rattle.f77_ast.specs.Calls.{Actual, actuals, places_of}
use Rattle.f77_ast.specs.Executions.{AtEndOf}
use Rattle.f77_ast.specs.Symbols.{SymbolTree}
use Rattle.call_graph.specs.declared.graph.Graph.{Graph}
use Rattle.f77_meaning.specs.Areas.{own, unit_at}
use Rattle.f77_meaning.specs.Modules.{names, fixed, dummies_from}
use Rattle.laws_programs.specs.Storage.Programs.{IsLinked, IsModule, known}
use Rattle.laws_programs.specs.Storage.CellLaws.{units}
use Rattle.laws_programs.specs.Storage.Calls.{Args, AllRead}
use Rattle.laws_programs.specs.Storage.Below.{HasCall}
use Rattle.laws_programs.specs.Storage.Activations.{Entered}
use Rattle.laws_programs.specs.Storage.Owned.{DummiesKeepOff}

-- an actual lends a variable, an element with the rest of its array, or the unit where its value was put
pub data Lends (ss : List SymbolTree) (at : Places) (e : ExprTree) (own_unit : ℕ) (q : Place) : Type 0 where
  lends_variable : (x : List ℕ) (v : ℕ) → e ≡ tree.name x → names ss x ≡ Variable v → q ≡ at v → Lends ss at e own_unit q
  lends_element : (x : List ℕ) (es : ExprTrees) (v k : ℕ) → e ≡ tree.element x es → names ss x ≡ Variable v → k < (at v).extent → q.first ≡ (at v).first + k → q.extent ≡ (at v).extent - k → Lends ss at e own_unit q
  lends_value : (t : Tag) → q ≡ scalar_place own_unit t → Lends ss at e own_unit q

-- each of these, the first of which has this place
abbrev pub AllLend : List SymbolTree → Places → (ℕ → ℕ) → ExprTrees → ℕ → List Actual → Type 0
AllLend ss at own_units tree.no_exprs k [] = Unit {0}
AllLend ss at own_units tree.no_exprs k (x ∷ xs) = ⊥
AllLend ss at own_units (tree.more_exprs e es) k [] = ⊥
AllLend ss at own_units (tree.more_exprs e es) k (x ∷ xs) = Lends ss at e (own_units k) x.place × AllLend ss at own_units es (suc k) xs

-- so it is where actuals are evaluated
abbrev pub ActualsLend : Type 0
ActualsLend = (ss : List SymbolTree) (at : Places) (own_units : ℕ → ℕ) (es : ExprTrees) (k : ℕ) (s : Store) (i : List Content) → AtEndOf (run (actuals es k (names ss) at own_units) (Whole s) i) (λ xs z j. AllLend ss at own_units es k xs)

-- where the dummies of a module keep off the own units below it, those of what it calls keep off the ones below that
abbrev pub CalleeDummiesAvoidCalleeStorage : Type 0
CalleeDummiesAvoidCalleeStorage = (ps : List ParsedTree) (sss : List (List SymbolTree)) (g : Graph) → IsLinked ps sss g → (i j : ℕ) (p q : ParsedTree) (ss tt' : List SymbolTree) → IsModule ps sss i p ss → IsModule ps sss j q tt' → HasCall p ss q.module_read.name →
    (qs : List Place) (at : Places) → Entered (dummies_from 1 ss) qs (fixed (units ps sss g) (known p ss)) at → DummiesKeepOff ps sss g p ss at →
    (call : ℕ) (es : ExprTrees) → Args ss es 1 tt' → AllRead ss es → (xs : List Actual) → AllLend ss at (λ place. unit_at (units ps sss g) (own p.module_read.name call place) 0) es 0 xs →
    (at' : Places) → Entered (dummies_from 1 tt') (places_of xs) (fixed (units ps sss g) (known q tt')) at' → DummiesKeepOff ps sss g q tt' at'
