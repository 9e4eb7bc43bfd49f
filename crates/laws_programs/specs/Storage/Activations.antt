-- Where the names of a module lie while it runs, and which of its units are locked (ANSI X3.9-1978 §15.9.3).
use Rattle.std.specs.Prelude.{◌≡◌, ℕ, ◌≤◌, Bool, true, false, nat_eq, List, [], ◌∷◌, Some}
use Rattle.std.specs.List.{list_any}
use Rattle.f77_ast.specs.DeclTrees.{ParsedTree}
use Rattle.f77_ast.specs.Store.{Content, Store}
use Rattle.f77_ast.specs.Runs.{Whole, run}
use Rattle.f77_ast.specs.Places.{Names, Place, Places, Variable, scalar_place}
use Rattle.f77_ast.specs.Calls.{Dummy, in_place, first_place, other_places, scalars_bound, arrays_bound, doubly_reached}
use Rattle.f77_ast.specs.Executions.{AtEndOf}
use Rattle.f77_ast.specs.declared.symbol.Place.TheVariants.{Block}
use Rattle.f77_ast.specs.Symbols.{SymbolTree}
use Rattle.f77_ast.specs.Shared.{symbol_at}
use Rattle.call_graph.specs.declared.graph.Graph.{Graph}
use Rattle.f77_meaning.specs.Areas.{group}
use Rattle.f77_meaning.specs.Modules.{tag_of, names, known_of, fixed, dummies_from}
use Rattle.f77_meaning.specs.Linked.{is_common}
use Rattle.f77_meaning.specs.Laws.{area_of}
use Rattle.laws_programs.specs.Storage.Programs.{IsLinked, IsModule, IsCell, known}
use Rattle.laws_programs.specs.Storage.CellLaws.{units}

-- ---- where dummies lie

-- a dummy that has this place lies at its actual's: a scalar at the first unit, an array from there on and no further than the actual
pub data Binds (d : Dummy) (actual place : Place) : Type 0 where
  binds_scalar : d.bounds ≡ [] → place ≡ scalar_place actual.first d.tag → Binds d actual place
  binds_array : (d.bounds ≡ [] → ⊥) → place.first ≡ actual.first → place.extent ≤ actual.extent → place.tag ≡ d.tag → Binds d actual place

-- each dummy with the actual at its place
abbrev pub AllBind : List Dummy → List Place → Places → Type 0
AllBind [] ps at = Unit {0}
AllBind (d ∷ ds) ps at = Binds d (first_place ps) (at d.symbol) × AllBind ds (other_places ps) at

-- the number of a dummy's symbol
abbrev pub is_dummy : List Dummy → ℕ → Bool
is_dummy ds v = list_any (λ d. nat_eq d.symbol v) ds

-- the names of a module that is entered with these actuals lie so
pub record Entered (ds : List Dummy) (ps : List Place) (fixed at : Places) : Type 0 where
  pub dummies : AllBind ds ps at
  pub others : (v : ℕ) → is_dummy ds v ≡ false → at v ≡ fixed v

-- that the bounds of arrays are read changes nothing, and where it ends the names lie so
abbrev pub PlacesAreBound : Type 0
PlacesAreBound = (ss : List SymbolTree) (ps : List Place) (w : Names) (fixed : Places) (s : Store) (i : List Content) →
    AtEndOf (run (arrays_bound (dummies_from 1 ss) ps w (scalars_bound (dummies_from 1 ss) ps fixed)) (Whole s) i) (λ at z j. (z ≡ s) × (j ≡ i) × Entered (dummies_from 1 ss) ps fixed at)

-- ---- units that are locked

-- the dummies of a module lie at no unit of its own locals
abbrev pub KeepOffLocals : List ParsedTree → List (List SymbolTree) → Graph → ParsedTree → List SymbolTree → Places → Type 0
KeepOffLocals ps sss g p ss at = (v u : ℕ) → is_dummy (dummies_from 1 ss) v ≡ true → in_place (at v) u ≡ true →
    (n h : ℕ) (s : SymbolTree) → symbol_at ss n ≡ Some s → area_of p.module_read.name s.place ≡ Some (group p.module_read.name h) → in_place (fixed (units ps sss g) (known p ss) n) u ≡ false

-- then a tracked cell of the module shares its unit with another of its variables only where that is reached doubly, and so locked
abbrev pub SharedCellsAreLocked : Type 0
SharedCellsAreLocked = (ps : List ParsedTree) (sss : List (List SymbolTree)) (g : Graph) → IsLinked ps sss g → (i : ℕ) (p : ParsedTree) (ss : List SymbolTree) → IsModule ps sss i p ss → (qs : List Place) (at : Places) →
    Entered (dummies_from 1 ss) qs (fixed (units ps sss g) (known p ss)) at → KeepOffLocals ps sss g p ss at →
    (c : ℕ) (s : SymbolTree) → IsCell g p ss c s → (x : List ℕ) (v u : ℕ) → names ss x ≡ Variable v → (v ≡ c → ⊥) → in_place (at v) u ≡ true → in_place (at c) u ≡ true →
    doubly_reached (dummies_from 1 ss) at (is_common (known_of ps sss) g p.module_read.name) u ≡ true

-- a unit of a variable in COMMON is one of the module's units of COMMON
abbrev pub CommonNamesAreCommon : Type 0
CommonNamesAreCommon = (ps : List ParsedTree) (sss : List (List SymbolTree)) (g : Graph) → IsLinked ps sss g → (i : ℕ) (p : ParsedTree) (ss : List SymbolTree) → IsModule ps sss i p ss →
    (n u : ℕ) (s : SymbolTree) (b : List ℕ) (o : ℕ) → symbol_at ss n ≡ Some s → s.place ≡ Block b o → in_place (fixed (units ps sss g) (known p ss) n) u ≡ true →
    is_common (known_of ps sss) g p.module_read.name u ≡ true

-- a variable without bounds lies as a scalar of its type
abbrev pub ScalarsLie : Type 0
ScalarsLie = (ps : List ParsedTree) (sss : List (List SymbolTree)) (g : Graph) (p : ParsedTree) (ss : List SymbolTree) (qs : List Place) (at : Places) → Entered (dummies_from 1 ss) qs (fixed (units ps sss g) (known p ss)) at →
    (x : List ℕ) (v : ℕ) (s : SymbolTree) → names ss x ≡ Variable v → symbol_at ss v ≡ Some s → s.bounds ≡ [] → at v ≡ scalar_place (at v).first (tag_of s.scalar)
