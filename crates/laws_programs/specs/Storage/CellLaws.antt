-- What is known of the units of tracked cells, of locals and of expressions in modules that link.
use Rattle.std.specs.Prelude.{◌≡◌, ℕ, true, false, List, [], Some, nat_eq}
use Rattle.std.specs.List.{list_any}
use Rattle.f77_ast.specs.DeclTrees.{ParsedTree}
use Rattle.f77_ast.specs.declared.decl.Scalar.TheVariants.{Int}
use Rattle.f77_ast.specs.Store as tag
use Rattle.f77_ast.specs.Places.{scalar_place}
use Rattle.f77_ast.specs.Calls.{in_place}
use Rattle.f77_ast.specs.Symbols.{SymbolTree}
use Rattle.f77_ast.specs.Units.{units_in}
use Rattle.f77_ast.specs.Shared.{symbol_at}
use Rattle.call_graph.specs.declared.graph.Graph.{Graph}
use Rattle.f77_meaning.specs.Areas.{Area, group, own, Numbering, unit_at}
use Rattle.f77_meaning.specs.Modules.{known_of, fixed, all_lost}
use Rattle.f77_meaning.specs.Linked.{offset_in, numbering}
use Rattle.f77_meaning.specs.Laws.{area_of}
use Rattle.laws_programs.specs.Storage.Programs.{IsLinked, IsModule, IsCell, known}

-- the numbers of the units of a program
abbrev pub units : List ParsedTree → List (List SymbolTree) → Graph → Numbering
units ps sss g = numbering (known_of ps sss) g

-- ---- tracked cells

-- a tracked cell is an INTEGER scalar, and takes one unit
abbrev pub CellsAreScalars : Type 0
CellsAreScalars = (g : Graph) (p : ParsedTree) (ss : List SymbolTree) (n : ℕ) (s : SymbolTree) → IsCell g p ss n s → (s.scalar ≡ Int) × (s.bounds ≡ []) × (units_in ss s ≡ 1)

-- one that is a local or lies in COMMON lies as an INTEGER scalar at the first unit of its place
abbrev pub CellsHavePlaces : Type 0
CellsHavePlaces = (ps : List ParsedTree) (sss : List (List SymbolTree)) (g : Graph) (p : ParsedTree) (ss : List SymbolTree) (n : ℕ) (s : SymbolTree) (a : Area) → IsCell g p ss n s →
    area_of p.module_read.name s.place ≡ Some a → fixed (units ps sss g) (known p ss) n ≡ scalar_place (unit_at (units ps sss g) a (offset_in s.place)) tag.Int

-- no other name of its module that is no dummy has this unit
abbrev pub CellsStandAlone : Type 0
CellsStandAlone = (ps : List ParsedTree) (sss : List (List SymbolTree)) (g : Graph) → IsLinked ps sss g → (i : ℕ) (p : ParsedTree) (ss : List SymbolTree) → IsModule ps sss i p ss →
    (n : ℕ) (s : SymbolTree) (a : Area) → IsCell g p ss n s → area_of p.module_read.name s.place ≡ Some a →
    (v u : ℕ) → (v ≡ n → ⊥) → in_place (fixed (units ps sss g) (known p ss) n) u ≡ true → in_place (fixed (units ps sss g) (known p ss) v) u ≡ false

-- ---- names of modules

-- each module has a name of its own
abbrev pub NamesTellModules : Type 0
NamesTellModules = (ps : List ParsedTree) (sss : List (List SymbolTree)) (g : Graph) → IsLinked ps sss g → (i j : ℕ) (p q : ParsedTree) (ss tt' : List SymbolTree) → IsModule ps sss i p ss → IsModule ps sss j q tt' →
    p.module_read.name ≡ q.module_read.name → i ≡ j

-- ---- units of expressions that are actuals

-- they are units of no name
abbrev pub OwnUnitsAreNoNames : Type 0
OwnUnitsAreNoNames = (ps : List ParsedTree) (sss : List (List SymbolTree)) (g : Graph) → IsLinked ps sss g → (i j : ℕ) (p q : ParsedTree) (ss tt' : List SymbolTree) → IsModule ps sss i p ss → IsModule ps sss j q tt' →
    (v call place : ℕ) → in_place (fixed (units ps sss g) (known p ss) v) (unit_at (units ps sss g) (own q.module_read.name call place) 0) ≡ false

-- those of different modules, of different CALLs and of different places differ
abbrev pub OwnUnitsDiffer : Type 0
OwnUnitsDiffer = (ps : List ParsedTree) (sss : List (List SymbolTree)) (g : Graph) → IsLinked ps sss g → (i j : ℕ) (p q : ParsedTree) (ss tt' : List SymbolTree) → IsModule ps sss i p ss → IsModule ps sss j q tt' →
    (call place call' place' : ℕ) → unit_at (units ps sss g) (own p.module_read.name call place) 0 ≡ unit_at (units ps sss g) (own q.module_read.name call' place') 0 → (i ≡ j) × (call ≡ call') × (place ≡ place')

-- ---- locals

-- the units of a local are none of a name of another module
abbrev pub LocalsStayInside : Type 0
LocalsStayInside = (ps : List ParsedTree) (sss : List (List SymbolTree)) (g : Graph) → IsLinked ps sss g → (i j : ℕ) (p q : ParsedTree) (ss tt' : List SymbolTree) → IsModule ps sss i p ss → IsModule ps sss j q tt' → (i ≡ j → ⊥) →
    (v w h u : ℕ) (s : SymbolTree) → symbol_at ss v ≡ Some s → area_of p.module_read.name s.place ≡ Some (group p.module_read.name h) →
    in_place (fixed (units ps sss g) (known p ss) v) u ≡ true → in_place (fixed (units ps sss g) (known q tt') w) u ≡ false

-- a local of a module that has a unit
pub record IsOfLocal (ps : List ParsedTree) (sss : List (List SymbolTree)) (g : Graph) (p : ParsedTree) (ss : List SymbolTree) (u : ℕ) : Type 0 where
  pub number : ℕ
  pub symbol : SymbolTree
  pub is_symbol : symbol_at ss number ≡ Some symbol
  pub storage : ℕ
  pub lies : area_of p.module_read.name symbol.place ≡ Some (group p.module_read.name storage)
  pub has_unit : in_place (fixed (units ps sss g) (known p ss) number) u ≡ true

-- the units that become undefined at the ends of a module's executions are of its locals
abbrev pub LostUnitsAreLocal : Type 0
LostUnitsAreLocal = (ps : List ParsedTree) (sss : List (List SymbolTree)) (g : Graph) (p : ParsedTree) (ss : List SymbolTree) (u : ℕ) →
    list_any (λ v. nat_eq v u) (all_lost (units ps sss g) p.module_read.name ss ss) ≡ true → IsOfLocal ps sss g p ss u
