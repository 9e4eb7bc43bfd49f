-- What is known of units, wherever modules and their links come from.
use Rattle.std.specs.Prelude.{◌≡◌, ℕ, ◌+◌, ◌<◌, ◌≤◌, ◌↔◌, Bool, true, false, List, [], length, map, Option, Some, None, Ok, slice_get}
use Rattle.f77_ast.specs.DeclTrees.{ParsedTree}
use Rattle.f77_ast.specs.Store.{empty_store}
use Rattle.f77_ast.specs.Calls.{in_place}
use Rattle.f77_ast.specs.declared.symbol.Place.{Place}
use Rattle.f77_ast.specs.declared.symbol.Place.TheVariants as place
use Rattle.f77_ast.specs.declared.symbol.InitialRun.{InitialRun}
use Rattle.f77_ast.specs.Symbols.{SymbolTree}
use Rattle.f77_ast.specs.Units.{units_in}
use Rattle.f77_ast.specs.Shared.{symbol_at, share}
use Rattle.tracked_cells.specs.Equivalences.{equivalenced_names}
use Rattle.tracked_cells.specs.Standing.{has_bounds, untracks, stands_at}
use Rattle.tracked_cells.specs.Untracked.{untracked_of}
use Rattle.tracked_cells.specs.Tracked.{is_tracked}
use Rattle.call_graph.specs.declared.graph.Graph.{Graph}
use Rattle.call_graph.specs.declared.graph.Block.{Block}
use Rattle.call_graph.specs.declared.calls.Called.{Called}
use Rattle.call_graph.specs.declared.actuals.Actual.{Actual}
use Rattle.call_graph.specs.declared.actuals.Offer.TheVariants.{Variable, Value}
use Rattle.call_graph.specs.Actuals.{all_fit, is_scalar_of, suits}
use Rattle.call_graph.specs.Calls.{calls_of}
use Rattle.call_graph.specs.Blocks.{blocks_of}
use Rattle.call_graph.specs.Links.{link_of}
use Rattle.f77_meaning.specs.Areas.{Area, block, group, own, Numbering, place_in, unit_at, is_own_unit}
use Rattle.f77_meaning.specs.Modules.{Known, known_of, fixed}
use Rattle.f77_meaning.specs.Linked.{offset_in, room_for, numbering, declares, reaches, is_common, initial}

-- ---- units

-- the block or the module of an area is one of those that are numbered
abbrev pub IsKnown : Numbering → Area → Type 0
IsKnown g (block x) = 0 < place_in g.blocks x
IsKnown g (group m n) = 0 < place_in g.modules m
IsKnown g (own m s k) = 0 < place_in g.modules m

-- units of different areas are different, and so are units of one area with different distances from its first
abbrev pub UnitsDiffer : Type 0
UnitsDiffer = (g : Numbering) (a b : Area) (m n : ℕ) → IsKnown g a → IsKnown g b → m < g.room → n < g.room → unit_at g a m ≡ unit_at g b n → (a ≡ b) × (m ≡ n)

abbrev pub is_own : Area → Bool
is_own (block x) = false
is_own (group m n) = false
is_own (own m s k) = true

-- the units of expressions are told from all others
abbrev pub TemporariesAreRecognisable : Type 0
TemporariesAreRecognisable = (g : Numbering) (a : Area) (o : ℕ) → o < g.room → is_own_unit g (unit_at g a o) ≡ is_own a

-- ---- where names lie

-- a module of the program with one of its symbols, by its number
pub record Declared (ks : List Known) (k : Known) (n : ℕ) (s : SymbolTree) : Type 0 where
  pub at : ℕ
  pub is_module : slice_get ks at ≡ Some k
  pub is_symbol : symbol_at k.symbols n ≡ Some s

-- every variable ends within the room of an area
abbrev pub OffsetsFit : Type 0
OffsetsFit = (ks : List Known) (k : Known) (n : ℕ) (s : SymbolTree) → Declared ks k n s → offset_in s.place + units_in k.symbols s ≤ room_for ks

-- the area of a place in a module; dummies and constants have none of their own
abbrev pub area_of : List ℕ → Place → Option Area
area_of m (place.Local n o) = Some (group m n)
area_of m (place.Dummy k) = None
area_of m (place.Block b o) = Some (block b)
area_of m (place.Constant v) = None

-- a unit is one of so many from an offset on in an area
pub record IsUnit (g : Numbering) (a : Area) (offset count : ℕ) (u : ℕ) : Type 0 where
  pub distance : ℕ
  pub unit : u ≡ unit_at g a distance
  pub from : offset ≤ distance
  pub below : distance < offset + count

-- the units of a variable that is no dummy are those of its place
abbrev pub VariablesOccupyTheirStorage : Type 0
VariablesOccupyTheirStorage = (ks : List Known) (g : Graph) (k : Known) (n : ℕ) (s : SymbolTree) (a : Area) (u : ℕ) → Declared ks k n s → area_of k.read.name s.place ≡ Some a →
    in_place (fixed (numbering ks g) k n) u ≡ true → IsUnit (numbering ks g) a (offset_in s.place) (units_in k.symbols s) u

-- variables of two modules, or of one, that have a unit in common lie in the same area, in a block or in a group of the same module
abbrev pub NamesMeet : Type 0
NamesMeet = (ks : List Known) (g : Graph) (k l : Known) (m n : ℕ) (s t : SymbolTree) (a b : Area) (u : ℕ) → Declared ks k m s → Declared ks l n t →
    area_of k.read.name s.place ≡ Some a → area_of l.read.name t.place ≡ Some b → IsKnown (numbering ks g) a → IsKnown (numbering ks g) b →
    in_place (fixed (numbering ks g) k m) u ≡ true → in_place (fixed (numbering ks g) l n) u ≡ true → a ≡ b

-- variables of a module that have a unit in common share storage by its table
abbrev pub SharedByTable : Type 0
SharedByTable = (ks : List Known) (g : Graph) (k : Known) (m n : ℕ) (s t : SymbolTree) (a b : Area) (u : ℕ) → Declared ks k m s → Declared ks k n t →
    area_of k.read.name s.place ≡ Some a → area_of k.read.name t.place ≡ Some b → IsKnown (numbering ks g) a → IsKnown (numbering ks g) b →
    in_place (fixed (numbering ks g) k m) u ≡ true → in_place (fixed (numbering ks g) k n) u ≡ true → share k.symbols s t ≡ true

-- the unit of an expression that is an actual is none of a variable
abbrev pub OwnUnitsApart : Type 0
OwnUnitsApart = (ks : List Known) (g : Graph) (k : Known) (n : ℕ) (s : SymbolTree) (a : Area) (x : List ℕ) (call place : ℕ) → Declared ks k n s →
    area_of k.read.name s.place ≡ Some a → IsKnown (numbering ks g) a → IsKnown (numbering ks g) (own x call place) →
    in_place (fixed (numbering ks g) k n) (unit_at (numbering ks g) (own x call place) 0) ≡ false

-- a module of the program is numbered
abbrev pub ModulesAreKnown : Type 0
ModulesAreKnown = (ks : List Known) (g : Graph) (i n : ℕ) (k : Known) → slice_get ks i ≡ Some k → IsKnown (numbering ks g) (group k.read.name n)

-- ---- COMMON

-- the blocks of the graph are those of the tables, as linking makes them
abbrev pub HasBlocks : List Known → Graph → Type 0
HasBlocks ks g = g.blocks ≡ blocks_of (map (λ k. k.symbols) ks)

-- then the area of each variable is numbered
abbrev pub AreasAreKnown : Type 0
AreasAreKnown = (ks : List Known) (g : Graph) (k : Known) (n : ℕ) (s : SymbolTree) (a : Area) → HasBlocks ks g → Declared ks k n s → area_of k.read.name s.place ≡ Some a → IsKnown (numbering ks g) a

-- a block of the graph that a module, or one that it reaches by calls, declares
pub record IsDeclaredBelow (ks : List Known) (g : Graph) (x b : List ℕ) : Type 0 where
  pub module_at : ℕ
  pub by : Known
  pub is_module : slice_get ks module_at ≡ Some by
  pub reached : reaches (length ks) g.edges x by.read.name ≡ true
  pub block_at : ℕ
  pub the_block : Block
  pub is_block : slice_get g.blocks block_at ≡ Some the_block
  pub is_named : the_block.name ≡ b
  pub declared : declares the_block.name by ≡ true

-- the units of COMMON of a module are those of such blocks
abbrev pub CommonIsOfBlocks : Type 0
CommonIsOfBlocks = (ks : List Known) (g : Graph) (x : List ℕ) (a : Area) (o : ℕ) → IsKnown (numbering ks g) a → o < room_for ks →
    (is_common ks g x (unit_at (numbering ks g) a o) ≡ true) ↔ ((b : List ℕ) × (a ≡ block b) × IsDeclaredBelow ks g x b)

-- ---- tracked cells

-- a scalar at whose unit the table of its module has nothing else, as of a tracked local, shares its unit with no other variable of the module
abbrev pub CellsAreAlone : Type 0
CellsAreAlone = (ks : List Known) (g : Graph) (k : Known) (m n : ℕ) (s t : SymbolTree) (a b : Area) (names : List (List ℕ)) (u : ℕ) → Declared ks k m s → Declared ks k n t → (m ≡ n → ⊥) →
    area_of k.read.name s.place ≡ Some a → area_of k.read.name t.place ≡ Some b → IsKnown (numbering ks g) a → IsKnown (numbering ks g) b →
    s.bounds ≡ [] → untracks names k.symbols s.place ≡ false →
    in_place (fixed (numbering ks g) k m) u ≡ true → in_place (fixed (numbering ks g) k n) u ≡ false

-- ---- the store at the start

-- DATA gives values to units of variables that are no dummies, and to none past their ends, as layout makes it
abbrev pub DataFits : List Known → Type 0
DataFits ks = (k : Known) (n : ℕ) (s : SymbolTree) → Declared ks k n s → (i : ℕ) (r : InitialRun) → slice_get s.initial i ≡ Some r →
    ((a : Area) × (area_of k.read.name s.place ≡ Some a)) × (r.offset + r.count ≤ units_in k.symbols s)

-- a unit of a variable that is no dummy
pub record IsOfVariable (ks : List Known) (g : Graph) (u : ℕ) : Type 0 where
  pub by : Known
  pub number : ℕ
  pub symbol : SymbolTree
  pub area : Area
  pub declared : Declared ks by number symbol
  pub lies : area_of by.read.name symbol.place ≡ Some area
  pub has_unit : in_place (fixed (numbering ks g) by number) u ≡ true

-- a unit that is of no variable has no value at the start
abbrev pub OthersBeginUnset : Type 0
OthersBeginUnset = (ks : List Known) (g : Graph) (u : ℕ) → DataFits ks → (IsOfVariable ks g u → ⊥) → initial ks g u ≡ empty_store u

-- such are the units of expressions
abbrev pub OwnUnitsBeginUnset : Type 0
OwnUnitsBeginUnset = (ks : List Known) (g : Graph) (x : List ℕ) (call place : ℕ) → HasBlocks ks g → DataFits ks → IsKnown (numbering ks g) (own x call place) →
    initial ks g (unit_at (numbering ks g) (own x call place) 0) ≡ empty_store (unit_at (numbering ks g) (own x call place) 0)

-- ---- modules that link

-- a CALL has a subroutine of its name, with a dummy for each actual, which takes it
pub record FitsCall (ps : List ParsedTree) (sss : List (List SymbolTree)) (c : Called) : Type 0 where
  pub at : ℕ
  pub callee : ParsedTree
  pub table : List SymbolTree
  pub is_module : slice_get ps at ≡ Some callee
  pub has_table : slice_get sss at ≡ Some table
  pub is_named : callee.module_read.name ≡ c.callee
  pub is_subroutine : callee.module_read.main ≡ false
  pub count : length c.actuals ≡ length callee.module_read.dummies
  pub types : all_fit c.actuals table ≡ true

-- each CALL of modules that link is such
abbrev pub LinkedCallsFit : Type 0
LinkedCallsFit = (ps : List ParsedTree) (sss : List (List SymbolTree)) (g : Graph) → link_of ps sss ≡ Ok g →
    (k : ℕ) (p : ParsedTree) (ss : List SymbolTree) → slice_get ps k ≡ Some p → slice_get sss k ≡ Some ss →
    (i : ℕ) (c : Called) → slice_get (calls_of p ss) i ≡ Some c → FitsCall ps sss c

-- and the blocks of their graph are those of their tables
abbrev pub LinkedHaveBlocks : Type 0
LinkedHaveBlocks = (ps : List ParsedTree) (sss : List (List SymbolTree)) (g : Graph) → length ps ≡ length sss → link_of ps sss ≡ Ok g → HasBlocks (known_of ps sss) g

-- of such a CALL, each actual has the type of its dummy and offers what it takes: a scalar variable goes to a scalar, and to an array only arrays and elements go
abbrev pub ActualsSuit : Type 0
ActualsSuit = (as' : List Actual) (ss : List SymbolTree) → all_fit as' ss ≡ true → (i : ℕ) (a : Actual) (d : SymbolTree) → slice_get as' i ≡ Some a → slice_get ss i ≡ Some d →
    (is_scalar_of a.scalar d.scalar ≡ true) × (suits a.offer (has_bounds d.bounds) ≡ true) × (a.offer ≡ Variable → has_bounds d.bounds ≡ false) × (a.offer ≡ Value → has_bounds d.bounds ≡ false)

-- ---- tracked cells in COMMON

-- at the unit of a tracked cell in a block no module has anything but one INTEGER scalar that is in no EQUIVALENCE
abbrev pub CommonCellsAreAlone : Type 0
CommonCellsAreAlone = (ps : List ParsedTree) (sss : List (List SymbolTree)) (k n : ℕ) (names : List (List ℕ)) (ss : List SymbolTree) (s : SymbolTree) (x : List ℕ) (o : ℕ) →
    slice_get sss k ≡ Some ss → slice_get ss n ≡ Some s → s.place ≡ place.Block x o → is_tracked names ss (untracked_of ps sss) s ≡ true →
    (j : ℕ) (q : ParsedTree) (tt' : List SymbolTree) → slice_get ps j ≡ Some q → slice_get sss j ≡ Some tt' → untracks (equivalenced_names q.module_read) tt' (place.Block x o) ≡ false

-- and a variable that stands there is a tracked cell
abbrev pub CommonCellsAreCells : Type 0
CommonCellsAreCells = (ps : List ParsedTree) (sss : List (List SymbolTree)) (k n : ℕ) (names : List (List ℕ)) (ss : List SymbolTree) (s : SymbolTree) (x : List ℕ) (o : ℕ) →
    slice_get sss k ≡ Some ss → slice_get ss n ≡ Some s → s.place ≡ place.Block x o → is_tracked names ss (untracked_of ps sss) s ≡ true →
    (j : ℕ) (q : ParsedTree) (tt' : List SymbolTree) → slice_get ps j ≡ Some q → slice_get sss j ≡ Some tt' → (m : ℕ) (t : SymbolTree) → slice_get tt' m ≡ Some t →
    stands_at tt' (place.Block x o) t ≡ true → is_tracked (equivalenced_names q.module_read) tt' (untracked_of ps sss) t ≡ true
