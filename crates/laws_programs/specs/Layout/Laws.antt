-- What holds of the table of every module that is not refused, in the words of the standard.
use Rattle.std.specs.Prelude.{◌≡◌, ◌+◌, ◌*◌, ◌<◌, ◌≤◌, ◌⊎◌, ℕ, suc, ℤ, List, length, map, slice_get, Option, Some, None, Ok, Err}
use Rattle.std.specs.List.{AllByRecursion}
use Rattle.f77_ast.specs.DeclTrees.{DataTree, ParsedTree}
use Rattle.f77_ast.specs.Places.{Dim, position}
use Rattle.f77_ast.specs.declared.symbol.Place.TheVariants.{Block}
use Rattle.f77_ast.specs.Symbols.{SymbolTree}
use Rattle.f77_ast.specs.Units.{units_in}
use Rattle.f77_ast.specs.Shared.{OneUnit, group_unit, block_unit, HasUnit}
use Rattle.f77_meaning.specs.Linked.{offset_in}
use Rattle.storage_data.specs.Laws.{IsNext}
use Rattle.storage_layout.specs.Symbols.{symbols_of, valued, checked, laid, shared, filled}
use Rattle.fx_lists.specs.declared.code.Code.TheVariants.{EquivalenceClash, EquivalenceExtendsBack}
use Rattle.fx_lists.specs.declared.refusal.Refusal.{Refusal}
use Rattle.f77_names.specs.Lines.{lines_of}
use Rattle.f77_names.specs.Tables.{NameTable}
use Rattle.laws_programs.specs.Storage.DataLaws.{ConstantsFit}
use Rattle.storage_layout.specs.Statements.{members, equivalences, Has}
use Rattle.laws_programs.specs.Layout.Fits.{Spot, Satisfies}
use Rattle.laws_programs.specs.Layout.Layout.{LieInARow, ShareTheirFirst, Chained, data_lists, Target, targets, begins_with, GivesItsValues}

-- ---- elements (§5.2.4)

-- the element with all lower bounds is the first
abbrev pub FirstElementIsFirst : Type 0
FirstElementIsFirst = (ds : List Dim) (ns : List ℤ) (k : ℕ) → position ds ns ≡ Some k → position ds (map (λ d. d.low) ds) ≡ Some 0

-- and each other comes one unit behind the one before it
abbrev pub ColumnsComeFirst : Type 0
ColumnsComeFirst = (ds : List Dim) (ns ms : List ℤ) (k : ℕ) → position ds ns ≡ Some k → IsNext ds ns ms → position ds ms ≡ Some (suc k)

-- ---- the tables of modules with INTEGER constants of 32 bits, as reading makes them

-- the members of each block lie in the order of the text from the block's first unit on (§8.3.2)
abbrev pub CommonFollowsTheText : Type 0
CommonFollowsTheText = (p : ParsedTree) (ss : List SymbolTree) → symbols_of p ≡ Ok ss → ConstantsFit ss → (b : List ℕ) → LieInARow ss b 0 (members b p.module_read.decls)

-- the items of each EQUIVALENCE share their first units (§8.2.2)
abbrev pub EquivalencedItemsShare : Type 0
EquivalencedItemsShare = (p : ParsedTree) (ss : List SymbolTree) → symbols_of p ≡ Ok ss → ConstantsFit ss → AllByRecursion (ShareTheirFirst ss) (equivalences p.module_read.decls)

-- a unit of a block, or of a group: they are numbered from 1
abbrev pub IsNumbered : OneUnit → Type 0
IsNumbered (group_unit g k) = 0 < g
IsNumbered (block_unit b k) = Unit {0}

-- variables with a common unit are one, or are associated by blocks and groups (§17.1.3)
abbrev pub SharingHasAChain : Type 0
SharingHasAChain = (p : ParsedTree) (ss : List SymbolTree) → symbols_of p ≡ Ok ss → (i j : ℕ) (a b : SymbolTree) (u : OneUnit) → IsNumbered u → slice_get ss i ≡ Some a → slice_get ss j ≡ Some b → HasUnit ss a u → HasUnit ss b u → (i ≡ j) ⊎ Chained p.module_read.decls a.name b.name

-- what lies in a block is a member of it, or is associated with one (§8.3.4)
abbrev pub BlocksHaveAChain : Type 0
BlocksHaveAChain = (p : ParsedTree) (ss : List SymbolTree) → symbols_of p ≡ Ok ss → (i o : ℕ) (s : SymbolTree) (b : List ℕ) → slice_get ss i ≡ Some s → s.place ≡ Block b o →
    (x : List ℕ) × Has (members b p.module_read.decls) x × ((x ≡ s.name) ⊎ Chained p.module_read.decls x s.name)

-- DATA gives its values to the units of its items in order (§9)
abbrev pub DataFillsInOrder : Type 0
DataFillsInOrder = (p : ParsedTree) (ss : List SymbolTree) → symbols_of p ≡ Ok ss → ConstantsFit ss → AllByRecursion (GivesItsValues ss) (data_lists p.module_read.decls)

-- only units of items of DATA have a value at the start (§9)
abbrev pub OthersBeginUndefined : Type 0
OthersBeginUndefined = (p : ParsedTree) (ss : List SymbolTree) → symbols_of p ≡ Ok ss → ConstantsFit ss → (t : Target) (v : ℤ) → begins_with ss t ≡ Some v →
    (g : DataTree) × Has (data_lists p.module_read.decls) g × Has (targets ss g.targets) t

-- a variable ends at most 2147483647 units for each symbol behind the first unit of its block or group
abbrev pub EndsAreBounded : Type 0
EndsAreBounded = (p : ParsedTree) (ss : List SymbolTree) → symbols_of p ≡ Ok ss → ConstantsFit ss → (n : ℕ) (s : SymbolTree) → slice_get ss n ≡ Some s → offset_in s.place + units_in ss s ≤ 2147483647 * length ss

-- ---- refusals

-- the names of a module
abbrev pub names_of : ParsedTree → NameTable
names_of p = (valued (lines_of p.places.spots) p.module_read).table

-- the first refusal of a module but those for its layout
abbrev pub other_refusal : ParsedTree → Option Refusal
other_refusal p =
    let at = lines_of p.places.spots in
    let m = p.module_read in
    let v = valued at m in
    let s = shared v.table at m.decls (laid v.table m.decls).offset_nodes (checked at m v) in
    (filled v.table s.group.offset_nodes at m.decls s.found).found

-- a refusal of an EQUIVALENCE that contradicts what is before it, or that begins before a block (35, 36)
abbrev pub IsOfLayout : Refusal → Type 0
IsOfLayout r = (r.code ≡ EquivalenceClash) ⊎ (r.code ≡ EquivalenceExtendsBack)

-- a module of which nothing else is refused, and that has no table, is refused for its layout, and has none
abbrev pub LayoutsAreRefusedWhereNoneFits : Type 0
LayoutsAreRefusedWhereNoneFits = (p : ParsedTree) (r : Refusal) → other_refusal p ≡ None → symbols_of p ≡ Err r → IsOfLayout r × ((f : List ℕ → Spot) → Satisfies (names_of p) p.module_read.decls f → ⊥)

-- a module that is not refused has one
abbrev pub AcceptedLayoutsFit : Type 0
AcceptedLayoutsFit = (p : ParsedTree) (ss : List SymbolTree) → symbols_of p ≡ Ok ss → (f : List ℕ → Spot) × Satisfies (names_of p) p.module_read.decls f
