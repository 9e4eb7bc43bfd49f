-- Where the standard puts the variables of a module (ANSI X3.9-1978 §5.2.4, §8.2, §8.3, §9): what it asks of a finished table of symbols. Nothing is joined
-- or moved here, and no step of the making of a table is cited: a table either says what the statements say, or it does not.
use Rattle.std.specs.Prelude.{◌≡◌, ℕ, zero, suc, ◌+◌, ℤ, List, [], ◌∷◌, map, flat_map, Option, Some, None}
use Rattle.f77_ast.specs.Trees.{ExprTree, ExprTrees}
use Rattle.f77_ast.specs.Trees as tree
use Rattle.f77_ast.specs.DeclTrees.{EntityTree, CommonTree, DataValueTree, DataTree, DeclTree}
use Rattle.f77_ast.specs.DeclTrees as decl
use Rattle.f77_ast.specs.Places.{position}
use Rattle.f77_ast.specs.declared.constant.Constant.{Constant}
use Rattle.f77_ast.specs.declared.constant.ConstantValue.TheVariants.{Is}
use Rattle.f77_ast.specs.Constants.{number_of, const_value}
use Rattle.f77_ast.specs.declared.symbol.Place.TheVariants.{Block}
use Rattle.f77_ast.specs.Symbols.{SymbolTree, value_in}
use Rattle.f77_ast.specs.Units.{units_in}
use Rattle.f77_ast.specs.Shared.{OneUnit, unit_after}
use Rattle.tracked_cells.specs.Equivalences.{item_names}
use Rattle.storage_layout.specs.Statements.{members, equivalences, Has}
use Rattle.f77_meaning.specs.Modules.{as_number, dim_of, value_from}
use Rattle.laws_programs.specs.SymbolTables.Shapes.{symbol_named}

-- ---- DATA statements, in the order of the text

abbrev pub data_in : DeclTree → List DataTree
data_in (decl.initial gs) = gs
data_in (decl.implicit ps) = []
data_in (decl.integer es) = []
data_in (decl.logical es) = []
data_in (decl.dimension es) = []
data_in (decl.parameter ss) = []
data_in (decl.common cs) = []
data_in (decl.equivalence gs) = []
data_in (decl.save is) = []

-- the lists of targets and values of DATA
abbrev pub data_lists : List DeclTree → List DataTree
data_lists ds = flat_map data_in ds

-- ---- COMMON

-- the first of these variables begins at this unit of the block, and each other one where the one before it ends (§8.3.2)
abbrev pub LieInARow : List SymbolTree → List ℕ → ℕ → List (List ℕ) → Type 0
LieInARow ss b n [] = Unit {0}
LieInARow ss b n (x ∷ xs) = (s : SymbolTree) × (symbol_named ss x ≡ Some s) × (s.place ≡ Block b n) × LieInARow ss b (n + units_in ss s) xs

-- ---- elements of arrays

-- the numbers of constant subscripts
abbrev pub subscripts : List SymbolTree → ExprTrees → List ℤ
subscripts ss tree.no_exprs = []
subscripts ss (tree.more_exprs e es) = as_number (const_value (value_in ss) e) ∷ subscripts ss es

-- how many elements of an array come before one
abbrev pub element_number : List SymbolTree → SymbolTree → ExprTrees → Option ℕ
element_number ss s es = position (map (dim_of ss) s.bounds) (subscripts ss es)

-- ---- EQUIVALENCE

abbrev pub element_unit : SymbolTree → Option ℕ → Option OneUnit
element_unit s None = None
element_unit s (Some k) = unit_after s.place k

abbrev pub name_unit : Option SymbolTree → Option OneUnit
name_unit None = None
name_unit (Some s) = unit_after s.place 0

abbrev pub indexed_unit : List SymbolTree → Option SymbolTree → ExprTrees → Option OneUnit
indexed_unit ss None es = None
indexed_unit ss (Some s) es = element_unit s (element_number ss s es)

-- the first unit of an item: that of the variable or the array with this name, or that of an element (§8.2.3)
abbrev pub item_unit : List SymbolTree → ExprTree → Option OneUnit
item_unit ss (tree.name x) = name_unit (symbol_named ss x)
item_unit ss (tree.element x es) = indexed_unit ss (symbol_named ss x) es
item_unit ss (tree.int n) = None
item_unit ss (tree.log b) = None
item_unit ss (tree.paren e) = None
item_unit ss (tree.unary o e) = None
item_unit ss (tree.binary o a b) = None
item_unit ss (tree.chars x) = None

abbrev pub AllBeginAt : List SymbolTree → OneUnit → List ExprTree → Type 0
AllBeginAt ss u [] = Unit {0}
AllBeginAt ss u (i ∷ is) = (item_unit ss i ≡ Some u) × AllBeginAt ss u is

-- the items of a group have one first unit (§8.2.2)
abbrev pub ShareTheirFirst : List SymbolTree → List ExprTree → Type 0
ShareTheirFirst ss is = (u : OneUnit) × AllBeginAt ss u is

-- ---- association

-- two names are associated at once: both are members of one block, or both stand in one group (§8.2.2, §8.3.4)
pub data Together (ds : List DeclTree) (x y : List ℕ) : Type 0 where
  in_block : (b : List ℕ) → Has (members b ds) x → Has (members b ds) y → Together ds x y
  in_group : (g : List ExprTree) → Has (equivalences ds) g → Has (item_names g) x → Has (item_names g) y → Together ds x y

-- or over these names in between (§17.1.3)
abbrev pub IsChain : List DeclTree → List ℕ → List (List ℕ) → List ℕ → Type 0
IsChain ds x [] y = Together ds x y
IsChain ds x (z ∷ zs) y = Together ds x z × IsChain ds z zs y

abbrev pub Chained : List DeclTree → List ℕ → List ℕ → Type 0
Chained ds x y = (between : List (List ℕ)) × IsChain ds x between y

-- ---- DATA

-- a unit of a variable, by the number of those before it
pub record Target : Type 0 where
  pub name : List ℕ
  pub unit : ℕ

-- so many units of a variable from this one on
abbrev pub targets_from : List ℕ → ℕ → ℕ → List Target
targets_from x k zero = []
targets_from x k (suc n) = record { name = x; unit = k } ∷ targets_from x (suc k) n

abbrev pub whole : List SymbolTree → List ℕ → Option SymbolTree → List Target
whole ss x None = []
whole ss x (Some s) = targets_from x 0 (units_in ss s)

abbrev pub one_target : List ℕ → Option ℕ → List Target
one_target x None = []
one_target x (Some k) = record { name = x; unit = k } ∷ []

abbrev pub one_element : List SymbolTree → List ℕ → Option SymbolTree → ExprTrees → List Target
one_element ss x None es = []
one_element ss x (Some s) es = one_target x (element_number ss s es)

-- the units that an item of DATA stands for: all of a variable, where an array's elements are in their order, or one element (§9.1, §9.2)
abbrev pub targets_in : List SymbolTree → ExprTree → List Target
targets_in ss (tree.name x) = whole ss x (symbol_named ss x)
targets_in ss (tree.element x es) = one_element ss x (symbol_named ss x) es
targets_in ss (tree.int n) = []
targets_in ss (tree.log b) = []
targets_in ss (tree.paren e) = []
targets_in ss (tree.unary o e) = []
targets_in ss (tree.binary o a b) = []
targets_in ss (tree.chars x) = []

abbrev pub targets : List SymbolTree → List ExprTree → List Target
targets ss is = flat_map (targets_in ss) is

abbrev pub repeated : ℕ → ExprTree → List ExprTree
repeated zero e = []
repeated (suc n) e = e ∷ repeated n e

abbrev pub times : Option ℕ → ℕ
times None = 1
times (Some n) = n

-- the constants of DATA with their repeat counts written out (§9.1)
abbrev pub written_out : List DataValueTree → List ExprTree
written_out vs = flat_map (λ v. repeated (times v.repeat) v.value) vs

abbrev pub value_at : Option SymbolTree → ℕ → Option ℤ
value_at None k = None
value_at (Some s) k = value_from 0 s.initial k

-- the value that a unit of a variable has at the start, by the table; undefined where there is none
abbrev pub begins_with : List SymbolTree → Target → Option ℤ
begins_with ss t = value_at (symbol_named ss t.name) t.unit

-- a unit begins with a constant; true is 1 and false is 0
abbrev pub BeginsWith : List SymbolTree → Target → ExprTree → Type 0
BeginsWith ss t e = (c : Constant) × (const_value (λ x. None) e ≡ Is c) × (begins_with ss t ≡ Some (number_of c))

-- units and constants go one with one, and there are as many of both (§9.2)
abbrev pub FillInOrder : List SymbolTree → List Target → List ExprTree → Type 0
FillInOrder ss [] [] = Unit {0}
FillInOrder ss [] (e ∷ es) = ⊥
FillInOrder ss (t ∷ ts) [] = ⊥
FillInOrder ss (t ∷ ts) (e ∷ es) = BeginsWith ss t e × FillInOrder ss ts es

abbrev pub GivesItsValues : List SymbolTree → DataTree → Type 0
GivesItsValues ss g = FillInOrder ss (targets ss g.targets) (written_out g.values)
