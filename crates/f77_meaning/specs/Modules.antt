-- A module with its symbols as runs see it: what its names stand for, and where its variables lie.
use Rattle.std.specs.Prelude.{ℕ, zero, suc, ◌+◌, ℤ, pos, Bool, not, ◌&&◌, nat_le, nat_lt, List, [], ◌∷◌, ◌++◌, map, Option, Some, None, is_some, if◌then◌else◌}
use Rattle.f77_ast.specs.declared.decl.Scalar.{Scalar}
use Rattle.f77_ast.specs.declared.decl.Scalar.TheVariants as scalar
use Rattle.f77_ast.specs.Trees.{ExprTree}
use Rattle.f77_ast.specs.DeclTrees.{ModuleTree, ParsedTree}
use Rattle.f77_ast.specs.Store.{Tag, content}
use Rattle.f77_ast.specs.Store as tag
use Rattle.f77_ast.specs.Numbers.{intrinsic_named}
use Rattle.f77_ast.specs.Places.{Meant, Constant, Variable, Function, Names, Dim, Places}
use Rattle.f77_ast.specs.Places as places
use Rattle.f77_ast.specs.Calls.{Dummy, nowhere}
use Rattle.f77_ast.specs.Calls as calls
use Rattle.f77_ast.specs.declared.constant.Constant.TheVariants as constant
use Rattle.f77_ast.specs.declared.constant.ConstantValue.{ConstantValue}
use Rattle.f77_ast.specs.declared.constant.ConstantValue.TheVariants.{Is, Faults, Varies}
use Rattle.f77_ast.specs.Constants.{const_value}
use Rattle.f77_ast.specs.declared.symbol.Place.{Place}
use Rattle.f77_ast.specs.declared.symbol.Place.TheVariants as place
use Rattle.f77_ast.specs.declared.symbol.InitialRun.{InitialRun}
use Rattle.f77_ast.specs.Symbols.{BoundTree, SymbolTree, number_from, value_in}
use Rattle.f77_ast.specs.Units.{units_in}
use Rattle.f77_ast.specs.Shared.{symbol_at}
use Rattle.tracked_cells.specs.Standing.{has_bounds}
use Rattle.f77_meaning.specs.Areas.{block, group, Numbering, unit_at}

-- a module that was read, and its symbols
pub record Known : Type 0 where
  pub read : ModuleTree
  pub symbols : List SymbolTree

-- modules with their tables
abbrev pub known_of : List ParsedTree → List (List SymbolTree) → List Known
known_of [] sss = []
known_of (p ∷ ps) [] = []
known_of (p ∷ ps) (ss ∷ sss) = record { read = p.module_read; symbols = ss } ∷ known_of ps sss

-- ---- names

abbrev pub tag_of : Scalar → Tag
tag_of scalar.Int = tag.Int
tag_of scalar.Log = tag.Log

abbrev pub meant_by : Scalar → ℕ → Place → Meant
meant_by t n (place.Local g o) = Variable n
meant_by t n (place.Dummy k) = Variable n
meant_by t n (place.Block b o) = Variable n
meant_by t n (place.Constant v) = Constant (content (tag_of t) v)

-- an intrinsic function, unless an array has its name (ANSI X3.9-1978 §15.10)
abbrev pub is_function : SymbolTree → Bool
is_function s = not (has_bounds s.bounds) && is_some (intrinsic_named s.name)

abbrev pub meant_at : ℕ → Option SymbolTree → Meant
meant_at n None = Function
meant_at n (Some s) = if is_function s then Function else meant_by s.scalar n s.place

abbrev pub meant_in : List SymbolTree → Option ℕ → Meant
meant_in ss None = Function
meant_in ss (Some n) = meant_at n (symbol_at ss n)

abbrev pub symbol_names : List SymbolTree → List (List ℕ)
symbol_names ss = map (λ s. s.name) ss

-- a name that no symbol has is that of an intrinsic function
abbrev pub names : List SymbolTree → Names
names ss x = meant_in ss (number_from 1 (symbol_names ss) x)

-- ---- variables that are no dummies

abbrev pub as_number : ConstantValue → ℤ
as_number (Is (constant.Int n)) = n
as_number (Is (constant.Log b)) = pos 0
as_number Faults = pos 0
as_number Varies = pos 0

abbrev pub constant_high : List SymbolTree → Option ExprTree → Option ℤ
constant_high ss None = None
constant_high ss (Some e) = Some (as_number (const_value (value_in ss) e))

-- bounds that are constant
abbrev pub dim_of : List SymbolTree → BoundTree → Dim
dim_of ss b = record { low = as_number (const_value (value_in ss) b.low); high = constant_high ss b.high }

abbrev pub laid_at : ℕ → List SymbolTree → SymbolTree → places.Place
laid_at first ss s = record { first = first; extent = units_in ss s; tag = tag_of s.scalar; dims = map (dim_of ss) s.bounds }

-- dummies are bound by each call, and constants have no unit
abbrev pub fixed_place : Numbering → List ℕ → List SymbolTree → SymbolTree → Place → places.Place
fixed_place g m ss s (place.Local n o) = laid_at (unit_at g (group m n) o) ss s
fixed_place g m ss s (place.Dummy k) = nowhere
fixed_place g m ss s (place.Block b o) = laid_at (unit_at g (block b) o) ss s
fixed_place g m ss s (place.Constant v) = nowhere

abbrev pub fixed_maybe : Numbering → List ℕ → List SymbolTree → Option SymbolTree → places.Place
fixed_maybe g m ss None = nowhere
fixed_maybe g m ss (Some s) = fixed_place g m ss s s.place

abbrev pub fixed : Numbering → Known → Places
fixed g k n = fixed_maybe g k.read.name k.symbols (symbol_at k.symbols n)

-- ---- dummies

abbrev pub bound_of : BoundTree → calls.BoundTree
bound_of b = record { low = b.low; high = b.high }

abbrev pub as_dummy : ℕ → SymbolTree → Place → List Dummy
as_dummy n s (place.Dummy k) = record { symbol = n; tag = tag_of s.scalar; bounds = map bound_of s.bounds } ∷ []
as_dummy n s (place.Local g o) = []
as_dummy n s (place.Block b o) = []
as_dummy n s (place.Constant v) = []

-- the dummies, from the symbol with the number n on; they come first, in their order
abbrev pub dummies_from : ℕ → List SymbolTree → List Dummy
dummies_from n [] = []
dummies_from n (s ∷ ss) = as_dummy n s s.place ++ dummies_from (suc n) ss

-- ---- locals that are not saved

abbrev pub units_from : ℕ → ℕ → List ℕ
units_from u zero = []
units_from u (suc n) = u ∷ units_from (suc u) n

abbrev pub lost_units : Numbering → List ℕ → List SymbolTree → SymbolTree → Place → List ℕ
lost_units g m ss s (place.Local n o) = if s.saved then [] else units_from (unit_at g (group m n) o) (units_in ss s)
lost_units g m ss s (place.Dummy k) = []
lost_units g m ss s (place.Block b o) = []
lost_units g m ss s (place.Constant v) = []

-- the units of the locals that are not saved, of these symbols of the module
abbrev pub all_lost : Numbering → List ℕ → List SymbolTree → List SymbolTree → List ℕ
all_lost g m ss [] = []
all_lost g m ss (s ∷ others) = lost_units g m ss s s.place ++ all_lost g m ss others

-- ---- DATA (§9)

-- the value with which a unit begins, where one of these runs of a variable gives it one
abbrev pub value_from : ℕ → List InitialRun → ℕ → Option ℤ
value_from first [] u = None
value_from first (r ∷ rs) u =
    if nat_le (first + r.offset) u && nat_lt u (first + r.offset + r.count) then Some r.value else value_from first rs u
