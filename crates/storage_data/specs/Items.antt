-- Items of EQUIVALENCE and DATA: names and elements with constant subscripts (ANSI X3.9-1978 §8.2.3, §9.2).
use Rattle.std.specs.Prelude.{ℕ, Bool, true, false, ℤ, List, [], ◌∷◌, Option, Some, None}
use Rattle.f77_ast.specs.Trees.{ExprTree, ExprTrees}
use Rattle.f77_ast.specs.Trees as tree
use Rattle.f77_ast.specs.Places.{Dim, position}
use Rattle.f77_ast.specs.declared.constant.Constant.TheVariants.{Int, Log}
use Rattle.f77_ast.specs.declared.constant.ConstantValue.{ConstantValue}
use Rattle.f77_ast.specs.declared.constant.ConstantValue.TheVariants.{Is, Faults, Varies}
use Rattle.fx_lists.specs.declared.code.Code.TheVariants.{NotAnArray}
use Rattle.fx_lists.specs.declared.refusal.Refusal.{Refusal}
use Rattle.fx_lists.specs.Refusals.{refuse_if}
use Rattle.f77_names.specs.Entries.{EntryTree, find, has_shape}
use Rattle.f77_names.specs.Tables.{NameTable}
use Rattle.f77_checks.specs.Expressions.{check_expr, check_subscripts}
use Rattle.f77_checks.specs.Dimensions.{dims_in, const_value_in}

abbrev pub item_name : ExprTree → Option (List ℕ)
item_name (tree.name x) = Some x
item_name (tree.element x es) = Some x
item_name (tree.int n) = None
item_name (tree.log b) = None
item_name (tree.paren e) = None
item_name (tree.unary o e) = None
item_name (tree.binary o a b) = None
item_name (tree.chars x) = None

-- ---- what is asked of subscripts

abbrev pub element_fault : Bool → NameTable → List ℕ → ExprTrees → ℕ → Option Refusal
element_fault true t x es line = check_expr t (tree.element x es) line None
element_fault false t x es line = refuse_if true line NotAnArray (check_subscripts t es line None)

-- the first refusal of an item alone; an array may stand whole
abbrev pub item_fault : NameTable → ExprTree → ℕ → Option Refusal
item_fault t (tree.element x es) line = element_fault (has_shape x t.entries) t x es line
item_fault t (tree.name x) line = None
item_fault t (tree.int n) line = None
item_fault t (tree.log b) line = None
item_fault t (tree.paren e) line = None
item_fault t (tree.unary o e) line = None
item_fault t (tree.binary o a b) line = None
item_fault t (tree.chars x) line = None

-- the first of two refusals
abbrev pub both : Option Refusal → Option Refusal → Option Refusal
both None found = found
both (Some r) found = refuse_if true r.line r.code found

-- the first refusal, also of these items
abbrev pub check_items : NameTable → List ExprTree → ℕ → Option Refusal → Option Refusal
check_items t [] line found = found
check_items t (i ∷ is) line found = check_items t is line (both (item_fault t i line) found)

-- ---- positions

abbrev pub with_number : ConstantValue → Option (List ℤ) → Option (List ℤ)
with_number w None = None
with_number (Is (Int n)) (Some ns) = Some (n ∷ ns)
with_number (Is (Log b)) (Some ns) = None
with_number Faults (Some ns) = None
with_number Varies (Some ns) = None

-- the numbers of constant subscripts
abbrev pub numbers_of : NameTable → ExprTrees → Option (List ℤ)
numbers_of t tree.no_exprs = Some []
numbers_of t (tree.more_exprs e es) = with_number (const_value_in t e) (numbers_of t es)

abbrev pub position_at : Option (List Dim) → Option (List ℤ) → Option ℕ
position_at None ns = None
position_at (Some ds) None = None
position_at (Some ds) (Some ns) = position ds ns

abbrev pub element_position : NameTable → Option EntryTree → ExprTrees → Option ℕ
element_position t None es = None
element_position t (Some e) es = position_at (dims_in t e) (numbers_of t es)

-- the unit of an item in its variable, from 0; none where a subscript is not constant, faults or is out of bounds
abbrev pub item_position : NameTable → ExprTree → Option ℕ
item_position t (tree.name x) = Some 0
item_position t (tree.element x es) = element_position t (find x t.entries) es
item_position t (tree.int n) = None
item_position t (tree.log b) = None
item_position t (tree.paren e) = None
item_position t (tree.unary o e) = None
item_position t (tree.binary o a b) = None
item_position t (tree.chars x) = None
