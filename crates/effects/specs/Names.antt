-- The variables that names and expressions name.
use Rattle.std.specs.Prelude.{ℕ, suc, List, [], ◌∷◌, Option, Some, None, if◌then◌else◌, bytes_eq}
use Rattle.f77_ast.specs.Trees.{ExprTree}
use Rattle.f77_ast.specs.Trees as tree
use Rattle.f77_ast.specs.declared.symbol.Place.{Place}
use Rattle.f77_ast.specs.declared.symbol.Place.TheVariants.{Local, Dummy, Block, Constant}
use Rattle.f77_ast.specs.declared.variable.Variable.{Variable}
use Rattle.f77_ast.specs.declared.variable.Variable.TheVariants.{Own}
use Rattle.f77_ast.specs.Symbols.{SymbolTree}
pub use Rattle.call_graph.specs.Actuals.{symbol_with_name as symbol_of, is_array}

abbrev pub number_at : ℕ → Place → Option ℕ
number_at n (Local g o) = Some n
number_at n (Dummy m) = Some n
number_at n (Block b o) = Some n
number_at n (Constant m) = None

-- the number of a symbol that is no constant
abbrev pub variable_number : ℕ → SymbolTree → Option ℕ
variable_number n s = number_at n s.place

-- the number of the variable of a name; the first symbol has the number n
abbrev pub number_of : ℕ → List SymbolTree → List ℕ → Option ℕ
number_of n [] x = None
number_of n (s ∷ ss) x = if bytes_eq x s.name then variable_number n s else number_of (suc n) ss x

abbrev pub one : Option ℕ → List Variable
one None = []
one (Some n) = Own n ∷ []

-- the variable of a name; none of a constant, and of a name without a symbol, as that of an intrinsic function
abbrev pub own : List ℕ → List SymbolTree → List Variable
own x ss = one (number_of 1 ss x)

-- the array of a name, where it is one
abbrev pub array : List ℕ → List SymbolTree → List Variable
array x ss = if is_array (symbol_of ss x) then own x ss else []

-- the variable that an expression names: that of a name, or the array of an element
abbrev pub variable_named : ExprTree → List SymbolTree → List Variable
variable_named (tree.int n) ss = []
variable_named (tree.log b) ss = []
variable_named (tree.name x) ss = own x ss
variable_named (tree.element x es) ss = array x ss
variable_named (tree.paren e) ss = []
variable_named (tree.unary o e) ss = []
variable_named (tree.binary o a b) ss = []
variable_named (tree.chars x) ss = []
