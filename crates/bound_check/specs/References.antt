-- The array elements that statements refer to (ANSI X3.9-1978 §5.4), in the order in which they are evaluated.
use Rattle.std.specs.Prelude.{ℕ, Bool, if◌then◌else◌, List, [], ◌∷◌, ◌++◌, Option, Some, None}
use Rattle.f77_ast.specs.Trees.{ExprTree, ExprTrees}
use Rattle.f77_ast.specs.Trees as tree
use Rattle.f77_ast.specs.Symbols.{SymbolTree, BoundTree, number_from}
use Rattle.f77_ast.specs.Shared.{symbol_at}
use Rattle.tracked_cells.specs.Standing.{has_bounds}
use Rattle.preconditions.specs.call_translation.Scopes.{ScopeTree}

-- ---- elements in expressions

abbrev pub bounds_in : Option SymbolTree → List BoundTree
bounds_in None = []
bounds_in (Some s) = s.bounds

abbrev pub bounds_at : List SymbolTree → Option ℕ → List BoundTree
bounds_at ss None = []
bounds_at ss (Some n) = bounds_in (symbol_at ss n)

-- the bounds of the array of a name; none of other names, as of intrinsic functions
abbrev pub bounds_of : ScopeTree → List ℕ → List BoundTree
bounds_of m x = bounds_at m.symbols (number_from 1 m.names x)

abbrev pub is_array : ScopeTree → List ℕ → Bool
is_array m x = has_bounds (bounds_of m x)

-- itself, where it is an element of an array
abbrev pub element : ScopeTree → List ℕ → ExprTrees → List ExprTree
element m x es = if is_array m x then tree.element x es ∷ [] else []

abbrev mutual
  -- the elements in an expression: those of the subscripts of an element come before it
  pub elements : ExprTree → ScopeTree → List ExprTree
  elements (tree.int n) m = []
  elements (tree.log b) m = []
  elements (tree.name x) m = []
  elements (tree.element x es) m = all_elements es m ++ element m x es
  elements (tree.paren e) m = elements e m
  elements (tree.unary o e) m = elements e m
  elements (tree.binary o a b) m = elements a m ++ elements b m
  elements (tree.chars t) m = []

  pub all_elements : ExprTrees → ScopeTree → List ExprTree
  all_elements tree.no_exprs m = []
  all_elements (tree.more_exprs e es) m = elements e m ++ all_elements es m
