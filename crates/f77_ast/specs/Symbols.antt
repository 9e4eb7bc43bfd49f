-- Symbols as plain data, and their constants.
use Rattle.std.specs.Prelude.{ℕ, suc, ℤ, List, [], ◌∷◌, map, Option, Some, None, Bool, if◌then◌else◌, bytes_eq}
use Rattle.f77_ast.specs.declared.decl.Scalar.{Scalar}
use Rattle.f77_ast.specs.declared.decl.Scalar.TheVariants as scalar
use Rattle.f77_ast.specs.Trees.{ExprTree}
use Rattle.f77_ast.specs.Plain.{expr_tree}
use Rattle.f77_ast.specs.PlainStmt.{maybe_tree}
use Rattle.f77_ast.specs.Numbers.{in_range, is_true}
use Rattle.f77_ast.specs.declared.constant.Constant.{Constant}
use Rattle.f77_ast.specs.declared.constant.Constant.TheVariants as constant
use Rattle.f77_ast.specs.declared.symbol.Bound.{Bound}
use Rattle.f77_ast.specs.declared.symbol.Symbol.{Symbol}
use Rattle.f77_ast.specs.declared.symbol.Place.{Place}
use Rattle.f77_ast.specs.declared.symbol.Place.TheVariants.{Local, Dummy, Block, Constant as Value}
use Rattle.f77_ast.specs.declared.symbol.InitialRun.{InitialRun}

-- a dimension; without `high` stands `*`
pub record BoundTree : Type 0 where
  pub low : ExprTree
  pub high : Option ExprTree

-- a name with its type, its bounds, its place, whether it keeps its value, and the values that its units begin with
pub record SymbolTree : Type 0 where
  pub name : List ℕ
  pub scalar : Scalar
  pub bounds : List BoundTree
  pub place : Place
  pub saved : Bool
  pub initial : List InitialRun

abbrev pub bound_tree : Bound → BoundTree
bound_tree b = record { low = expr_tree b.low; high = maybe_tree b.high }

abbrev pub symbol_tree : Symbol → SymbolTree
symbol_tree s = record {
  name = s.name;
  scalar = s.scalar;
  bounds = map bound_tree s.bounds;
  place = s.place;
  saved = s.saved;
  initial = s.initial;
}

-- the number of a name, where the first of the names has the number n
abbrev pub number_from : ℕ → List (List ℕ) → List ℕ → Option ℕ
number_from n [] x = None
number_from n (y ∷ ys) x = if bytes_eq x y then Some n else number_from (suc n) ys x

-- a value of this type
abbrev pub constant_of : Scalar → ℤ → Option Constant
constant_of scalar.Int n = if in_range n then Some (constant.Int n) else None
constant_of scalar.Log n = Some (constant.Log (is_true n))

abbrev pub constant_in : Scalar → Place → Option Constant
constant_in t (Local g o) = None
constant_in t (Dummy n) = None
constant_in t (Block b o) = None
constant_in t (Value n) = constant_of t n

abbrev pub constant_at : SymbolTree → Option Constant
constant_at s = constant_in s.scalar s.place

-- the constant of a name, that of its first symbol
abbrev pub value_in : List SymbolTree → List ℕ → Option Constant
value_in [] x = None
value_in (s ∷ ss) x = if bytes_eq x s.name then constant_at s else value_in ss x
