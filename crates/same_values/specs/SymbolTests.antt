-- Whether two tables of symbols are the same, field by field.
use Rattle.std.specs.Prelude.{ℕ, Bool, true, false, ◌&&◌, nat_eq, bytes_eq, Option, Some, None}
use Rattle.std.specs.Ordering.{int_eq}
use Rattle.std.specs.Cmp.Lexicographic.{pointwise}
use Rattle.f77_ast.specs.declared.decl.Scalar.{Scalar}
use Rattle.f77_ast.specs.declared.decl.Scalar.TheVariants as scalar
use Rattle.f77_ast.specs.Trees.{ExprTree}
use Rattle.f77_ast.specs.declared.symbol.Place.{Place}
use Rattle.f77_ast.specs.declared.symbol.Place.TheVariants.{Local, Dummy, Block, Constant}
use Rattle.f77_ast.specs.declared.symbol.InitialRun.{InitialRun}
use Rattle.f77_ast.specs.Symbols.{BoundTree, SymbolTree}
use Rattle.same_values.specs.Tests.{same_bool, expr_test}

abbrev pub maybe_test : Option ExprTree → Option ExprTree → Bool
maybe_test None None = true
maybe_test None (Some b) = false
maybe_test (Some a) None = false
maybe_test (Some a) (Some b) = expr_test a b

abbrev pub bound_test : BoundTree → BoundTree → Bool
bound_test a b = expr_test a.low b.low && maybe_test a.high b.high

abbrev pub scalar_number : Scalar → ℕ
scalar_number scalar.Int = 0
scalar_number scalar.Log = 1

abbrev pub place_test : Place → Place → Bool
place_test (Local g o) (Local h p) = nat_eq g h && nat_eq o p
place_test (Local g o) (Dummy m) = false
place_test (Local g o) (Block y p) = false
place_test (Local g o) (Constant v) = false
place_test (Dummy n) (Local h p) = false
place_test (Dummy n) (Dummy m) = nat_eq n m
place_test (Dummy n) (Block y p) = false
place_test (Dummy n) (Constant v) = false
place_test (Block x o) (Local h p) = false
place_test (Block x o) (Dummy m) = false
place_test (Block x o) (Block y p) = bytes_eq x y && nat_eq o p
place_test (Block x o) (Constant v) = false
place_test (Constant u) (Local h p) = false
place_test (Constant u) (Dummy m) = false
place_test (Constant u) (Block y p) = false
place_test (Constant u) (Constant v) = int_eq u v

abbrev pub run_test : InitialRun → InitialRun → Bool
run_test a b = nat_eq a.offset b.offset && (nat_eq a.count b.count && int_eq a.value b.value)

abbrev pub symbol_test : SymbolTree → SymbolTree → Bool
symbol_test a b =
    bytes_eq a.name b.name && nat_eq (scalar_number a.scalar) (scalar_number b.scalar) && pointwise bound_test a.bounds b.bounds
    && place_test a.place b.place && same_bool a.saved b.saved && pointwise run_test a.initial b.initial
