-- What the tests of symbols decide.
use Rattle.std.proofs.Common.{◌≡◌, ◌<◌, ℕ, suc, ℤ, Bool, true, ◌&&◌, List, [], ◌∷◌, map, length, Option, Some, None, refl, sym, ap, ◌∙◌, subst, arith}
use Rattle.std.specs.Prelude.{nat_eq, bytes_eq}
use Rattle.std.specs.Ordering.{int_eq}
use Rattle.std.specs.Cmp.{signed_Decides}
use Rattle.std.specs.Cmp.Lexicographic.{pointwise, pointwise_decides, bytes_decides}
use Rattle.std.proofs.lemmas.Bool.{eqb-true, eq-eqb, ne_eqb, and_parts, and_from}
use Rattle.f77_ast.specs.declared.decl.Scalar.{Scalar}
use Rattle.f77_ast.specs.declared.decl.Scalar.TheVariants as scalar
use Rattle.f77_ast.specs.Trees.{ExprTree}
use Rattle.f77_ast.specs.declared.symbol.Place.{Place}
use Rattle.f77_ast.specs.declared.symbol.Place.TheVariants.{Local, Dummy, Block, Constant}
use Rattle.f77_ast.specs.declared.symbol.InitialRun.{InitialRun}
use Rattle.f77_ast.specs.declared.symbol.Bound.{Bound}
use Rattle.f77_ast.specs.declared.symbol.Symbol.{Symbol}
use Rattle.f77_ast.specs.Symbols.{BoundTree, SymbolTree, bound_tree, symbol_tree}
use Rattle.same_values.specs.Tests.{same_bool, expr_test}
use Rattle.same_values.specs.SymbolTests.{maybe_test, bound_test, scalar_number, place_test, run_test, symbol_test}
use Rattle.same_values.proofs.TestLaws.{same_bool-true, same_bool_self, expr_decides}
use Rattle.same_values.proofs.DeclLaws.{scalar-true}
use Rattle.same_values.proofs.StmtLaws.{maybe-true, maybe_self}
use Rattle.fx_lists.proofs.Numbers.{same_number}
use Rattle.fx_lists.proofs.Texts.{same_name}

place-true : (a b : Place) → place_test a b ≡ true → a ≡ b
place-true (Local g o) (Local h p) e = let q = and_parts (nat_eq g h) (nat_eq o p) e in ap (λ z. Local z o) (eqb-true g h q.0) ∙ ap (Local h) (eqb-true o p q.1)
place-true (Local g o) (Dummy m) e = cc
place-true (Local g o) (Block y p) e = cc
place-true (Local g o) (Constant v) e = cc
place-true (Dummy n) (Local h p) e = cc
place-true (Dummy n) (Dummy m) e = ap Dummy (eqb-true n m e)
place-true (Dummy n) (Block y p) e = cc
place-true (Dummy n) (Constant v) e = cc
place-true (Block x o) (Local h p) e = cc
place-true (Block x o) (Dummy m) e = cc
place-true (Block x o) (Block y p) e = let q = and_parts (bytes_eq x y) (nat_eq o p) e in ap (λ z. Block z o) ((bytes_decides x y).0 q.0) ∙ ap (Block y) (eqb-true o p q.1)
place-true (Block x o) (Constant v) e = cc
place-true (Constant u) (Local h p) e = cc
place-true (Constant u) (Dummy m) e = cc
place-true (Constant u) (Block y p) e = cc
place-true (Constant u) (Constant v) e = ap Constant ((signed_Decides u v).0 e)

place_self : (a : Place) → place_test a a ≡ true
place_self (Local g o) = and_from (nat_eq g g) (nat_eq o o) (same_number g) (same_number o)
place_self (Dummy n) = same_number n
place_self (Block x o) = and_from (bytes_eq x x) (nat_eq o o) (same_name x) (same_number o)
place_self (Constant u) = (signed_Decides u u).1 refl

bound-true : (a b : BoundTree) → bound_test a b ≡ true → a ≡ b
bound-true a b e =
    let p1 = and_parts (expr_test a.low b.low) (maybe_test a.high b.high) e in
    let mk : ExprTree → Option ExprTree → BoundTree = λ x0 x1. record { low = x0; high = x1 } in
    ap (λ x. mk x a.high) ((expr_decides a.low b.low).0 p1.0)
    ∙ ap (λ x. mk b.low x) (maybe-true a.high b.high p1.1)

bound_self : (a : BoundTree) → bound_test a a ≡ true
bound_self a = and_from (expr_test a.low a.low) (maybe_test a.high a.high) ((expr_decides a.low a.low).1 refl) (maybe_self a.high)

pub bound_decides : (a b : BoundTree) → (bound_test a b ≡ true → a ≡ b) × (a ≡ b → bound_test a b ≡ true)
bound_decides a b = (bound-true a b, λ e. subst (λ c. bound_test a c ≡ true) e (bound_self a))

run-true : (a b : InitialRun) → run_test a b ≡ true → a ≡ b
run-true a b e =
    let p0 = and_parts (nat_eq a.offset b.offset) (nat_eq a.count b.count && (int_eq a.value b.value)) e in
    let p1 = and_parts (nat_eq a.count b.count) (int_eq a.value b.value) p0.1 in
    let mk : ℕ → ℕ → ℤ → InitialRun = λ x0 x1 x2. record { offset = x0; count = x1; value = x2 } in
    ap (λ x. mk x a.count a.value) (eqb-true a.offset b.offset p0.0)
    ∙ ap (λ x. mk b.offset x a.value) (eqb-true a.count b.count p1.0)
    ∙ ap (λ x. mk b.offset b.count x) ((signed_Decides a.value b.value).0 p1.1)

run_self : (a : InitialRun) → run_test a a ≡ true
run_self a = and_from (nat_eq a.offset a.offset) (nat_eq a.count a.count && (int_eq a.value a.value)) (same_number a.offset) (and_from (nat_eq a.count a.count) (int_eq a.value a.value) (same_number a.count) ((signed_Decides a.value a.value).1 refl))

pub run_decides : (a b : InitialRun) → (run_test a b ≡ true → a ≡ b) × (a ≡ b → run_test a b ≡ true)
run_decides a b = (run-true a b, λ e. subst (λ c. run_test a c ≡ true) e (run_self a))

symbol-true : (a b : SymbolTree) → symbol_test a b ≡ true → a ≡ b
symbol-true a b e =
    let p5 = and_parts (bytes_eq a.name b.name && nat_eq (scalar_number a.scalar) (scalar_number b.scalar) && pointwise bound_test a.bounds b.bounds && place_test a.place b.place && same_bool a.saved b.saved) (pointwise run_test a.initial b.initial) e in
    let p4 = and_parts (bytes_eq a.name b.name && nat_eq (scalar_number a.scalar) (scalar_number b.scalar) && pointwise bound_test a.bounds b.bounds && place_test a.place b.place) (same_bool a.saved b.saved) p5.0 in
    let p3 = and_parts (bytes_eq a.name b.name && nat_eq (scalar_number a.scalar) (scalar_number b.scalar) && pointwise bound_test a.bounds b.bounds) (place_test a.place b.place) p4.0 in
    let p2 = and_parts (bytes_eq a.name b.name && nat_eq (scalar_number a.scalar) (scalar_number b.scalar)) (pointwise bound_test a.bounds b.bounds) p3.0 in
    let p1 = and_parts (bytes_eq a.name b.name) (nat_eq (scalar_number a.scalar) (scalar_number b.scalar)) p2.0 in
    let mk : List ℕ → Scalar → List BoundTree → Place → Bool → List InitialRun → SymbolTree = λ x0 x1 x2 x3 x4 x5. record { name = x0; scalar = x1; bounds = x2; place = x3; saved = x4; initial = x5 } in
    ap (λ x. mk x a.scalar a.bounds a.place a.saved a.initial) ((bytes_decides a.name b.name).0 p1.0)
    ∙ ap (λ x. mk b.name x a.bounds a.place a.saved a.initial) (scalar-true a.scalar b.scalar p1.1)
    ∙ ap (λ x. mk b.name b.scalar x a.place a.saved a.initial) ((pointwise_decides {E = bound_test} bound_decides a.bounds b.bounds).0 p2.1)
    ∙ ap (λ x. mk b.name b.scalar b.bounds x a.saved a.initial) (place-true a.place b.place p3.1)
    ∙ ap (λ x. mk b.name b.scalar b.bounds b.place x a.initial) (same_bool-true a.saved b.saved p4.1)
    ∙ ap (λ x. mk b.name b.scalar b.bounds b.place b.saved x) ((pointwise_decides {E = run_test} run_decides a.initial b.initial).0 p5.1)

symbol_self : (a : SymbolTree) → symbol_test a a ≡ true
symbol_self a = and_from (bytes_eq a.name a.name && nat_eq (scalar_number a.scalar) (scalar_number a.scalar) && pointwise bound_test a.bounds a.bounds && place_test a.place a.place && same_bool a.saved a.saved) (pointwise run_test a.initial a.initial) (and_from (bytes_eq a.name a.name && nat_eq (scalar_number a.scalar) (scalar_number a.scalar) && pointwise bound_test a.bounds a.bounds && place_test a.place a.place) (same_bool a.saved a.saved) (and_from (bytes_eq a.name a.name && nat_eq (scalar_number a.scalar) (scalar_number a.scalar) && pointwise bound_test a.bounds a.bounds) (place_test a.place a.place) (and_from (bytes_eq a.name a.name && nat_eq (scalar_number a.scalar) (scalar_number a.scalar)) (pointwise bound_test a.bounds a.bounds) (and_from (bytes_eq a.name a.name) (nat_eq (scalar_number a.scalar) (scalar_number a.scalar)) (same_name a.name) (same_number (scalar_number a.scalar))) ((pointwise_decides {E = bound_test} bound_decides a.bounds a.bounds).1 refl)) (place_self a.place)) (same_bool_self a.saved)) ((pointwise_decides {E = run_test} run_decides a.initial a.initial).1 refl)

pub symbol_decides : (a b : SymbolTree) → (symbol_test a b ≡ true → a ≡ b) × (a ≡ b → symbol_test a b ≡ true)
symbol_decides a b = (symbol-true a b, λ e. subst (λ c. symbol_test a c ≡ true) e (symbol_self a))

pub bounds_end : (xs ys : List Bound) → length xs < 1 → pointwise bound_test (map bound_tree xs) (map bound_tree ys) ≡ nat_eq (length ys) 0
bounds_end [] [] h = refl
bounds_end [] (y ∷ ys) h = sym (ne_eqb (suc (length ys)) 0 (λ e. omega (arith, e)))
bounds_end (x ∷ xs) ys h = absurd (omega (arith, h))

pub symbols_end : (xs ys : List Symbol) → length xs < 1 → pointwise symbol_test (map symbol_tree xs) (map symbol_tree ys) ≡ nat_eq (length ys) 0
symbols_end [] [] h = refl
symbols_end [] (y ∷ ys) h = sym (ne_eqb (suc (length ys)) 0 (λ e. omega (arith, e)))
symbols_end (x ∷ xs) ys h = absurd (omega (arith, h))

pub symbols_decide : (a b : List SymbolTree) → (pointwise symbol_test a b ≡ true → a ≡ b) × (a ≡ b → pointwise symbol_test a b ≡ true)
symbols_decide a b = pointwise_decides {E = symbol_test} symbol_decides a b
