-- What the tests of expressions decide.
use Rattle.std.proofs.Common.{◌≡◌, ◌≤◌, ℕ, suc, drop, length, arith, Bool, true, false, ◌&&◌, List, [], ◌∷◌, get_or, refl, sym, ap, ◌∙◌, subst}
use Rattle.std.specs.Prelude.{nat_eq, bytes_eq}
use Rattle.std.specs.Cmp.{signed_Decides}
use Rattle.std.specs.Cmp.Lexicographic.{bytes_decides}
use Rattle.std.proofs.lemmas.Bool.{eqb-true, eq-eqb, ne_eqb, and_parts, and_from}
use Rattle.std.proofs.lemmas.List.{drop_all}
use Rattle.f77_ast.specs.declared.expr.UnaryOp.{UnaryOp}
use Rattle.f77_ast.specs.declared.expr.UnaryOp.TheVariants.{Plus, Minus, Not}
use Rattle.f77_ast.specs.declared.expr.BinaryOp.{BinaryOp}
use Rattle.f77_ast.specs.declared.expr.BinaryOp.TheVariants.{Add, Sub, Mul, Div, Pow, Eq, Ne, Lt, Le, Gt, Ge, And, Or, Eqv, Neqv}
use Rattle.f77_ast.specs.declared.expr.Expr.{Expr}
use Rattle.f77_ast.specs.Plain.{expr_trees}
use Rattle.f77_ast.specs.Trees.{ExprTree, int, log, name, element, paren, unary, binary, chars, ExprTrees, no_exprs, more_exprs}
use Rattle.same_values.specs.Tests.{same_bool, unary_number, binary_number, expr_test, exprs_test}

pub same_bool-true : (a b : Bool) → same_bool a b ≡ true → a ≡ b
same_bool-true true true e = refl
same_bool-true true false e = cc
same_bool-true false true e = cc
same_bool-true false false e = refl

pub same_bool_self : (b : Bool) → same_bool b b ≡ true
same_bool_self true = refl
same_bool_self false = refl

abbrev unary_at : ℕ → UnaryOp
unary_at n = get_or (Plus ∷ Minus ∷ Not ∷ []) n Plus

unary_at-number : (op : UnaryOp) → unary_at (unary_number op) ≡ op
unary_at-number Plus = refl
unary_at-number Minus = refl
unary_at-number Not = refl

unary-true : (a b : UnaryOp) → nat_eq (unary_number a) (unary_number b) ≡ true → a ≡ b
unary-true a b e = sym (unary_at-number a) ∙ ap unary_at (eqb-true (unary_number a) (unary_number b) e) ∙ unary_at-number b

abbrev binary_at : ℕ → BinaryOp
binary_at n = get_or (Add ∷ Sub ∷ Mul ∷ Div ∷ Pow ∷ Eq ∷ Ne ∷ Lt ∷ Le ∷ Gt ∷ Ge ∷ And ∷ Or ∷ Eqv ∷ Neqv ∷ []) n Add

binary_at-number : (op : BinaryOp) → binary_at (binary_number op) ≡ op
binary_at-number Add = refl
binary_at-number Sub = refl
binary_at-number Mul = refl
binary_at-number Div = refl
binary_at-number Pow = refl
binary_at-number Eq = refl
binary_at-number Ne = refl
binary_at-number Lt = refl
binary_at-number Le = refl
binary_at-number Gt = refl
binary_at-number Ge = refl
binary_at-number And = refl
binary_at-number Or = refl
binary_at-number Eqv = refl
binary_at-number Neqv = refl

binary-true : (a b : BinaryOp) → nat_eq (binary_number a) (binary_number b) ≡ true → a ≡ b
binary-true a b e = sym (binary_at-number a) ∙ ap binary_at (eqb-true (binary_number a) (binary_number b) e) ∙ binary_at-number b

-- ---- where the test holds, the expressions are one

mutual
  expr_test-true : (a b : ExprTree) → expr_test a b ≡ true → a ≡ b
  expr_test-true (int n) (int m) e = ap int ((signed_Decides n m).0 e)
  expr_test-true (int n) (log u0) e = cc
  expr_test-true (int n) (name u0) e = cc
  expr_test-true (int n) (element u0 u1) e = cc
  expr_test-true (int n) (paren u0) e = cc
  expr_test-true (int n) (unary u0 u1) e = cc
  expr_test-true (int n) (binary u0 u1 u2) e = cc
  expr_test-true (int n) (chars u0) e = cc
  expr_test-true (log b) (int u0) e = cc
  expr_test-true (log b) (log c) e = ap log (same_bool-true b c e)
  expr_test-true (log b) (name u0) e = cc
  expr_test-true (log b) (element u0 u1) e = cc
  expr_test-true (log b) (paren u0) e = cc
  expr_test-true (log b) (unary u0 u1) e = cc
  expr_test-true (log b) (binary u0 u1 u2) e = cc
  expr_test-true (log b) (chars u0) e = cc
  expr_test-true (name x) (int u0) e = cc
  expr_test-true (name x) (log u0) e = cc
  expr_test-true (name x) (name y) e = ap name ((bytes_decides x y).0 e)
  expr_test-true (name x) (element u0 u1) e = cc
  expr_test-true (name x) (paren u0) e = cc
  expr_test-true (name x) (unary u0 u1) e = cc
  expr_test-true (name x) (binary u0 u1 u2) e = cc
  expr_test-true (name x) (chars u0) e = cc
  expr_test-true (element x es) (int u0) e = cc
  expr_test-true (element x es) (log u0) e = cc
  expr_test-true (element x es) (name u0) e = cc
  expr_test-true (element x es) (element y ds) e = let h = and_parts (bytes_eq x y) (exprs_test es ds) e in ap (λ z. element z es) ((bytes_decides x y).0 h.0) ∙ ap (element y) (exprs_test-true es ds h.1)
  expr_test-true (element x es) (paren u0) e = cc
  expr_test-true (element x es) (unary u0 u1) e = cc
  expr_test-true (element x es) (binary u0 u1 u2) e = cc
  expr_test-true (element x es) (chars u0) e = cc
  expr_test-true (paren a) (int u0) e = cc
  expr_test-true (paren a) (log u0) e = cc
  expr_test-true (paren a) (name u0) e = cc
  expr_test-true (paren a) (element u0 u1) e = cc
  expr_test-true (paren a) (paren b) e = ap paren (expr_test-true a b e)
  expr_test-true (paren a) (unary u0 u1) e = cc
  expr_test-true (paren a) (binary u0 u1 u2) e = cc
  expr_test-true (paren a) (chars u0) e = cc
  expr_test-true (unary op a) (int u0) e = cc
  expr_test-true (unary op a) (log u0) e = cc
  expr_test-true (unary op a) (name u0) e = cc
  expr_test-true (unary op a) (element u0 u1) e = cc
  expr_test-true (unary op a) (paren u0) e = cc
  expr_test-true (unary op a) (unary oq b) e = let h = and_parts (nat_eq (unary_number op) (unary_number oq)) (expr_test a b) e in ap (λ z. unary z a) (unary-true op oq h.0) ∙ ap (unary oq) (expr_test-true a b h.1)
  expr_test-true (unary op a) (binary u0 u1 u2) e = cc
  expr_test-true (unary op a) (chars u0) e = cc
  expr_test-true (binary op a b) (int u0) e = cc
  expr_test-true (binary op a b) (log u0) e = cc
  expr_test-true (binary op a b) (name u0) e = cc
  expr_test-true (binary op a b) (element u0 u1) e = cc
  expr_test-true (binary op a b) (paren u0) e = cc
  expr_test-true (binary op a b) (unary u0 u1) e = cc
  expr_test-true (binary op a c) (binary oq b d) e =
      let h = and_parts (nat_eq (binary_number op) (binary_number oq) && expr_test a b) (expr_test c d) e in
      let k = and_parts (nat_eq (binary_number op) (binary_number oq)) (expr_test a b) h.0 in
      ap (λ z. binary z a c) (binary-true op oq k.0) ∙ ap (λ z. binary oq z c) (expr_test-true a b k.1) ∙ ap (binary oq b) (expr_test-true c d h.1)
  expr_test-true (binary op a b) (chars u0) e = cc
  expr_test-true (chars x) (int u0) e = cc
  expr_test-true (chars x) (log u0) e = cc
  expr_test-true (chars x) (name u0) e = cc
  expr_test-true (chars x) (element u0 u1) e = cc
  expr_test-true (chars x) (paren u0) e = cc
  expr_test-true (chars x) (unary u0 u1) e = cc
  expr_test-true (chars x) (binary u0 u1 u2) e = cc
  expr_test-true (chars x) (chars y) e = ap chars ((bytes_decides x y).0 e)

  exprs_test-true : (es ds : ExprTrees) → exprs_test es ds ≡ true → es ≡ ds
  exprs_test-true no_exprs no_exprs e = refl
  exprs_test-true no_exprs (more_exprs b bs) e = cc
  exprs_test-true (more_exprs a rest) no_exprs e = cc
  exprs_test-true (more_exprs a rest) (more_exprs b bs) e =
      let h = and_parts (expr_test a b) (exprs_test rest bs) e in
      ap (λ z. more_exprs z rest) (expr_test-true a b h.0) ∙ ap (more_exprs b) (exprs_test-true rest bs h.1)

mutual
  expr_test_self : (a : ExprTree) → expr_test a a ≡ true
  expr_test_self (int n) = (signed_Decides n n).1 refl
  expr_test_self (log b) = same_bool_self b
  expr_test_self (name x) = (bytes_decides x x).1 refl
  expr_test_self (element x es) = and_from (bytes_eq x x) (exprs_test es es) ((bytes_decides x x).1 refl) (exprs_test_self es)
  expr_test_self (paren a) = expr_test_self a
  expr_test_self (unary op a) = and_from (nat_eq (unary_number op) (unary_number op)) (expr_test a a) (eq-eqb (unary_number op) (unary_number op) refl) (expr_test_self a)
  expr_test_self (binary op a b) =
      and_from (nat_eq (binary_number op) (binary_number op) && expr_test a a) (expr_test b b)
      (and_from (nat_eq (binary_number op) (binary_number op)) (expr_test a a) (eq-eqb (binary_number op) (binary_number op) refl) (expr_test_self a)) (expr_test_self b)
  expr_test_self (chars x) = (bytes_decides x x).1 refl

  exprs_test_self : (es : ExprTrees) → exprs_test es es ≡ true
  exprs_test_self no_exprs = refl
  exprs_test_self (more_exprs a rest) = and_from (expr_test a a) (exprs_test rest rest) (expr_test_self a) (exprs_test_self rest)

-- ---- the tests decide whether expressions are one

pub expr_decides : (a b : ExprTree) → (expr_test a b ≡ true → a ≡ b) × (a ≡ b → expr_test a b ≡ true)
expr_decides a b = (expr_test-true a b, λ e. subst (λ c. expr_test a c ≡ true) e (expr_test_self a))

pub exprs_decides : (es ds : ExprTrees) → (exprs_test es ds ≡ true → es ≡ ds) × (es ≡ ds → exprs_test es ds ≡ true)
exprs_decides es ds = (exprs_test-true es ds, λ e. subst (λ c. exprs_test es c ≡ true) e (exprs_test_self es))

-- where the first list has ended
exprs_none : (ds : List Expr) → exprs_test no_exprs (expr_trees ds) ≡ nat_eq (length ds) 0
exprs_none [] = refl
exprs_none (d ∷ ds) = sym (ne_eqb (suc (length ds)) 0 (λ e. omega (arith, e)))

pub exprs_over : (xs ds right : List Expr) (i : ℕ) → length xs ≤ i → exprs_test (expr_trees (drop i xs)) (expr_trees right) ≡ exprs_test (expr_trees xs) (expr_trees ds) → nat_eq (length right) 0 ≡ exprs_test (expr_trees xs) (expr_trees ds)
exprs_over xs ds right i h e = sym (exprs_none right) ∙ sym (ap (λ z. exprs_test (expr_trees z) (expr_trees right)) (drop_all i xs h)) ∙ e
