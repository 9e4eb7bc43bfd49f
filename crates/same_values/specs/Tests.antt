-- Whether two expressions are the same, form by form.
use Rattle.std.specs.Prelude.{ℕ, ℤ, Bool, true, false, ◌&&◌, not, nat_eq, bytes_eq, List, Option, Some, None}
use Rattle.std.specs.Ordering.{int_eq}
use Rattle.f77_ast.specs.declared.expr.UnaryOp.{UnaryOp}
use Rattle.f77_ast.specs.declared.expr.UnaryOp.TheVariants.{Plus, Minus, Not}
use Rattle.f77_ast.specs.declared.expr.BinaryOp.{BinaryOp}
use Rattle.f77_ast.specs.declared.expr.BinaryOp.TheVariants.{Add, Sub, Mul, Div, Pow, Eq, Ne, Lt, Le, Gt, Ge, And, Or, Eqv, Neqv}
use Rattle.f77_ast.specs.Trees.{ExprTree, int, log, name, element, paren, unary, binary, chars, ExprTrees, no_exprs, more_exprs}

abbrev pub same_bool : Bool → Bool → Bool
same_bool true b = b
same_bool false b = not b

abbrev pub unary_number : UnaryOp → ℕ
unary_number Plus = 0
unary_number Minus = 1
unary_number Not = 2

abbrev pub binary_number : BinaryOp → ℕ
binary_number Add = 0
binary_number Sub = 1
binary_number Mul = 2
binary_number Div = 3
binary_number Pow = 4
binary_number Eq = 5
binary_number Ne = 6
binary_number Lt = 7
binary_number Le = 8
binary_number Gt = 9
binary_number Ge = 10
binary_number And = 11
binary_number Or = 12
binary_number Eqv = 13
binary_number Neqv = 14

-- ---- what an expression of one form has

abbrev pub int_in : ExprTree → Option (ℤ)
int_in (int n) = Some n
int_in (log b) = None
int_in (name x) = None
int_in (element x es) = None
int_in (paren a) = None
int_in (unary op a) = None
int_in (binary op a b) = None
int_in (chars x) = None

abbrev pub log_in : ExprTree → Option (Bool)
log_in (int n) = None
log_in (log b) = Some b
log_in (name x) = None
log_in (element x es) = None
log_in (paren a) = None
log_in (unary op a) = None
log_in (binary op a b) = None
log_in (chars x) = None

abbrev pub name_in : ExprTree → Option (List ℕ)
name_in (int n) = None
name_in (log b) = None
name_in (name x) = Some x
name_in (element x es) = None
name_in (paren a) = None
name_in (unary op a) = None
name_in (binary op a b) = None
name_in (chars x) = None

abbrev pub element_in : ExprTree → Option (List ℕ × ExprTrees)
element_in (int n) = None
element_in (log b) = None
element_in (name x) = None
element_in (element x es) = Some (x, es)
element_in (paren a) = None
element_in (unary op a) = None
element_in (binary op a b) = None
element_in (chars x) = None

abbrev pub paren_in : ExprTree → Option (ExprTree)
paren_in (int n) = None
paren_in (log b) = None
paren_in (name x) = None
paren_in (element x es) = None
paren_in (paren a) = Some a
paren_in (unary op a) = None
paren_in (binary op a b) = None
paren_in (chars x) = None

abbrev pub unary_in : ExprTree → Option (UnaryOp × ExprTree)
unary_in (int n) = None
unary_in (log b) = None
unary_in (name x) = None
unary_in (element x es) = None
unary_in (paren a) = None
unary_in (unary op a) = Some (op, a)
unary_in (binary op a b) = None
unary_in (chars x) = None

abbrev pub binary_in : ExprTree → Option (BinaryOp × ExprTree × ExprTree)
binary_in (int n) = None
binary_in (log b) = None
binary_in (name x) = None
binary_in (element x es) = None
binary_in (paren a) = None
binary_in (unary op a) = None
binary_in (binary op a b) = Some (op, a, b)
binary_in (chars x) = None

abbrev pub chars_in : ExprTree → Option (List ℕ)
chars_in (int n) = None
chars_in (log b) = None
chars_in (name x) = None
chars_in (element x es) = None
chars_in (paren a) = None
chars_in (unary op a) = None
chars_in (binary op a b) = None
chars_in (chars x) = Some x

-- a test of what is there
abbrev pub test_some : {A : Type 0} → (A → Bool) → Option A → Bool
test_some p None = false
test_some p (Some x) = p x

abbrev mutual
  pub expr_test : ExprTree → ExprTree → Bool
  expr_test (int n) e = test_some (λ m. int_eq n m) (int_in e)
  expr_test (log b) e = test_some (λ c. same_bool b c) (log_in e)
  expr_test (name x) e = test_some (λ y. bytes_eq x y) (name_in e)
  expr_test (element x es) e = test_some (λ p. bytes_eq x p.0 && exprs_test es p.1) (element_in e)
  expr_test (paren a) e = test_some (λ b. expr_test a b) (paren_in e)
  expr_test (unary op a) e = test_some (λ p. nat_eq (unary_number op) (unary_number p.0) && expr_test a p.1) (unary_in e)
  expr_test (binary op a b) e = test_some (λ p. (nat_eq (binary_number op) (binary_number p.0) && expr_test a p.1) && expr_test b p.2) (binary_in e)
  expr_test (chars x) e = test_some (λ y. bytes_eq x y) (chars_in e)

  pub exprs_test : ExprTrees → ExprTrees → Bool
  exprs_test no_exprs no_exprs = true
  exprs_test no_exprs (more_exprs b bs) = false
  exprs_test (more_exprs a rest) no_exprs = false
  exprs_test (more_exprs a rest) (more_exprs b bs) = expr_test a b && exprs_test rest bs
