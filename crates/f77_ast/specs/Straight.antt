-- Straight programs: a main program without specification statements, of assignments to names, PRINT and CONTINUE.
use Rattle.std.specs.Prelude.{ℕ, suc, List, [], ◌∷◌, Option, Some, None, Bool, true, false, ◌&&◌, if◌then◌else◌, nat_le, nat_eq, bytes_eq}
use Rattle.f77_ast.specs.declared.expr.UnaryOp.{UnaryOp}
use Rattle.f77_ast.specs.declared.expr.UnaryOp.TheVariants.{Plus, Minus, Not}
use Rattle.f77_ast.specs.declared.expr.BinaryOp.{BinaryOp}
use Rattle.f77_ast.specs.declared.expr.BinaryOp.TheVariants.{Add, Sub, Mul}
use Rattle.f77_ast.specs.Trees.{ExprTree, ExprTrees, StmtTree, StmtTrees, WhatTree}
use Rattle.f77_ast.specs.Trees as tree
use Rattle.f77_ast.specs.DeclTrees.{DeclTree, ModuleTree}
use Rattle.f77_ast.specs.Store.{Int, empty_store}
use Rattle.f77_ast.specs.Places.{Meant, Variable, Function, Names, Places, scalar_place}
use Rattle.f77_ast.specs.Programs.{Routine, Program}

-- the letters that INTEGER has without specification, I to N (ANSI X3.9-1978 §4.1.2)
abbrev pub is_integer_name : List ℕ → Bool
is_integer_name [] = false
is_integer_name (c ∷ cs) = nat_le 73 c && nat_le c 78

abbrev pub is_integer_variable : ExprTree → Bool
is_integer_variable (tree.name x) = is_integer_name x
is_integer_variable (tree.int n) = false
is_integer_variable (tree.log b) = false
is_integer_variable (tree.element x es) = false
is_integer_variable (tree.paren e) = false
is_integer_variable (tree.unary o e) = false
is_integer_variable (tree.binary o a b) = false
is_integer_variable (tree.chars x) = false

abbrev pub is_number : ExprTree → Bool
is_number (tree.int n) = true
is_number (tree.name x) = false
is_number (tree.log b) = false
is_number (tree.element x es) = false
is_number (tree.paren e) = false
is_number (tree.unary o e) = false
is_number (tree.binary o a b) = false
is_number (tree.chars x) = false

abbrev pub is_product : BinaryOp → Bool
is_product Mul = true
is_product o = false

abbrev pub is_sum : BinaryOp → Bool
is_sum Add = true
is_sum Sub = true
is_sum o = false

abbrev pub is_sign : UnaryOp → Bool
is_sign Plus = true
is_sign Minus = true
is_sign Not = false

-- a number, a name, or a number times a name
abbrev pub is_straight_term : ExprTree → Bool
is_straight_term (tree.int n) = true
is_straight_term (tree.name x) = is_integer_name x
is_straight_term (tree.binary o a b) = is_product o && (is_number a && is_integer_variable b)
is_straight_term (tree.log b) = false
is_straight_term (tree.element x es) = false
is_straight_term (tree.paren e) = false
is_straight_term (tree.unary o e) = false
is_straight_term (tree.chars x) = false

-- terms with + and - between them, the first perhaps with a sign
abbrev pub is_straight_expr : ExprTree → Bool
is_straight_expr (tree.unary o e) = is_sign o && is_straight_term e
is_straight_expr (tree.binary o a b) = if is_sum o then is_straight_expr a && is_straight_term b else is_straight_term (tree.binary o a b)
is_straight_expr (tree.int n) = true
is_straight_expr (tree.name x) = is_integer_name x
is_straight_expr (tree.log b) = false
is_straight_expr (tree.element x es) = false
is_straight_expr (tree.paren e) = false
is_straight_expr (tree.chars x) = false

abbrev pub are_straight_exprs : ExprTrees → Bool
are_straight_exprs tree.no_exprs = true
are_straight_exprs (tree.more_exprs e es) = is_straight_expr e && are_straight_exprs es

abbrev pub is_straight_what : WhatTree → Bool
is_straight_what (tree.assign left right) = is_integer_variable left && is_straight_expr right
is_straight_what (tree.print es) = are_straight_exprs es
is_straight_what tree.continue = true
is_straight_what (tree.block_if arms rest) = false
is_straight_what (tree.logical_if e s) = false
is_straight_what (tree.do_loop l) = false
is_straight_what (tree.call x es) = false
is_straight_what (tree.goto l) = false
is_straight_what tree.return = false
is_straight_what (tree.stop text) = false
is_straight_what (tree.read es) = false

-- a statement with this number
abbrev pub is_straight_stmt : ℕ → StmtTree → Bool
is_straight_stmt n (tree.stmt id label what) = nat_eq id n && is_straight_what what

-- the statements are numbered from n on
abbrev pub are_straight_from : ℕ → StmtTrees → Bool
are_straight_from n tree.no_stmts = true
are_straight_from n (tree.more_stmts s ss) = is_straight_stmt n s && are_straight_from (suc n) ss

abbrev pub has_no_decls : List DeclTree → Bool
has_no_decls [] = true
has_no_decls (d ∷ ds) = false

abbrev pub is_straight : ModuleTree → Bool
is_straight m = m.main && (has_no_decls m.decls && are_straight_from 1 m.body)

-- a name after those that came before, unless it is one of them
abbrev pub with_name : List ℕ → List (List ℕ) → List (List ℕ)
with_name x [] = x ∷ []
with_name x (y ∷ ys) = if bytes_eq x y then y ∷ ys else y ∷ with_name x ys

abbrev mutual
  -- the names that came before, and then those of the expression, in order of first appearance
  pub names_in : ExprTree → List (List ℕ) → List (List ℕ)
  names_in (tree.int n) ys = ys
  names_in (tree.log b) ys = ys
  names_in (tree.name x) ys = with_name x ys
  names_in (tree.element x es) ys = names_in_all es (with_name x ys)
  names_in (tree.paren e) ys = names_in e ys
  names_in (tree.unary o e) ys = names_in e ys
  names_in (tree.binary o a b) ys = names_in b (names_in a ys)
  names_in (tree.chars x) ys = ys

  pub names_in_all : ExprTrees → List (List ℕ) → List (List ℕ)
  names_in_all tree.no_exprs ys = ys
  names_in_all (tree.more_exprs e es) ys = names_in_all es (names_in e ys)

abbrev pub names_in_what : WhatTree → List (List ℕ) → List (List ℕ)
names_in_what (tree.assign left right) ys = names_in right (names_in left ys)
names_in_what (tree.print es) ys = names_in_all es ys
names_in_what tree.continue ys = ys
names_in_what (tree.block_if arms rest) ys = ys
names_in_what (tree.logical_if e s) ys = ys
names_in_what (tree.do_loop l) ys = ys
names_in_what (tree.call x es) ys = ys
names_in_what (tree.goto l) ys = ys
names_in_what tree.return ys = ys
names_in_what (tree.stop text) ys = ys
names_in_what (tree.read es) ys = ys

abbrev pub names_in_stmt : StmtTree → List (List ℕ) → List (List ℕ)
names_in_stmt (tree.stmt id label what) ys = names_in_what what ys

abbrev pub names_in_list : StmtTrees → List (List ℕ) → List (List ℕ)
names_in_list tree.no_stmts ys = ys
names_in_list (tree.more_stmts s ss) ys = names_in_list ss (names_in_stmt s ys)

-- the variables of a straight program, in order of first appearance
abbrev pub variables : StmtTrees → List (List ℕ)
variables ss = names_in_list ss []

-- the number of a name, where the first of the list has the number n
abbrev pub number_from : ℕ → List (List ℕ) → List ℕ → Option ℕ
number_from n [] x = None
number_from n (y ∷ ys) x = if bytes_eq x y then Some n else number_from (suc n) ys x

abbrev pub as_variable : Option ℕ → Meant
as_variable None = Function
as_variable (Some n) = Variable n

-- the symbols are these names in order, from 1, and each is a variable
abbrev pub numbered : List (List ℕ) → Names
numbered ys x = as_variable (number_from 1 ys x)

abbrev pub straight_names : StmtTrees → Names
straight_names ss = numbered (variables ss)

-- each is an INTEGER local with a unit of its own
abbrev pub straight_places : Places
straight_places n = scalar_place n Int

abbrev pub straight_routine : ModuleTree → Routine
straight_routine m = record {
  name = m.name;
  names = straight_names m.body;
  dummies = [];
  fixed = straight_places;
  locals = [];
  common = λ u. false;
  own_unit = λ n k. 0;
  body = m.body;
}

-- at the start no unit has a value, and the number of each is 0
abbrev pub straight_program : ModuleTree → Program
straight_program m = record { main = straight_routine m; others = []; initial = empty_store }
