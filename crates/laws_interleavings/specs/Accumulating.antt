-- The body of a loop with reduction variables as its processes execute it: what adds to a variable that is summed wraps, and faults no more. All else is as in the program.
use Rattle.std.specs.Prelude.{ℕ, List, [], ◌∷◌, Bool, true, false, ◌&&◌, ◌||◌, if◌then◌else◌, bytes_eq, ℤ, ◌+ℤ◌, ◌-ℤ◌}
use Rattle.std.specs.List.{list_any}
use Rattle.std.specs.Int.{int_wrap, w32}
use Rattle.f77_ast.specs.declared.expr.BinaryOp.{BinaryOp}
use Rattle.f77_ast.specs.declared.expr.BinaryOp.TheVariants.{Add, Sub, Mul, Div, Pow, Eq, Ne, Lt, Le, Gt, Ge, And, Or, Eqv, Neqv}
use Rattle.f77_ast.specs.Trees.{ExprTree, ExprTrees, StmtTree, StmtTrees, WhatTree, ArmTree, ArmTrees, ElseTree, LoopTree}
use Rattle.f77_ast.specs.Trees as tree
use Rattle.f77_ast.specs.Store.{Int, Content, content}
use Rattle.f77_ast.specs.Numbers.{is_true}
use Rattle.f77_ast.specs.Steps.{Steps, Done, ◌>>=◌}
use Rattle.f77_ast.specs.Places.{Meant, Constant, Variable, Function, Names, Places}
use Rattle.f77_ast.specs.Values.{value, target, name_target}
use Rattle.f77_ast.specs.Writes.{Locks, write}
use Rattle.f77_ast.specs.Plans.{Plan, Ends, Normal, Within, first}
use Rattle.f77_ast.specs.Lists.{Part, list_plan}
use Rattle.f77_ast.specs.Loops.{range_of, loop_plan}
use Rattle.f77_ast.specs.Statements.{Scope, spot, label_of, execution}
use Rattle.laws_interleavings.specs.Reductions.{ReduceOp, Sum, Max, Min, And as AndOp, Or as OrOp, Accumulator}

-- ---- the clauses of a directive

-- REDUCTION(op:V), by the name of V
pub record Reduction : Type 0 where
  pub name : List ℕ
  pub op : ReduceOp

-- the names of its PRIVATE clause, and its REDUCTION clauses
pub record Directive : Type 0 where
  pub private : List (List ℕ)
  pub reductions : List Reduction

-- without REDUCTION clauses
abbrev pub private_alone : List (List ℕ) → Directive
private_alone xs = record { private = xs; reductions = [] }

abbrev pub with_meaning : ReduceOp → Meant → Places → List Accumulator → List Accumulator
with_meaning o (Constant c) at rest = rest
with_meaning o (Variable v) at rest = record { unit = (at v).first; op = o } ∷ rest
with_meaning o Function at rest = rest

-- where the variables of the clauses lie
abbrev pub accumulators_of : List Reduction → Names → Places → List Accumulator
accumulators_of [] w at = []
accumulators_of (r ∷ rs) w at = with_meaning r.op (w r.name) at (accumulators_of rs w at)

abbrev pub is_sum : ReduceOp → Bool
is_sum Sum = true
is_sum Max = false
is_sum Min = false
is_sum AndOp = false
is_sum OrOp = false

-- whether the name is that of a variable that is summed
abbrev pub is_summed : List Reduction → List ℕ → Bool
is_summed rs x = list_any (λ r. is_sum r.op && bytes_eq x r.name) rs

-- ---- sums

abbrev mutual
  -- the name is in the expression
  pub has_name : List ℕ → ExprTree → Bool
  has_name x (tree.int n) = false
  has_name x (tree.log b) = false
  has_name x (tree.name y) = bytes_eq x y
  has_name x (tree.element y es) = bytes_eq x y || have_name x es
  has_name x (tree.paren e) = has_name x e
  has_name x (tree.unary o e) = has_name x e
  has_name x (tree.binary o a b) = has_name x a || has_name x b
  has_name x (tree.chars t) = false

  pub have_name : List ℕ → ExprTrees → Bool
  have_name x tree.no_exprs = false
  have_name x (tree.more_exprs e es) = has_name x e || have_name x es

abbrev pub adds : BinaryOp → Bool
adds Add = true
adds Sub = true
adds Mul = false
adds Div = false
adds Pow = false
adds Eq = false
adds Ne = false
adds Lt = false
adds Le = false
adds Gt = false
adds Ge = false
adds And = false
adds Or = false
adds Eqv = false
adds Neqv = false

-- + and - modulo 2^32, in the range of INTEGER
abbrev pub wrapped : BinaryOp → ℤ → ℤ → ℤ
wrapped Add m n = int_wrap w32 (m +ℤ n)
wrapped Sub m n = int_wrap w32 (m -ℤ n)
wrapped Mul m n = m
wrapped Div m n = m
wrapped Pow m n = m
wrapped Eq m n = m
wrapped Ne m n = m
wrapped Lt m n = m
wrapped Le m n = m
wrapped Gt m n = m
wrapped Ge m n = m
wrapped And m n = m
wrapped Or m n = m
wrapped Eqv m n = m
wrapped Neqv m n = m

-- the value of an expression, in which each + and - with the name in an operand wraps
abbrev pub sum_value : List ℕ → ExprTree → Names → Places → Steps Content
sum_value x (tree.int n) w at = value (tree.int n) w at
sum_value x (tree.log b) w at = value (tree.log b) w at
sum_value x (tree.name y) w at = value (tree.name y) w at
sum_value x (tree.element y es) w at = value (tree.element y es) w at
sum_value x (tree.paren e) w at = value (tree.paren e) w at
sum_value x (tree.unary o e) w at = value (tree.unary o e) w at
sum_value x (tree.binary o a b) w at =
    if adds o && (has_name x a || has_name x b) then (sum_value x a w at >>= λ c. sum_value x b w at >>= λ d. Done (content Int (wrapped o c.number d.number)))
    else value (tree.binary o a b) w at
sum_value x (tree.chars t) w at = value (tree.chars t) w at

-- the right side of an assignment to this left side
abbrev pub right_value : List Reduction → ExprTree → ExprTree → Names → Places → Steps Content
right_value rs (tree.name x) e w at = if is_summed rs x then sum_value x e w at else value e w at
right_value rs (tree.int n) e w at = value e w at
right_value rs (tree.log b) e w at = value e w at
right_value rs (tree.element y es) e w at = value e w at
right_value rs (tree.paren f) e w at = value e w at
right_value rs (tree.unary o f) e w at = value e w at
right_value rs (tree.binary o f g) e w at = value e w at
right_value rs (tree.chars t) e w at = value e w at

-- ---- statements

abbrev mutual
  pub summed_statement : List Reduction → StmtTree → Scope → Places → Locks → Plan
  summed_statement rs (tree.stmt n label what) sc at locked = Within (spot sc.module_name n) at (summed_execution rs what n sc at locked) (λ f. Ends f)

  pub summed_execution : List Reduction → WhatTree → ℕ → Scope → Places → Locks → Plan
  summed_execution rs (tree.assign left right) n sc at locked =
      first (right_value rs left right sc.names at >>= λ c. target left sc.names at >>= λ t. write locked t.unit (content t.tag c.number)) (λ o. Ends Normal)
  summed_execution rs (tree.block_if arms rest) n sc at locked = summed_arms rs arms sc at locked (summed_else rs rest sc at locked)
  summed_execution rs (tree.logical_if test s) n sc at locked = first (value test sc.names at) (λ c. if is_true c.number then summed_statement rs s sc at locked else Ends Normal)
  summed_execution rs (tree.do_loop l) n sc at locked = summed_do rs l sc at locked
  summed_execution rs (tree.call callee es) n sc at locked = execution (tree.call callee es) n sc at locked
  summed_execution rs (tree.goto l) n sc at locked = execution (tree.goto l) n sc at locked
  summed_execution rs tree.continue n sc at locked = execution tree.continue n sc at locked
  summed_execution rs tree.return n sc at locked = execution tree.return n sc at locked
  summed_execution rs (tree.stop text) n sc at locked = execution (tree.stop text) n sc at locked
  summed_execution rs (tree.print es) n sc at locked = execution (tree.print es) n sc at locked
  summed_execution rs (tree.read es) n sc at locked = execution (tree.read es) n sc at locked

  pub summed_arms : List Reduction → ArmTrees → Scope → Places → Locks → Plan → Plan
  summed_arms rs tree.no_arms sc at locked rest = rest
  summed_arms rs (tree.more_arms a as') sc at locked rest = summed_arm rs a sc at locked (summed_arms rs as' sc at locked rest)

  pub summed_arm : List Reduction → ArmTree → Scope → Places → Locks → Plan → Plan
  summed_arm rs (tree.arm test body) sc at locked rest = first (value test sc.names at) (λ c. if is_true c.number then list_plan sc.turns (summed_parts rs body sc at locked) else rest)

  pub summed_else : List Reduction → ElseTree → Scope → Places → Locks → Plan
  summed_else rs tree.no_else sc at locked = Ends Normal
  summed_else rs (tree.otherwise body) sc at locked = list_plan sc.turns (summed_parts rs body sc at locked)

  pub summed_do : List Reduction → LoopTree → Scope → Places → Locks → Plan
  summed_do rs (tree.loop index e1 e2 e3 body) sc at locked =
      loop_plan (range_of e1 e2 e3 sc.names at) (name_target (sc.names index) at) locked (λ l. list_plan sc.turns (summed_parts rs body sc at l))

  pub summed_parts : List Reduction → StmtTrees → Scope → Places → Locks → List Part
  summed_parts rs tree.no_stmts sc at locked = []
  summed_parts rs (tree.more_stmts s ss) sc at locked = record { label = label_of s; does = summed_statement rs s sc at locked } ∷ summed_parts rs ss sc at locked
