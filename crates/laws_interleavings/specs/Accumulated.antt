-- Bodies of loops that use reduction variables to accumulate alone: each statement is an assignment that accumulates in one of them, or no name of it reaches one.
use Rattle.std.specs.Prelude.{◌≡◌, ◌⊎◌, ℕ, Bool, false, List, Option, Some, None}
use Rattle.f77_ast.specs.declared.expr.BinaryOp.{BinaryOp}
use Rattle.f77_ast.specs.declared.expr.BinaryOp.TheVariants as op
use Rattle.f77_ast.specs.Trees.{ExprTree, ExprTrees, StmtTree, StmtTrees, WhatTree, ArmTree, ArmTrees, ElseTree, LoopTree}
use Rattle.f77_ast.specs.Trees as tree
use Rattle.f77_ast.specs.Numbers.{Intrinsic, intrinsic_named}
use Rattle.f77_ast.specs.Numbers as number
use Rattle.f77_ast.specs.Plans.{steps_of}
use Rattle.f77_ast.specs.Lists.{list_plan}
use Rattle.f77_ast.specs.Places.{Variable, Function, Names, Place, Places}
use Rattle.f77_ast.specs.Writes.{Locks}
use Rattle.f77_ast.specs.Calls.{Meaning}
use Rattle.f77_ast.specs.Statements.{Scope, parts}
use Rattle.laws_interleavings.specs.Reductions.{ReduceOp, Sum, Max, Min, And, Or, tag_of, Accumulator, operator_at}
use Rattle.laws_interleavings.specs.Accumulating.{Reduction, accumulators_of, is_sum, is_summed, summed_parts}
use Rattle.laws_interleavings.specs.Rides.{Outside, Rides}
use Rattle.laws_interleavings.specs.Plans.Touched.{AnyNumber, Suits, Leaves, AllLeaves, OptionLeaves, MeaningKeeps}

-- ---- expressions

-- it is the unit of no reduction variable
abbrev pub IsFree : List Accumulator → ℕ → Type 0
IsFree as' u = operator_at as' u ≡ None

-- what a name stands for reaches no reduction variable
abbrev pub IsClearName : List Accumulator → Names → Places → List ℕ → Type 0
IsClearName as' w at x = Suits (IsFree as') AnyNumber at (w x)

abbrev pub IsClear : List Accumulator → Names → Places → ExprTree → Type 0
IsClear as' w at e = Leaves (IsClearName as' w at) AnyNumber e

-- operators that join a further operand so
abbrev pub Joins : ReduceOp → BinaryOp → Type 0
Joins Sum o = (o ≡ op.Add) ⊎ (o ≡ op.Sub)
Joins Max o = ⊥
Joins Min o = ⊥
Joins And o = o ≡ op.And
Joins Or o = o ≡ op.Or

-- V, V+e, V+e-f and the like: V is the first operand, and the others are clear
abbrev pub IsChain : ReduceOp → List ℕ → (ExprTree → Type 0) → ExprTree → Type 0
IsChain p x C (tree.int n) = ⊥
IsChain p x C (tree.log b) = ⊥
IsChain p x C (tree.name y) = y ≡ x
IsChain p x C (tree.element y es) = ⊥
IsChain p x C (tree.paren e) = ⊥
IsChain p x C (tree.unary o e) = ⊥
IsChain p x C (tree.binary o a b) = Joins p o × IsChain p x C a × C b
IsChain p x C (tree.chars t) = ⊥

-- the function that gives the greatest, or the least, of numbers
abbrev pub IsFunctionOf : ReduceOp → Option Intrinsic → Type 0
IsFunctionOf Sum f = ⊥
IsFunctionOf Max f = f ≡ Some number.Max
IsFunctionOf Min f = f ≡ Some number.Min
IsFunctionOf And f = ⊥
IsFunctionOf Or f = ⊥

-- the right sides of assignments that accumulate in V
pub data Adds (p : ReduceOp) (x : List ℕ) (w : Names) (C : ExprTree → Type 0) : ExprTree → Type 0 where
  -- V+e-f
  First : (o : BinaryOp) (a b : ExprTree) → Joins p o → IsChain p x C a → C b → Adds p x w C (tree.binary o a b)
  -- e+V
  Last : (o : BinaryOp) (a : ExprTree) → Joins p o → ((o ≡ op.Sub) → ⊥) → C a → Adds p x w C (tree.binary o a (tree.name x))
  -- MAX(V,e)
  FirstOfTwo : (f : List ℕ) (b : ExprTree) → w f ≡ Function → IsFunctionOf p (intrinsic_named f) → C b →
      Adds p x w C (tree.element f (tree.more_exprs (tree.name x) (tree.more_exprs b tree.no_exprs)))
  -- MAX(e,V)
  LastOfTwo : (f : List ℕ) (a : ExprTree) → w f ≡ Function → IsFunctionOf p (intrinsic_named f) → C a →
      Adds p x w C (tree.element f (tree.more_exprs a (tree.more_exprs (tree.name x) tree.no_exprs)))

-- ---- statements

-- an assignment that accumulates in the reduction variable of its left side
pub record IsAccumulation (rs : List Reduction) (w : Names) (at : Places) (left right : ExprTree) : Type 0 where
  pub name : List ℕ
  pub is : left ≡ tree.name name
  pub symbol : ℕ
  pub stands : w name ≡ Variable symbol
  pub op : ReduceOp
  pub one : operator_at (accumulators_of rs w at) (at symbol).first ≡ Some op
  pub tag : (at symbol).tag ≡ tag_of op
  pub summed : is_summed rs name ≡ is_sum op
  pub adds : Adds op name w (IsClear (accumulators_of rs w at) w at) right

-- the left side is not the name of a variable of a sum
abbrev pub IsPlain : List Reduction → ExprTree → Type 0
IsPlain rs (tree.int n) = Unit {0}
IsPlain rs (tree.log b) = Unit {0}
IsPlain rs (tree.name x) = is_summed rs x ≡ false
IsPlain rs (tree.element x es) = Unit {0}
IsPlain rs (tree.paren e) = Unit {0}
IsPlain rs (tree.unary o e) = Unit {0}
IsPlain rs (tree.binary o a b) = Unit {0}
IsPlain rs (tree.chars t) = Unit {0}

-- the left side is the name of a function: the assignment is a fault
abbrev pub IsNoTarget : Names → ExprTree → Type 0
IsNoTarget w (tree.int n) = ⊥
IsNoTarget w (tree.log b) = ⊥
IsNoTarget w (tree.name x) = w x ≡ Function
IsNoTarget w (tree.element x es) = ⊥
IsNoTarget w (tree.paren e) = ⊥
IsNoTarget w (tree.unary o e) = ⊥
IsNoTarget w (tree.binary o a b) = ⊥
IsNoTarget w (tree.chars t) = ⊥

-- or no name of it reaches a reduction variable
abbrev pub AssignAdds : List Reduction → Names → Places → ExprTree → ExprTree → Type 0
AssignAdds rs w at a b =
    let as' = accumulators_of rs w at in
    (IsClear as' w at a × IsClear as' w at b × IsPlain rs a) ⊎ (IsAccumulation rs w at a b ⊎ (IsClear as' w at b × IsNoTarget w a))

abbrev pub AreClear : List Reduction → Names → Places → ExprTrees → Type 0
AreClear rs w at es = AllLeaves (IsClearName (accumulators_of rs w at) w at) AnyNumber es

abbrev pub ClearTest : List Reduction → Names → Places → ExprTree → Type 0
ClearTest rs w at e = IsClear (accumulators_of rs w at) w at e

abbrev mutual
  -- of a statement, and of the statements inside it
  pub StatementAdds : List Reduction → Names → Places → StmtTree → Type 0
  StatementAdds rs w at (tree.stmt n label what) = WhatAdds rs w at what

  pub WhatAdds : List Reduction → Names → Places → WhatTree → Type 0
  WhatAdds rs w at (tree.assign a b) = AssignAdds rs w at a b
  WhatAdds rs w at (tree.block_if arms other) = ArmsAdds rs w at arms × ElseAdds rs w at other
  WhatAdds rs w at (tree.logical_if test s) = ClearTest rs w at test × StatementAdds rs w at s
  WhatAdds rs w at (tree.do_loop l) = LoopAdds rs w at l
  WhatAdds rs w at (tree.call x es) = AreClear rs w at es
  WhatAdds rs w at (tree.goto l) = Unit {0}
  WhatAdds rs w at tree.continue = Unit {0}
  WhatAdds rs w at tree.return = Unit {0}
  WhatAdds rs w at (tree.stop text) = Unit {0}
  WhatAdds rs w at (tree.print es) = AreClear rs w at es
  WhatAdds rs w at (tree.read es) = AreClear rs w at es

  pub ArmsAdds : List Reduction → Names → Places → ArmTrees → Type 0
  ArmsAdds rs w at tree.no_arms = Unit {0}
  ArmsAdds rs w at (tree.more_arms a as') = ArmAdds rs w at a × ArmsAdds rs w at as'

  pub ArmAdds : List Reduction → Names → Places → ArmTree → Type 0
  ArmAdds rs w at (tree.arm test body) = ClearTest rs w at test × ListAdds rs w at body

  pub ElseAdds : List Reduction → Names → Places → ElseTree → Type 0
  ElseAdds rs w at tree.no_else = Unit {0}
  ElseAdds rs w at (tree.otherwise body) = ListAdds rs w at body

  pub LoopAdds : List Reduction → Names → Places → LoopTree → Type 0
  LoopAdds rs w at (tree.loop index e1 e2 e3 body) =
      IsClearName (accumulators_of rs w at) w at index × ClearTest rs w at e1 × ClearTest rs w at e2 × OptionLeaves (IsClearName (accumulators_of rs w at) w at) AnyNumber e3 × ListAdds rs w at body

  pub ListAdds : List Reduction → Names → Places → StmtTrees → Type 0
  ListAdds rs w at tree.no_stmts = Unit {0}
  ListAdds rs w at (tree.more_stmts s ss) = StatementAdds rs w at s × ListAdds rs w at ss

-- ---- the law

-- what is called, with places that reach no reduction variable, reaches none
abbrev pub KeepsClear : List Accumulator → Meaning → Type 0
KeepsClear as' m = MeaningKeeps (IsFree as') AnyNumber m

-- the body with sums that wrap rides on the body
abbrev pub BodiesRide : Type 0
BodiesRide =
    (rs : List Reduction) (sc : Scope) (at : Places) (locked : Locks) (body : StmtTrees) → ((x : List ℕ) → KeepsClear (accumulators_of rs sc.names at) (sc.callee x)) →
    ((n k : ℕ) → IsFree (accumulators_of rs sc.names at) (sc.own_unit n k)) → ListAdds rs sc.names at body →
    Rides (accumulators_of rs sc.names at) Outside (steps_of (list_plan sc.turns (parts body sc at locked))) (steps_of (list_plan sc.turns (summed_parts rs body sc at locked)))
