-- Expressions and statements as plain data: no pointer and no capacity, and each list of trees a type of its own.
use Rattle.std.specs.Prelude.{ℕ, ℤ, Bool, List, Option}
use Rattle.f77_ast.specs.declared.expr.UnaryOp.{UnaryOp}
use Rattle.f77_ast.specs.declared.expr.BinaryOp.{BinaryOp}

mutual
  -- an expression as it is written
  pub data ExprTree : Type 0 where
    int : ℤ → ExprTree
    log : Bool → ExprTree
    name : List ℕ → ExprTree
    element : List ℕ → ExprTrees → ExprTree
    paren : ExprTree → ExprTree
    unary : UnaryOp → ExprTree → ExprTree
    binary : BinaryOp → ExprTree → ExprTree → ExprTree
    chars : List ℕ → ExprTree

  pub data ExprTrees : Type 0 where
    no_exprs : ExprTrees
    more_exprs : ExprTree → ExprTrees → ExprTrees

mutual
  -- an executable statement: its number, its label, and what it does
  pub data StmtTree : Type 0 where
    stmt : ℕ → Option ℕ → WhatTree → StmtTree

  pub data WhatTree : Type 0 where
    assign : ExprTree → ExprTree → WhatTree
    block_if : ArmTrees → ElseTree → WhatTree
    logical_if : ExprTree → StmtTree → WhatTree
    do_loop : LoopTree → WhatTree
    call : List ℕ → ExprTrees → WhatTree
    goto : ℕ → WhatTree
    continue : WhatTree
    return : WhatTree
    stop : Option (List ℕ) → WhatTree
    print : ExprTrees → WhatTree
    read : ExprTrees → WhatTree

  -- a test and the statements below it
  pub data ArmTree : Type 0 where
    arm : ExprTree → StmtTrees → ArmTree

  pub data ArmTrees : Type 0 where
    no_arms : ArmTrees
    more_arms : ArmTree → ArmTrees → ArmTrees

  pub data ElseTree : Type 0 where
    no_else : ElseTree
    otherwise : StmtTrees → ElseTree

  -- the index, the first and the last value, the step where it was written, and the body
  pub data LoopTree : Type 0 where
    loop : List ℕ → ExprTree → ExprTree → Option ExprTree → StmtTrees → LoopTree

  pub data StmtTrees : Type 0 where
    no_stmts : StmtTrees
    more_stmts : StmtTree → StmtTrees → StmtTrees
