-- The statements that stand for those that are written: an assignment of the value of a function, and a DO WHILE (f77_ast, specs/Hidden).
use Rattle.std.specs.Prelude.{ℕ, ◌+◌, Bool, true, false, nat_eq, List, [], ◌∷◌, ◌++◌, Some, None, if◌then◌else◌}
use Rattle.std.specs.List.{list_any}
use Rattle.f77_ast.specs.Trees.{ExprTree, ExprTrees, StmtTree, stmt, WhatTree, assign, block_if, logical_if, do_loop, call, goto, continue, return, stop, print, read, arm, ArmTrees, no_arms, more_arms, ElseTree, no_else, otherwise, LoopTree, loop, StmtTrees, no_stmts, more_stmts}
use Rattle.f77_ast.specs.Trees as tree
use Rattle.f77_ast.specs.DeclTrees.{ModuleTree}
use Rattle.f77_names.specs.declared.kinds.Kind.{Kind}
use Rattle.f77_names.specs.Kinds.{kinds_of}
use Rattle.f77_parser.specs.Functions.{bounded_names, is_external, integer_names, logical_names, start_of}

-- ---- what tells the statements that stand for others

pub record Meant : Type 0 where
  -- the name is that of a function subprogram
  pub is_function : List ℕ → Bool
  -- with which the result of a function begins
  pub start : List ℕ → ExprTree
  -- the statement with the number is a DO WHILE
  pub is_while : ℕ → Bool

-- by the names with bounds, those of INTEGER and of LOGICAL statements, the types of the letters, and the numbers of the DO WHILEs
abbrev pub meant_by : List (List ℕ) → List (List ℕ) → List (List ℕ) → List Kind → List ℕ → Meant
meant_by bounded integers logicals kinds whiles = record {
  is_function = is_external bounded;
  start = start_of integers logicals kinds;
  is_while = λ n. list_any (nat_eq n) whiles;
}

abbrev pub meant_in : ModuleTree → Meant
meant_in m = meant_by (bounded_names m.decls) (integer_names m.decls) (logical_names m.decls) (kinds_of m.decls) m.whiles

-- ---- an assignment of the value of a function

abbrev pub is_value : Meant → ExprTree → Bool
is_value m (tree.int n) = false
is_value m (tree.log b) = false
is_value m (tree.name x) = false
is_value m (tree.element f es) = m.is_function f
is_value m (tree.paren e) = false
is_value m (tree.unary op e) = false
is_value m (tree.binary op a b) = false
is_value m (tree.chars c) = false

abbrev pub and_last : ExprTrees → ExprTree → ExprTrees
and_last tree.no_exprs last = tree.more_exprs last tree.no_exprs
and_last (tree.more_exprs e es) last = tree.more_exprs e (and_last es last)

abbrev pub one_arm : ExprTree → StmtTrees → WhatTree
one_arm test body = block_if (more_arms (arm test body) no_arms) no_else

-- `F = 0`, `CALL F(A, F)` and `V = F`, h being how many hidden statements are before
abbrev pub value_block : Meant → ℕ → ExprTree → List ℕ → ExprTrees → WhatTree
value_block m h v f es =
    one_arm (tree.log true)
    (more_stmts (stmt (4097 + h) None (assign (tree.name f) (m.start f)))
    (more_stmts (stmt (4098 + h) None (call f (and_last es (tree.name f))))
    (more_stmts (stmt (4099 + h) None (assign v (tree.name f))) no_stmts)))

abbrev pub assigned : Meant → ℕ → ExprTree → ExprTree → WhatTree
assigned m h v (tree.int n) = assign v (tree.int n)
assigned m h v (tree.log b) = assign v (tree.log b)
assigned m h v (tree.name x) = assign v (tree.name x)
assigned m h v (tree.element f es) = if m.is_function f then value_block m h v f es else assign v (tree.element f es)
assigned m h v (tree.paren e) = assign v (tree.paren e)
assigned m h v (tree.unary op e) = assign v (tree.unary op e)
assigned m h v (tree.binary op a b) = assign v (tree.binary op a b)
assigned m h v (tree.chars c) = assign v (tree.chars c)

-- ---- a DO WHILE

-- the label of the inner block IF
abbrev pub while_label : ℕ → ℕ
while_label n = 100000 + n

abbrev pub and_then_last : StmtTrees → StmtTree → StmtTrees
and_then_last no_stmts last = more_stmts last no_stmts
and_then_last (more_stmts s ss) last = more_stmts s (and_then_last ss last)

-- the labelled block IF in a block IF: it has the number behind h hidden ones, and its GO TO that behind k
abbrev pub while_block : ℕ → ℕ → ℕ → ExprTree → StmtTrees → WhatTree
while_block n h k test body =
    one_arm (tree.log true)
    (more_stmts (stmt (4097 + h) (Some (while_label n)) (one_arm test (and_then_last body (stmt (4097 + k) None (goto (while_label n)))))) no_stmts)

-- ---- how many hidden statements stand up to the end of a statement, where h do before it

abbrev mutual
  pub hidden_to : Meant → ℕ → StmtTree → ℕ
  hidden_to m h (stmt n label w) = hidden_by m h n w

  pub hidden_by : Meant → ℕ → ℕ → WhatTree → ℕ
  hidden_by m h n (assign v e) = if is_value m e then 3 + h else h
  hidden_by m h n (block_if arms other) = if m.is_while n then hidden_while m h arms else hidden_else m (hidden_arms m h arms) other
  hidden_by m h n (logical_if e s) = hidden_to m h s
  hidden_by m h n (do_loop l) = hidden_loop m h l
  hidden_by m h n (call c es) = h
  hidden_by m h n (goto l) = h
  hidden_by m h n continue = h
  hidden_by m h n return = h
  hidden_by m h n (stop t) = h
  hidden_by m h n (print es) = h
  hidden_by m h n (read es) = h

  -- a DO WHILE is written as a block IF with one arm
  pub hidden_while : Meant → ℕ → ArmTrees → ℕ
  hidden_while m h no_arms = h
  hidden_while m h (more_arms (arm test body) others) = 1 + hidden_in m (1 + h) body

  pub hidden_loop : Meant → ℕ → LoopTree → ℕ
  hidden_loop m h (loop index first last step body) = hidden_in m h body

  pub hidden_arms : Meant → ℕ → ArmTrees → ℕ
  hidden_arms m h no_arms = h
  hidden_arms m h (more_arms (arm test body) others) = hidden_arms m (hidden_in m h body) others

  pub hidden_else : Meant → ℕ → ElseTree → ℕ
  hidden_else m h no_else = h
  hidden_else m h (otherwise body) = hidden_in m h body

  pub hidden_in : Meant → ℕ → StmtTrees → ℕ
  hidden_in m h no_stmts = h
  hidden_in m h (more_stmts s others) = hidden_in m (hidden_to m h s) others

-- ---- the statements, where h hidden ones are before

abbrev mutual
  pub elaborated_stmt : Meant → ℕ → StmtTree → StmtTree
  elaborated_stmt m h (stmt n label w) = stmt n label (elaborated_what m h n w)

  pub elaborated_what : Meant → ℕ → ℕ → WhatTree → WhatTree
  elaborated_what m h n (assign v e) = assigned m h v e
  elaborated_what m h n (block_if arms other) =
      if m.is_while n then elaborated_while m h n arms else block_if (elaborated_arms m h arms) (elaborated_else m (hidden_arms m h arms) other)
  elaborated_what m h n (logical_if e s) = logical_if e (elaborated_stmt m h s)
  elaborated_what m h n (do_loop l) = do_loop (elaborated_loop m h l)
  elaborated_what m h n (call c es) = call c es
  elaborated_what m h n (goto l) = goto l
  elaborated_what m h n continue = continue
  elaborated_what m h n return = return
  elaborated_what m h n (stop t) = stop t
  elaborated_what m h n (print es) = print es
  elaborated_what m h n (read es) = read es

  pub elaborated_while : Meant → ℕ → ℕ → ArmTrees → WhatTree
  elaborated_while m h n no_arms = block_if no_arms no_else
  elaborated_while m h n (more_arms (arm test body) others) = while_block n h (hidden_in m (1 + h) body) test (elaborated_in m (1 + h) body)

  pub elaborated_loop : Meant → ℕ → LoopTree → LoopTree
  elaborated_loop m h (loop index first last step body) = loop index first last step (elaborated_in m h body)

  pub elaborated_arms : Meant → ℕ → ArmTrees → ArmTrees
  elaborated_arms m h no_arms = no_arms
  elaborated_arms m h (more_arms (arm test body) others) = more_arms (arm test (elaborated_in m h body)) (elaborated_arms m (hidden_in m h body) others)

  pub elaborated_else : Meant → ℕ → ElseTree → ElseTree
  elaborated_else m h no_else = no_else
  elaborated_else m h (otherwise body) = otherwise (elaborated_in m h body)

  pub elaborated_in : Meant → ℕ → StmtTrees → StmtTrees
  elaborated_in m h no_stmts = no_stmts
  elaborated_in m h (more_stmts s others) = more_stmts (elaborated_stmt m h s) (elaborated_in m (hidden_to m h s) others)

-- ---- the statements with the value of a function, in the order of the text

abbrev mutual
  pub values_of : Meant → StmtTree → List ℕ
  values_of m (stmt n label w) = values_by m n w

  pub values_by : Meant → ℕ → WhatTree → List ℕ
  values_by m n (assign v e) = if is_value m e then n ∷ [] else []
  values_by m n (block_if arms other) = if m.is_while n then values_while m arms else values_arms m arms ++ values_else m other
  values_by m n (logical_if e s) = values_of m s
  values_by m n (do_loop l) = values_loop m l
  values_by m n (call c es) = []
  values_by m n (goto l) = []
  values_by m n continue = []
  values_by m n return = []
  values_by m n (stop t) = []
  values_by m n (print es) = []
  values_by m n (read es) = []

  pub values_while : Meant → ArmTrees → List ℕ
  values_while m no_arms = []
  values_while m (more_arms (arm test body) others) = values_in m body

  pub values_loop : Meant → LoopTree → List ℕ
  values_loop m (loop index first last step body) = values_in m body

  pub values_arms : Meant → ArmTrees → List ℕ
  values_arms m no_arms = []
  values_arms m (more_arms (arm test body) others) = values_in m body ++ values_arms m others

  pub values_else : Meant → ElseTree → List ℕ
  values_else m no_else = []
  values_else m (otherwise body) = values_in m body

  pub values_in : Meant → StmtTrees → List ℕ
  values_in m no_stmts = []
  values_in m (more_stmts s others) = values_of m s ++ values_in m others

-- a module, from the module as it is written
unfoldable pub elaborated : ModuleTree → ModuleTree
elaborated m = record m { body = elaborated_in (meant_in m) 0 m.body; references = values_in (meant_in m) m.body }
