-- A module as it is written, from the module that it stands for: hidden statements are left out, and a block IF that stands for an
-- assignment of the value of a function or for a DO WHILE is that statement again (f77_ast, specs/Hidden). A DO WHILE is written as a block
-- IF with one part.
use Rattle.std.specs.Prelude.{◌≡◌, ℕ, Bool, true, [], if◌then◌else◌}
use Rattle.f77_ast.specs.Trees.{StmtTree, stmt, WhatTree, assign, block_if, logical_if, do_loop, call, goto, continue, return, stop, print, read, arm, ArmTrees, no_arms, more_arms, ElseTree, no_else, otherwise, LoopTree, loop, StmtTrees, no_stmts, more_stmts}
use Rattle.f77_ast.specs.Trees as tree
use Rattle.f77_ast.specs.DeclTrees.{ModuleTree}
use Rattle.f77_ast.specs.Shapes.{IsLeaf}
use Rattle.f77_ast.specs.Hidden.{is_hidden, IfForm, block, reference, do_while, form_of_if}

-- by what a block IF stands for: itself with these parts, an assignment, or what the only statement in it is
abbrev pub folded_by : IfForm → ArmTrees → ElseTree → WhatTree → WhatTree
folded_by block arms other inner = block_if arms other
folded_by (reference v f es) arms other inner = assign v (tree.element f es)
folded_by (do_while l test body) arms other inner = inner

abbrev mutual
  pub folded_stmt : StmtTree → StmtTree
  folded_stmt (stmt n label w) = stmt n label (folded_what w)

  pub folded_what : WhatTree → WhatTree
  folded_what (assign v e) = assign v e
  folded_what (block_if arms other) = folded_by (form_of_if arms other) (folded_arms arms) (folded_else other) (inner_arms arms)
  folded_what (logical_if e s) = logical_if e (folded_stmt s)
  folded_what (do_loop l) = do_loop (folded_loop l)
  folded_what (call c es) = call c es
  folded_what (goto l) = goto l
  folded_what continue = continue
  folded_what return = return
  folded_what (stop t) = stop t
  folded_what (print es) = print es
  folded_what (read es) = read es

  pub folded_loop : LoopTree → LoopTree
  folded_loop (loop index first last step body) = loop index first last step (folded_in body)

  pub folded_arms : ArmTrees → ArmTrees
  folded_arms no_arms = no_arms
  folded_arms (more_arms (arm test body) others) = more_arms (arm test (folded_in body)) (folded_arms others)

  pub folded_else : ElseTree → ElseTree
  folded_else no_else = no_else
  folded_else (otherwise body) = otherwise (folded_in body)

  pub folded_in : StmtTrees → StmtTrees
  folded_in no_stmts = no_stmts
  folded_in (more_stmts (stmt n label w) others) =
      if is_hidden n then folded_in others else more_stmts (stmt n label (folded_what w)) (folded_in others)

  -- what the first statement of the first part is
  pub inner_arms : ArmTrees → WhatTree
  inner_arms no_arms = continue
  inner_arms (more_arms (arm test body) others) = inner_in body

  pub inner_in : StmtTrees → WhatTree
  inner_in no_stmts = continue
  inner_in (more_stmts (stmt n label w) others) = folded_what w

-- the module as it is written
unfoldable pub folded : ModuleTree → ModuleTree
folded m = record m { body = folded_in m.body; references = [] }

-- ---- statements as they are written

-- a block IF with one part and no ELSE
abbrev pub OnePart : ArmTrees → ElseTree → Type 0
OnePart (more_arms a no_arms) no_else = Unit {0}
OnePart arms other = ⊥

-- a statement without statements inside
abbrev pub IsSingle : StmtTree → Type 0
IsSingle (stmt n label w) = IsLeaf w

abbrev mutual
  -- a block IF that stands for a DO WHILE has one part, and a logical IF has a statement without others inside; the test tells the numbers of DO WHILEs
  pub WhileFits : (ℕ → Bool) → StmtTree → Type 0
  WhileFits f (stmt n label w) = WhileFitsBy f (f n) w

  pub WhileFitsBy : (ℕ → Bool) → Bool → WhatTree → Type 0
  WhileFitsBy f c (assign v e) = Unit {0}
  WhileFitsBy f c (block_if arms other) = record { alone : c ≡ true → OnePart arms other; parts : WhilesFitArms f arms; last : WhilesFitElse f other }
  WhileFitsBy f c (logical_if e s) = IsSingle s
  WhileFitsBy f c (do_loop l) = WhilesFitBody f l
  WhileFitsBy f c (call x es) = Unit {0}
  WhileFitsBy f c (goto l) = Unit {0}
  WhileFitsBy f c continue = Unit {0}
  WhileFitsBy f c return = Unit {0}
  WhileFitsBy f c (stop t) = Unit {0}
  WhileFitsBy f c (print es) = Unit {0}
  WhileFitsBy f c (read es) = Unit {0}

  pub WhilesFitBody : (ℕ → Bool) → LoopTree → Type 0
  WhilesFitBody f (loop index first last step body) = WhilesFit f body

  pub WhilesFitArms : (ℕ → Bool) → ArmTrees → Type 0
  WhilesFitArms f no_arms = Unit {0}
  WhilesFitArms f (more_arms (arm test body) others) = record { below : WhilesFit f body; parts : WhilesFitArms f others }

  pub WhilesFitElse : (ℕ → Bool) → ElseTree → Type 0
  WhilesFitElse f no_else = Unit {0}
  WhilesFitElse f (otherwise body) = WhilesFit f body

  pub WhilesFit : (ℕ → Bool) → StmtTrees → Type 0
  WhilesFit f no_stmts = Unit {0}
  WhilesFit f (more_stmts s others) = record { first : WhileFits f s; behind : WhilesFit f others }
