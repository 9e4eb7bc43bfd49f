-- What holds of every statement, and walks in code.
use Rattle.std.proofs.Common.{◌≡◌, ℕ, Option, refl}
use Rattle.f77_ast.specs.declared.stmt.What.{the_lemmas}
use Rattle.f77_ast.specs.Trees.{ExprTree, StmtTree, WhatTree, ArmTrees, ElseTree, StmtTrees}
use Rattle.f77_ast.specs.Trees as tree
use Rattle.f77_ast.specs.Shapes.{IsLeaf, Walk, walk_what}
use Rattle.f77_ast.proofs.PlainlyStmt.{what_cases, loop_tree-out, stmt_trees-drop, arm_trees-drop_at}

-- ---- induction

-- S holds of each statement, A of the arms of a block IF, E of its ELSE and L of each list, given that they hold of the parts
pub record Induction (S : StmtTree → Type 0) (A : ArmTrees → Type 0) (E : ElseTree → Type 0) (L : StmtTrees → Type 0) : Type 0 where
  pub leaf : (n : ℕ) (label : Option ℕ) (w : WhatTree) → IsLeaf w → S (tree.stmt n label w)
  pub inner : (n : ℕ) (label : Option ℕ) (test : ExprTree) (s : StmtTree) → S s → S (tree.stmt n label (tree.logical_if test s))
  pub body : (n : ℕ) (label : Option ℕ) (index : _) (first last : ExprTree) (step : _) (list : StmtTrees) → L list → S (tree.stmt n label (tree.do_loop (tree.loop index first last step list)))
  pub arms : (n : ℕ) (label : Option ℕ) (as' : ArmTrees) (other : ElseTree) → A as' → E other → S (tree.stmt n label (tree.block_if as' other))
  pub no_arm : A tree.no_arms
  pub more_arms : (test : ExprTree) (list : StmtTrees) (rest : ArmTrees) → L list → A rest → A (tree.more_arms (tree.arm test list) rest)
  pub no_else : E tree.no_else
  pub below_else : (list : StmtTrees) → L list → E (tree.otherwise list)
  pub no_statement : L tree.no_stmts
  pub more_statements : (s : StmtTree) (rest : StmtTrees) → S s → L rest → L (tree.more_stmts s rest)

module _ (S : StmtTree → Type 0) (A : ArmTrees → Type 0) (E : ElseTree → Type 0) (L : StmtTrees → Type 0) (h : Induction S A E L) where
  mutual
    pub every_statement : (s : StmtTree) → S s
    every_statement (tree.stmt n label w) = every_what n label w

    every_what : (n : ℕ) (label : Option ℕ) (w : WhatTree) → S (tree.stmt n label w)
    every_what n label (tree.assign a b) = h.leaf n label (tree.assign a b) refl
    every_what n label (tree.block_if as' other) = h.arms n label as' other (every_arm as') (every_else other)
    every_what n label (tree.logical_if test s) = h.inner n label test s (every_statement s)
    every_what n label (tree.do_loop (tree.loop index first last step list)) = h.body n label index first last step list (every_list list)
    every_what n label (tree.call x es) = h.leaf n label (tree.call x es) refl
    every_what n label (tree.goto l) = h.leaf n label (tree.goto l) refl
    every_what n label tree.continue = h.leaf n label tree.continue refl
    every_what n label tree.return = h.leaf n label tree.return refl
    every_what n label (tree.stop text) = h.leaf n label (tree.stop text) refl
    every_what n label (tree.print es) = h.leaf n label (tree.print es) refl
    every_what n label (tree.read es) = h.leaf n label (tree.read es) refl

    pub every_arm : (as' : ArmTrees) → A as'
    every_arm tree.no_arms = h.no_arm
    every_arm (tree.more_arms (tree.arm test list) rest) = h.more_arms test list rest (every_list list) (every_arm rest)

    pub every_else : (other : ElseTree) → E other
    every_else tree.no_else = h.no_else
    every_else (tree.otherwise list) = h.below_else list (every_list list)

    pub every_list : (list : StmtTrees) → L list
    every_list tree.no_stmts = h.no_statement
    every_list (tree.more_stmts s rest) = h.more_statements s rest (every_statement s) (every_list rest)

-- ---- walks

pub leaf_walk : {R : Type 0} (f : Walk R) (n : ℕ) (label : Option ℕ) (w : WhatTree) → IsLeaf w → walk_what f n label w ≡ f.of_leaf n label w
leaf_walk f n label (tree.assign a b) h = refl
leaf_walk f n label (tree.block_if as' other) h = cc
leaf_walk f n label (tree.logical_if test s) h = cc
leaf_walk f n label (tree.do_loop l) h = cc
leaf_walk f n label (tree.call x es) h = refl
leaf_walk f n label (tree.goto l) h = refl
leaf_walk f n label tree.continue h = refl
leaf_walk f n label tree.return h = refl
leaf_walk f n label (tree.stop text) h = refl
leaf_walk f n label (tree.print es) h = refl
leaf_walk f n label (tree.read es) h = refl

-- functions that go down by `shape_of`, and their loops
pub ruleset shape_calls = (what_cases, loop_tree-out, stmt_trees-drop, arm_trees-drop_at, leaf_walk, the_lemmas)
