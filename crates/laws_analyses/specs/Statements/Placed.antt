-- That results at statements are the defined ones, statement by statement.
use Rattle.std.specs.Prelude.{◌≡◌, ℕ, ◌<◌, Bool, true, false, ◌&&◌, List, Option, Some, None}
use Rattle.affine_systems.specs.declared.row.System.{System}
use Rattle.f77_ast.specs.Trees.{ExprTree, ExprTrees, StmtTree, WhatTree, ArmTree, ArmTrees, ElseTree, LoopTree, StmtTrees}
use Rattle.f77_ast.specs.Trees as tree
use Rattle.preconditions.specs.transformer_algebra.declared.transformer.Transformer.{Transformer}
use Rattle.preconditions.specs.call_translation.Scopes.{ScopeTree}
use Rattle.preconditions.specs.transformers.Jumps.{is_end, unstructured}
use Rattle.preconditions.specs.transformers.Whiles.{WhileTree, while_in}
use Rattle.preconditions.specs.transformers.Statement.{what_transformer}
use Rattle.preconditions.specs.transformers.Given.{Callees}
use Rattle.preconditions.specs.Statement.{if_true, past_arm, past_arms, each_iteration, throughout, while_begins, after}
use Rattle.laws_analyses.specs.Statements.Targets.{has_targets}

-- results of a module by the numbers of its statements
pub record Found : Type 0 where
  pub pre : ℕ → System
  pub transformer : ℕ → Transformer

abbrev pub Either : Bool → Type 0 → Type 0 → Type 0
Either true A B = A
Either false A B = B

-- A of a list of a DO WHILE, B of another one
abbrev pub PlacedOr : Option WhileTree → Type 0 → Type 0 → Type 0
PlacedOr None A B = B
PlacedOr (Some w) A B = A

-- covers: what a CALL owes, where this holds before it
module _ (r : Found) (covers : List ℕ → ExprTrees → System → Type 0) (m : ScopeTree) (cs : Callees) (scalar : List ℕ → Bool) where
  -- of a statement with its number; it is not 0, which is that of the entry
  pub record PlacedAt (n : ℕ) (w : WhatTree) (last : Bool) (p : System) : Type 0 where
    pub numbered : 0 < n
    pub pre : r.pre n ≡ p
    pub transformer : r.transformer n ≡ what_transformer w m cs last
    pub targets : has_targets scalar w ≡ true

  abbrev mutual
    pub Placed : StmtTree → Bool → System → Type 0
    Placed (tree.stmt n label w) last p = PlacedAt n w last p × PlacedParts w p

    pub PlacedParts : WhatTree → System → Type 0
    PlacedParts (tree.assign a b) p = Unit {0}
    PlacedParts (tree.block_if arms other) p = PlacedArms arms p × PlacedElse other (past_arms arms m p)
    PlacedParts (tree.logical_if e s) p = Placed s false (if_true m e p)
    PlacedParts (tree.do_loop l) p = PlacedLoop l p
    PlacedParts (tree.call x es) p = covers x es p
    PlacedParts (tree.goto l) p = Unit {0}
    PlacedParts tree.continue p = Unit {0}
    PlacedParts tree.return p = Unit {0}
    PlacedParts (tree.stop text) p = Unit {0}
    PlacedParts (tree.print es) p = Unit {0}
    PlacedParts (tree.read es) p = Unit {0}

    -- one after another
    pub PlacedEach : StmtTrees → Bool → System → Type 0
    PlacedEach tree.no_stmts whole p = Unit {0}
    PlacedEach (tree.more_stmts s rest) whole p = Placed s (whole && is_end rest) p × PlacedEach rest whole (after s m r.transformer p)

    -- of a list where the same holds throughout
    pub PlacedAll : StmtTrees → Bool → System → Type 0
    PlacedAll tree.no_stmts whole p = Unit {0}
    PlacedAll (tree.more_stmts s rest) whole p = Placed s (whole && is_end rest) p × PlacedAll rest whole p

    pub PlacedArms : ArmTrees → System → Type 0
    PlacedArms tree.no_arms p = Unit {0}
    PlacedArms (tree.more_arms a rest) p = PlacedArm a p × PlacedArms rest (past_arm a m p)

    pub PlacedArm : ArmTree → System → Type 0
    PlacedArm (tree.arm e body) p =
        PlacedOr (while_in body) (PlacedAll body false (while_begins (while_in body) m r.transformer (if_true m e p)))
        (Either (unstructured false body) (PlacedAll body false (throughout false body r.transformer (if_true m e p))) (PlacedEach body false (if_true m e p)))

    pub PlacedElse : ElseTree → System → Type 0
    PlacedElse tree.no_else p = Unit {0}
    PlacedElse (tree.otherwise body) p = Either (unstructured false body) (PlacedAll body false (throughout false body r.transformer p)) (PlacedEach body false p)

    pub PlacedLoop : LoopTree → System → Type 0
    PlacedLoop (tree.loop index first last step body) p =
        Either (unstructured false body) (PlacedAll body false (throughout false body r.transformer (each_iteration (tree.loop index first last step body) m r.transformer p)))
        (PlacedEach body false (each_iteration (tree.loop index first last step body) m r.transformer p))

  -- a list; `whole` says that it is the body of the module
  abbrev pub PlacedList : StmtTrees → Bool → System → Type 0
  PlacedList body whole p = Either (unstructured whole body) (PlacedAll body whole (throughout whole body r.transformer p)) (PlacedEach body whole p)

  -- the statements of an arm, where its test is true
  abbrev pub PlacedArmList : StmtTrees → System → Type 0
  PlacedArmList body p = PlacedOr (while_in body) (PlacedAll body false (while_begins (while_in body) m r.transformer p)) (PlacedList body false p)
