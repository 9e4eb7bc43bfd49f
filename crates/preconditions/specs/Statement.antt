-- What holds of the tracked cells where statements begin and after their normal ends (ANSI X3.9-1978 §7.1). In what follows `t` has the
-- transformer of the statement of each number.
use Rattle.std.specs.Prelude.{ℕ, Bool, false, List, [], ◌∷◌, ◌++◌, All, Option, Some, None, if◌then◌else◌}
use Rattle.affine_systems.specs.declared.row.System.{System}
use Rattle.affine_systems.specs.Given.{Fits}
use Rattle.affine_systems.specs.Calls.{meet}
use Rattle.hull_projection.specs.Clean.{clean}
use Rattle.hull_projection.specs.Hull.{hull}
use Rattle.f77_ast.specs.Trees.{ExprTree, StmtTree, WhatTree, ArmTree, ArmTrees, ElseTree, LoopTree, StmtTrees}
use Rattle.f77_ast.specs.Trees as tree
use Rattle.f77_ast.specs.declared.results.At.{At}
use Rattle.affine_forms.specs.Conditions.{infeasible, condition_of}
use Rattle.transformers.specs.transformer_algebra.declared.transformer.Transformer.{Transformer}
use Rattle.transformers.specs.transformer_algebra.declared.loop_parts.LoopParts.{LoopParts}
use Rattle.transformers.specs.transformer_algebra.Transformers.{iterate, apply, without}
use Rattle.transformers.specs.transformer_algebra.Loops.{iteration, at_iteration, after_loop}
use Rattle.transformers.specs.call_translation.Scopes.{ScopeTree}
use Rattle.transformers.specs.Jumps.{is_end, unstructured}
use Rattle.transformers.specs.Lists.{each_at, list_at}
use Rattle.transformers.specs.Loops.{loop_parts}
use Rattle.transformers.specs.Whiles.{WhileTree, while_in, while_iteration}
use Rattle.transformers.specs.Statement.{at}

-- ---- pieces

abbrev pub PreconditionList : Type 0
PreconditionList = ℕ → Transformer

-- what holds at each statement is a system that calls take
abbrev pub EachFits : List (At System) → Type 0
EachFits as' = All (λ (a : At System). Fits a.value) as'

abbrev pub AllFit : List System → Type 0
AllFit ss = All Fits ss

-- hulls from left to right
abbrev pub hull_from : System → List System → System
hull_from s [] = s
hull_from s (r ∷ rs) = hull_from (hull s r) rs

-- what holds where one of some does
abbrev pub some_holds : List System → System
some_holds [] = infeasible
some_holds (s ∷ ss) = hull_from s ss

-- a test is true, or false, where p holds
abbrev pub if_true : ScopeTree → ExprTree → System → System
if_true m e p = meet p (condition_of m.scalars e).yes

abbrev pub if_false : ScopeTree → ExprTree → System → System
if_false m e p = meet p (condition_of m.scalars e).no

-- the parts of a DO
abbrev pub parts_of : LoopTree → ScopeTree → PreconditionList → LoopParts
parts_of (tree.loop index first last step body) m t = loop_parts m (tree.loop index first last step body) (list_at t false body)

-- at the beginning of each iteration of a DO, where p holds before it
abbrev pub each_iteration : LoopTree → ScopeTree → PreconditionList → System → System
each_iteration l m t p = let parts = parts_of l m t in at_iteration parts (iteration parts) p

-- after it, where q holds at the end of its body
abbrev pub done : LoopTree → ScopeTree → PreconditionList → System → System → System
done l m t p q = let parts = parts_of l m t in after_loop parts (iteration parts) p q

-- in a list that does not run from the first statement to the last: what it changes is not known
abbrev pub throughout : Bool → StmtTrees → PreconditionList → System → System
throughout whole body t p = without (list_at t whole body).cells p

-- one iteration of a DO WHILE
abbrev pub while_iteration_of : WhileTree → ScopeTree → PreconditionList → Transformer
while_iteration_of w m t = while_iteration m w (each_at t w.body)

-- where its test comes next, where p holds before it
abbrev pub each_while : WhileTree → ScopeTree → PreconditionList → System → System
each_while w m t p = clean (apply (iterate (while_iteration_of w m t)) p)

-- at the beginning of a list of a DO WHILE, each time; and of another one
abbrev pub while_begins : Option WhileTree → ScopeTree → PreconditionList → System → System
while_begins None m t p = p
while_begins (Some w) m t p = each_while w m t p

-- after a DO WHILE, where q holds at its GO TO
abbrev pub while_done : WhileTree → ScopeTree → System → System → System
while_done w m p q = hull (if_false m w.test p) (if_false m w.test q)

-- after a list of a DO WHILE; r holds after another one
abbrev pub while_ends : Option WhileTree → ScopeTree → System → System → System → System
while_ends None m p q r = r
while_ends (Some w) m p q r = while_done w m p q

-- at the statements of a list of a DO WHILE, or of another one
abbrev pub while_found : Option WhileTree → List (At System) → List (At System) → List (At System)
while_found None as' bs = bs
while_found (Some w) as' bs = as'

-- where the test of an arm is false, and where those of all arms are
abbrev pub past_arm : ArmTree → ScopeTree → System → System
past_arm (tree.arm e body) m p = if_false m e p

abbrev pub past_arms : ArmTrees → ScopeTree → System → System
past_arms tree.no_arms m p = p
past_arms (tree.more_arms a rest) m p = past_arms rest m (past_arm a m p)

-- ---- after a normal end, where p holds before

abbrev mutual
  pub after : StmtTree → ScopeTree → PreconditionList → System → System
  after (tree.stmt n label w) m t p = after_what w n m t p

  pub after_what : WhatTree → ℕ → ScopeTree → PreconditionList → System → System
  after_what (tree.assign a b) n m t p = apply (t n) p
  after_what (tree.block_if arms other) n m t p = some_holds (after_arms arms m t p ++ after_else other m t (past_arms arms m p) ∷ [])
  after_what (tree.logical_if e s) n m t p = some_holds (after s m t (if_true m e p) ∷ if_false m e p ∷ [])
  after_what (tree.do_loop l) n m t p = after_loop_of l m t p
  after_what (tree.call x es) n m t p = apply (t n) p
  after_what (tree.goto l) n m t p = apply (t n) p
  after_what tree.continue n m t p = apply (t n) p
  after_what tree.return n m t p = apply (t n) p
  after_what (tree.stop text) n m t p = apply (t n) p
  after_what (tree.print es) n m t p = apply (t n) p
  after_what (tree.read es) n m t p = apply (t n) p

  -- after statements one after another
  pub after_each : StmtTrees → ScopeTree → PreconditionList → System → System
  after_each tree.no_stmts m t p = p
  after_each (tree.more_stmts s rest) m t p = after_each rest m t (after s m t p)

  -- after each of the arms of an IF, where the tests above it are false
  pub after_arms : ArmTrees → ScopeTree → PreconditionList → System → List System
  after_arms tree.no_arms m t p = []
  after_arms (tree.more_arms a rest) m t p = after_arm a m t p ∷ after_arms rest m t (past_arm a m p)

  pub after_arm : ArmTree → ScopeTree → PreconditionList → System → System
  after_arm (tree.arm e body) m t p =
      while_ends (while_in body) m (if_true m e p) (at_goto body m t (while_begins (while_in body) m t (if_true m e p)))
      (if unstructured false body then throughout false body t (if_true m e p) else after_each body m t (if_true m e p))

  -- where the last statement begins in the first arm of the block IF with which a list begins, where p holds before the test
  pub at_goto : StmtTrees → ScopeTree → PreconditionList → System → System
  at_goto tree.no_stmts m t p = p
  at_goto (tree.more_stmts s rest) m t p = goto_of_stmt s m t p

  pub goto_of_stmt : StmtTree → ScopeTree → PreconditionList → System → System
  goto_of_stmt (tree.stmt n label w) m t p = goto_of_what w m t p

  pub goto_of_what : WhatTree → ScopeTree → PreconditionList → System → System
  goto_of_what (tree.assign a b) m t p = p
  goto_of_what (tree.block_if arms other) m t p = goto_of_arms arms m t p
  goto_of_what (tree.logical_if e s) m t p = p
  goto_of_what (tree.do_loop l) m t p = p
  goto_of_what (tree.call x es) m t p = p
  goto_of_what (tree.goto l) m t p = p
  goto_of_what tree.continue m t p = p
  goto_of_what tree.return m t p = p
  goto_of_what (tree.stop text) m t p = p
  goto_of_what (tree.print es) m t p = p
  goto_of_what (tree.read es) m t p = p

  pub goto_of_arms : ArmTrees → ScopeTree → PreconditionList → System → System
  goto_of_arms tree.no_arms m t p = p
  goto_of_arms (tree.more_arms a rest) m t p = goto_of_arm a m t p

  pub goto_of_arm : ArmTree → ScopeTree → PreconditionList → System → System
  goto_of_arm (tree.arm e body) m t p = if unstructured false body then throughout false body t (if_true m e p) else before_last body m t (if_true m e p)

  -- where the last of statements one after another begins
  pub before_last : StmtTrees → ScopeTree → PreconditionList → System → System
  before_last tree.no_stmts m t p = p
  before_last (tree.more_stmts s rest) m t p = if is_end rest then p else before_last rest m t (after s m t p)

  pub after_else : ElseTree → ScopeTree → PreconditionList → System → System
  after_else tree.no_else m t p = p
  after_else (tree.otherwise body) m t p = if unstructured false body then throughout false body t p else after_each body m t p

  pub after_loop_of : LoopTree → ScopeTree → PreconditionList → System → System
  after_loop_of (tree.loop index first last step body) m t p =
      done (tree.loop index first last step body) m t p
      (if unstructured false body then throughout false body t (each_iteration (tree.loop index first last step body) m t p)
      else after_each body m t (each_iteration (tree.loop index first last step body) m t p))

-- ---- where each statement begins, in the order of the text

abbrev mutual
  pub at_stmt : StmtTree → ScopeTree → PreconditionList → System → List (At System)
  at_stmt (tree.stmt n label w) m t p = at n p ∷ at_parts w m t p

  pub at_parts : WhatTree → ScopeTree → PreconditionList → System → List (At System)
  at_parts (tree.assign a b) m t p = []
  at_parts (tree.block_if arms other) m t p = at_arms arms m t p ++ at_else other m t (past_arms arms m p)
  at_parts (tree.logical_if e s) m t p = at_stmt s m t (if_true m e p)
  at_parts (tree.do_loop l) m t p = at_loop l m t p
  at_parts (tree.call x es) m t p = []
  at_parts (tree.goto l) m t p = []
  at_parts tree.continue m t p = []
  at_parts tree.return m t p = []
  at_parts (tree.stop text) m t p = []
  at_parts (tree.print es) m t p = []
  at_parts (tree.read es) m t p = []

  pub at_each : StmtTrees → ScopeTree → PreconditionList → System → List (At System)
  at_each tree.no_stmts m t p = []
  at_each (tree.more_stmts s rest) m t p = at_stmt s m t p ++ at_each rest m t (after s m t p)

  -- of a list where the same holds throughout
  pub at_all : StmtTrees → ScopeTree → PreconditionList → System → List (At System)
  at_all tree.no_stmts m t p = []
  at_all (tree.more_stmts s rest) m t p = at_stmt s m t p ++ at_all rest m t p

  pub at_arms : ArmTrees → ScopeTree → PreconditionList → System → List (At System)
  at_arms tree.no_arms m t p = []
  at_arms (tree.more_arms a rest) m t p = at_arm a m t p ++ at_arms rest m t (past_arm a m p)

  pub at_arm : ArmTree → ScopeTree → PreconditionList → System → List (At System)
  at_arm (tree.arm e body) m t p =
      while_found (while_in body) (at_all body m t (while_begins (while_in body) m t (if_true m e p)))
      (if unstructured false body then at_all body m t (throughout false body t (if_true m e p)) else at_each body m t (if_true m e p))

  pub at_else : ElseTree → ScopeTree → PreconditionList → System → List (At System)
  at_else tree.no_else m t p = []
  at_else (tree.otherwise body) m t p = if unstructured false body then at_all body m t (throughout false body t p) else at_each body m t p

  pub at_loop : LoopTree → ScopeTree → PreconditionList → System → List (At System)
  at_loop (tree.loop index first last step body) m t p =
      if unstructured false body then at_all body m t (throughout false body t (each_iteration (tree.loop index first last step body) m t p))
      else at_each body m t (each_iteration (tree.loop index first last step body) m t p)

-- a list; `whole` says that it is the body of the module
abbrev pub after_list : Bool → StmtTrees → ScopeTree → PreconditionList → System → System
after_list whole body m t p = if unstructured whole body then throughout whole body t p else after_each body m t p

abbrev pub at_list : Bool → StmtTrees → ScopeTree → PreconditionList → System → List (At System)
at_list whole body m t p = if unstructured whole body then at_all body m t (throughout whole body t p) else at_each body m t p

-- the statements of an arm, where p holds and its test is true
abbrev pub after_arm_list : StmtTrees → ScopeTree → PreconditionList → System → System
after_arm_list body m t p = while_ends (while_in body) m p (at_goto body m t (while_begins (while_in body) m t p)) (after_list false body m t p)

abbrev pub at_arm_list : StmtTrees → ScopeTree → PreconditionList → System → List (At System)
at_arm_list body m t p = while_found (while_in body) (at_all body m t (while_begins (while_in body) m t p)) (at_list false body m t p)
