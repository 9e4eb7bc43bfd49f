-- The list of a DO WHILE. It is the only part of a block IF; its only statement is a hidden labelled block IF with the test and the
-- statements of the DO WHILE, and a GO TO its label as the last of them (f77_ast, specs/Hidden).
use Rattle.std.specs.Prelude.{ℕ, Bool, false, not, ◌&&◌, List, [], ◌∷◌, Option, Some, None, if◌then◌else◌}
use Rattle.f77_ast.specs.Trees.{ExprTree, StmtTree, WhatTree, ArmTree, ArmTrees, ElseTree, StmtTrees}
use Rattle.f77_ast.specs.Trees as tree
use Rattle.f77_ast.specs.Hidden.{is_hidden}
use Rattle.affine_forms.specs.Conditions.{condition_of}
use Rattle.call_translation.specs.transformer_algebra.declared.transformer.Transformer.{Transformer}
use Rattle.call_translation.specs.transformer_algebra.Transformers.{test, followed, iterate}
use Rattle.call_translation.specs.Scopes.{ScopeTree}
use Rattle.transformers.specs.Jumps.{goes_to, stmt_has, is_end, unstructured}
use Rattle.transformers.specs.Lists.{in_order, in_any_order}

-- ---- which lists they are

abbrev pub does_such : (WhatTree → Bool) → StmtTree → Bool
does_such such (tree.stmt n label w) = such w

-- the last statement is such, and no other one or part of it
abbrev pub only_last : (WhatTree → Bool) → StmtTrees → Bool
only_last such tree.no_stmts = false
only_last such (tree.more_stmts s rest) = if is_end rest then does_such such s else not (stmt_has such s) && only_last such rest

-- a list ends with a GO TO the label, and has no other
abbrev pub goes_back : ℕ → StmtTrees → Bool
goes_back l body = only_last (goes_to (l ∷ [])) body

-- the test of a DO WHILE and the statements of its labelled block IF, with the GO TO
pub record WhileTree : Type 0 where
  pub test : ExprTree
  pub body : StmtTrees

-- the only part of a block IF
abbrev pub only_arm : ArmTrees → ElseTree → Option ArmTree
only_arm tree.no_arms other = None
only_arm (tree.more_arms a tree.no_arms) tree.no_else = Some a
only_arm (tree.more_arms a tree.no_arms) (tree.otherwise body) = None
only_arm (tree.more_arms a (tree.more_arms b rest)) other = None

abbrev pub only_arm_in : WhatTree → Option ArmTree
only_arm_in (tree.assign a b) = None
only_arm_in (tree.block_if arms other) = only_arm arms other
only_arm_in (tree.logical_if test s) = None
only_arm_in (tree.do_loop l) = None
only_arm_in (tree.call x es) = None
only_arm_in (tree.goto l) = None
only_arm_in tree.continue = None
only_arm_in tree.return = None
only_arm_in (tree.stop text) = None
only_arm_in (tree.print es) = None
only_arm_in (tree.read es) = None

abbrev pub while_arm : Bool → ℕ → ArmTree → Option WhileTree
while_arm hidden l (tree.arm test body) = if hidden && goes_back l body then Some (record { test = test; body = body }) else None

abbrev pub while_labelled : Bool → Option ℕ → Option ArmTree → Option WhileTree
while_labelled hidden None a = None
while_labelled hidden (Some l) None = None
while_labelled hidden (Some l) (Some a) = while_arm hidden l a

abbrev pub while_at : StmtTree → Option WhileTree
while_at (tree.stmt n label w) = while_labelled (is_hidden n) label (only_arm_in w)

-- what a list is the list of, if it is that of a DO WHILE
abbrev pub while_in : StmtTrees → Option WhileTree
while_in tree.no_stmts = None
while_in (tree.more_stmts s tree.no_stmts) = while_at s
while_in (tree.more_stmts s (tree.more_stmts r rest)) = None

-- ---- what they do

abbrev pub all_before_last : List Transformer → List Transformer
all_before_last [] = []
all_before_last (t ∷ []) = []
all_before_last (t ∷ u ∷ ts) = t ∷ all_before_last (u ∷ ts)

-- the statements of a DO WHILE, from the transformers of those and of the GO TO, which changes nothing
abbrev pub while_body : StmtTrees → List Transformer → Transformer
while_body body ts = if unstructured false body then in_any_order ts else in_order (all_before_last ts)

-- one iteration: the test is true, and the statements are executed
abbrev pub while_iteration : ScopeTree → WhileTree → List Transformer → Transformer
while_iteration m w ts = followed (test (condition_of m.scalars w.test).yes) (while_body w.body ts)

-- iterations, and then the test is false
abbrev pub while_does : ScopeTree → WhileTree → List Transformer → Transformer
while_does m w ts = followed (iterate (while_iteration m w ts)) (test (condition_of m.scalars w.test).no)

-- a list of a DO WHILE, or another one, which does t
abbrev pub while_or : Option WhileTree → ScopeTree → List Transformer → Transformer → Transformer
while_or None m ts t = t
while_or (Some w) m ts t = while_does m w ts
