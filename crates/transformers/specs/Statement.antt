-- What statements do to the tracked cells, one clause for each form (ANSI X3.9-1978 §7.1).
use Rattle.std.specs.Prelude.{ℕ, Bool, false, ◌&&◌, List, [], ◌∷◌, ◌++◌, if◌then◌else◌}
use Rattle.affine_systems.specs.declared.row.System.{System}
use Rattle.affine_systems.specs.Calls.{meet}
use Rattle.f77_ast.specs.Trees.{ExprTree, StmtTree, WhatTree, ArmTree, ArmTrees, ElseTree, LoopTree, StmtTrees}
use Rattle.f77_ast.specs.Trees as tree
use Rattle.f77_ast.specs.declared.results.At.{At}
use Rattle.f77_ast.specs.Summaries.{summary_in}
use Rattle.affine_forms.specs.Conditions.{no_rows, condition_of}
use Rattle.call_translation.specs.transformer_algebra.declared.transformer.Transformer.{Transformer}
use Rattle.call_translation.specs.transformer_algebra.declared.loop_parts.LoopParts.{LoopParts}
use Rattle.call_translation.specs.transformer_algebra.Transformers.{test, identity_transformer, nowhere, followed, one_of}
use Rattle.call_translation.specs.transformer_algebra.Loops.{iteration, loop_transformer}
use Rattle.call_translation.specs.Scopes.{ScopeTree, scope_tree}
use Rattle.call_translation.specs.Summary.{call_transformer}
use Rattle.transformers.specs.declared.statement.TransformerContext.{TransformerContext}
use Rattle.transformers.specs.Given.{Callees}
use Rattle.transformers.specs.Jumps.{is_end}
use Rattle.transformers.specs.Lists.{list_of}
use Rattle.transformers.specs.Loops.{loop_parts}
use Rattle.transformers.specs.Simple.{assignment, reading}
use Rattle.transformers.specs.Whiles.{while_in, while_or}

-- what a module is looked at with
abbrev pub scope_in : TransformerContext → ScopeTree
scope_in k = scope_tree k.scope.now.symbols.now k.scope.now.tracked.now

-- the summaries of what it calls
abbrev pub callees_in : TransformerContext → Callees
callees_in k = summary_in k.callees.now

-- a DO with these parts
abbrev pub parts_do : LoopParts → Transformer
parts_do l = loop_transformer l (iteration l)

-- where a system holds, as t does
abbrev pub where_holds : System → Transformer → Transformer
where_holds s t = followed (test s) t

-- a logical IF whose statement has this transformer
abbrev pub if_does : ScopeTree → ExprTree → Transformer → Transformer
if_does m e t = one_of
    (where_holds (meet no_rows (condition_of m.scalars e).yes) t ∷
    where_holds (meet no_rows (condition_of m.scalars e).no) identity_transformer ∷ [])

-- a block IF whose arms have these transformers; where all tests are false, `before` holds and t is done
abbrev pub choice : List Transformer → System → Transformer → Transformer
choice ts before t = one_of (ts ++ where_holds before t ∷ [])

-- the test of an arm is false, too
abbrev pub without_arm : ArmTree → ScopeTree → System → System
without_arm (tree.arm e body) m before = meet before (condition_of m.scalars e).no

-- the tests of all arms are
abbrev pub without_arms : ArmTrees → ScopeTree → System → System
without_arms tree.no_arms m before = before
without_arms (tree.more_arms a rest) m before = without_arms rest m (without_arm a m before)

abbrev mutual
  -- of a statement; `last` says that it is the last one of its module's body
  pub stmt_transformer : StmtTree → ScopeTree → Callees → Bool → Transformer
  stmt_transformer (tree.stmt n label w) m cs last = what_transformer w m cs last

  -- a GO TO, a STOP and a RETURN end nowhere; a RETURN that is the last statement of the body ends as it does
  pub what_transformer : WhatTree → ScopeTree → Callees → Bool → Transformer
  what_transformer (tree.assign a b) m cs last = assignment m.scalars a b
  what_transformer (tree.block_if arms other) m cs last = choice (arm_transformers arms m cs no_rows) (without_arms arms m no_rows) (else_transformer other m cs)
  what_transformer (tree.logical_if e s) m cs last = if_does m e (stmt_transformer s m cs false)
  what_transformer (tree.do_loop l) m cs last = parts_do (loop_parts m l (body_transformer l m cs))
  what_transformer (tree.call x es) m cs last = call_transformer m (cs x) es
  what_transformer (tree.goto l) m cs last = nowhere
  what_transformer tree.continue m cs last = identity_transformer
  what_transformer tree.return m cs last = if last then identity_transformer else nowhere
  what_transformer (tree.stop text) m cs last = nowhere
  what_transformer (tree.print es) m cs last = identity_transformer
  what_transformer (tree.read es) m cs last = reading m.scalars es

  -- of the statements of a list
  pub each_transformer : StmtTrees → ScopeTree → Callees → Bool → List Transformer
  each_transformer tree.no_stmts m cs whole = []
  each_transformer (tree.more_stmts s rest) m cs whole = stmt_transformer s m cs (whole && is_end rest) ∷ each_transformer rest m cs whole

  -- of the arms of an IF, where `before` holds: the tests above are false
  pub arm_transformers : ArmTrees → ScopeTree → Callees → System → List Transformer
  arm_transformers tree.no_arms m cs before = []
  arm_transformers (tree.more_arms a rest) m cs before = arm_transformer a m cs before ∷ arm_transformers rest m cs (without_arm a m before)

  pub arm_transformer : ArmTree → ScopeTree → Callees → System → Transformer
  arm_transformer (tree.arm e body) m cs before =
      where_holds (meet before (condition_of m.scalars e).yes)
      (while_or (while_in body) m (inner_transformers body m cs) (list_of false body (each_transformer body m cs false)))

  -- of the statements of the first arm of the block IF with which a list begins
  pub inner_transformers : StmtTrees → ScopeTree → Callees → List Transformer
  inner_transformers tree.no_stmts m cs = []
  inner_transformers (tree.more_stmts s rest) m cs = inner_of_stmt s m cs

  pub inner_of_stmt : StmtTree → ScopeTree → Callees → List Transformer
  inner_of_stmt (tree.stmt n label w) m cs = inner_of_what w m cs

  pub inner_of_what : WhatTree → ScopeTree → Callees → List Transformer
  inner_of_what (tree.assign a b) m cs = []
  inner_of_what (tree.block_if arms other) m cs = inner_of_arms arms m cs
  inner_of_what (tree.logical_if e s) m cs = []
  inner_of_what (tree.do_loop l) m cs = []
  inner_of_what (tree.call x es) m cs = []
  inner_of_what (tree.goto l) m cs = []
  inner_of_what tree.continue m cs = []
  inner_of_what tree.return m cs = []
  inner_of_what (tree.stop text) m cs = []
  inner_of_what (tree.print es) m cs = []
  inner_of_what (tree.read es) m cs = []

  pub inner_of_arms : ArmTrees → ScopeTree → Callees → List Transformer
  inner_of_arms tree.no_arms m cs = []
  inner_of_arms (tree.more_arms a rest) m cs = inner_of_arm a m cs

  pub inner_of_arm : ArmTree → ScopeTree → Callees → List Transformer
  inner_of_arm (tree.arm e body) m cs = each_transformer body m cs false

  pub else_transformer : ElseTree → ScopeTree → Callees → Transformer
  else_transformer tree.no_else m cs = identity_transformer
  else_transformer (tree.otherwise body) m cs = list_of false body (each_transformer body m cs false)

  pub body_transformer : LoopTree → ScopeTree → Callees → Transformer
  body_transformer (tree.loop index first last step body) m cs = list_of false body (each_transformer body m cs false)

-- the statements of an arm
abbrev pub arm_list_transformer : StmtTrees → ScopeTree → Callees → Transformer
arm_list_transformer body m cs = while_or (while_in body) m (inner_transformers body m cs) (list_of false body (each_transformer body m cs false))

-- a list; `whole` says that it is the body of the module
abbrev pub list_transformer : StmtTrees → ScopeTree → Callees → Bool → Transformer
list_transformer body m cs whole = list_of whole body (each_transformer body m cs whole)

-- ---- at each statement, in the order of the text

abbrev pub at : {T : Type 0} → ℕ → T → At T
at n t = record { id = n; value = t }

abbrev mutual
  pub at_stmt : StmtTree → ScopeTree → Callees → Bool → List (At Transformer)
  at_stmt (tree.stmt n label w) m cs last = at n (what_transformer w m cs last) ∷ at_parts w m cs

  pub at_parts : WhatTree → ScopeTree → Callees → List (At Transformer)
  at_parts (tree.assign a b) m cs = []
  at_parts (tree.block_if arms other) m cs = at_arms arms m cs ++ at_else other m cs
  at_parts (tree.logical_if test s) m cs = at_stmt s m cs false
  at_parts (tree.do_loop l) m cs = at_loop l m cs
  at_parts (tree.call x es) m cs = []
  at_parts (tree.goto l) m cs = []
  at_parts tree.continue m cs = []
  at_parts tree.return m cs = []
  at_parts (tree.stop text) m cs = []
  at_parts (tree.print es) m cs = []
  at_parts (tree.read es) m cs = []

  pub at_list : StmtTrees → ScopeTree → Callees → Bool → List (At Transformer)
  at_list tree.no_stmts m cs whole = []
  at_list (tree.more_stmts s rest) m cs whole = at_stmt s m cs (whole && is_end rest) ++ at_list rest m cs whole

  pub at_arms : ArmTrees → ScopeTree → Callees → List (At Transformer)
  at_arms tree.no_arms m cs = []
  at_arms (tree.more_arms a rest) m cs = at_arm a m cs ++ at_arms rest m cs

  pub at_arm : ArmTree → ScopeTree → Callees → List (At Transformer)
  at_arm (tree.arm test body) m cs = at_list body m cs false

  pub at_else : ElseTree → ScopeTree → Callees → List (At Transformer)
  at_else tree.no_else m cs = []
  at_else (tree.otherwise body) m cs = at_list body m cs false

  pub at_loop : LoopTree → ScopeTree → Callees → List (At Transformer)
  at_loop (tree.loop index first last step body) m cs = at_list body m cs false
