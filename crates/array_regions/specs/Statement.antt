-- READ and WRITE of statements with their parts, one clause for each form (ANSI X3.9-1978 §7.1), and the sets at each statement, in the order of
-- the text. `t` has the transformer of the statement of each number, and `c` what a CALL accesses.
use Rattle.std.specs.Prelude.{Bool, false, List, [], ◌∷◌, ◌++◌}
use Rattle.f77_ast.specs.Trees.{StmtTree, WhatTree, ArmTree, ArmTrees, ElseTree, LoopTree, StmtTrees}
use Rattle.f77_ast.specs.Trees as tree
use Rattle.f77_ast.specs.declared.results.At.{At}
use Rattle.transformers.specs.call_translation.Scopes.{ScopeTree}
use Rattle.transformers.specs.Statement.{at}
use Rattle.region_translation.specs.region_sets.declared.region.Region.{Region}
use Rattle.region_translation.specs.region_sets.Lists.{accesses_at, list_regions}
use Rattle.region_translation.specs.region_sets.Sets.{unite_all}
use Rattle.array_regions.specs.declared.arms.Reached.{Reached}
use Rattle.array_regions.specs.Simple.{assignment, printing, reading}
use Rattle.array_regions.specs.Arms.{always, into_arm, past_arm, past_arms, all_met, tests_reads, if_set}
use Rattle.array_regions.specs.Loops.{Found, do_set}
use Rattle.array_regions.specs.Calls.{Called}

abbrev mutual
  pub stmt_set : StmtTree → ScopeTree → Found → Called → List Region
  stmt_set (tree.stmt n label w) m t c = what_set w m t c

  pub what_set : WhatTree → ScopeTree → Found → Called → List Region
  what_set (tree.assign a b) m t c = assignment m a b
  what_set (tree.block_if arms other) m t c = unite_all (tests_reads arms m always ++ (arm_sets arms m t c always ++ else_set other m t c (past_arms arms m always)))
  what_set (tree.logical_if e s) m t c = if_set m e (stmt_set s m t c)
  what_set (tree.do_loop l) m t c = body_set l m t c
  what_set (tree.call x es) m t c = c x es
  what_set (tree.goto l) m t c = []
  what_set tree.continue m t c = []
  what_set tree.return m t c = []
  what_set (tree.stop text) m t c = []
  what_set (tree.print es) m t c = printing m es
  what_set (tree.read es) m t c = reading es m

  -- the arms of an IF, each where its test is true and those above it are false
  pub arm_sets : ArmTrees → ScopeTree → Found → Called → Reached → List Region
  arm_sets tree.no_arms m t c w = []
  arm_sets (tree.more_arms a rest) m t c w = arm_set a m t c (into_arm a m w) ++ arm_sets rest m t c (past_arm a m w)

  pub arm_set : ArmTree → ScopeTree → Found → Called → Reached → List Region
  arm_set (tree.arm e body) m t c w = all_met w (list_regions t (accesses_at (at_list body m t c)) false body)

  pub else_set : ElseTree → ScopeTree → Found → Called → Reached → List Region
  else_set tree.no_else m t c w = []
  else_set (tree.otherwise body) m t c w = all_met w (list_regions t (accesses_at (at_list body m t c)) false body)

  pub body_set : LoopTree → ScopeTree → Found → Called → List Region
  body_set (tree.loop index first last step body) m t c = do_set (tree.loop index first last step body) m t (list_regions t (accesses_at (at_list body m t c)) false body)

  -- ---- at each statement

  pub at_stmt : StmtTree → ScopeTree → Found → Called → List (At (List Region))
  at_stmt (tree.stmt n label w) m t c = at n (what_set w m t c) ∷ at_parts w m t c

  pub at_parts : WhatTree → ScopeTree → Found → Called → List (At (List Region))
  at_parts (tree.assign a b) m t c = []
  at_parts (tree.block_if arms other) m t c = at_arms arms m t c ++ at_else other m t c
  at_parts (tree.logical_if e s) m t c = at_stmt s m t c
  at_parts (tree.do_loop l) m t c = at_loop l m t c
  at_parts (tree.call x es) m t c = []
  at_parts (tree.goto l) m t c = []
  at_parts tree.continue m t c = []
  at_parts tree.return m t c = []
  at_parts (tree.stop text) m t c = []
  at_parts (tree.print es) m t c = []
  at_parts (tree.read es) m t c = []

  pub at_list : StmtTrees → ScopeTree → Found → Called → List (At (List Region))
  at_list tree.no_stmts m t c = []
  at_list (tree.more_stmts s rest) m t c = at_stmt s m t c ++ at_list rest m t c

  pub at_arms : ArmTrees → ScopeTree → Found → Called → List (At (List Region))
  at_arms tree.no_arms m t c = []
  at_arms (tree.more_arms a rest) m t c = at_arm a m t c ++ at_arms rest m t c

  pub at_arm : ArmTree → ScopeTree → Found → Called → List (At (List Region))
  at_arm (tree.arm e body) m t c = at_list body m t c

  pub at_else : ElseTree → ScopeTree → Found → Called → List (At (List Region))
  at_else tree.no_else m t c = []
  at_else (tree.otherwise body) m t c = at_list body m t c

  pub at_loop : LoopTree → ScopeTree → Found → Called → List (At (List Region))
  at_loop (tree.loop index first last step body) m t c = at_list body m t c

-- a list; `whole` says that it is the body of the module
abbrev pub list_set : Bool → StmtTrees → ScopeTree → Found → Called → List Region
list_set whole body m t c = list_regions t (accesses_at (at_list body m t c)) whole body
