-- IN of statements with their parts, one clause for each form (ANSI X3.9-1978 §7.1), and the sets at each statement, in the order of the text.
use Rattle.std.specs.Prelude.{ℕ, Bool, false, List, [], ◌∷◌, ◌++◌}
use Rattle.f77_ast.specs.Trees.{ExprTree, StmtTree, WhatTree, ArmTree, ArmTrees, ElseTree, LoopTree, StmtTrees}
use Rattle.f77_ast.specs.Trees as tree
use Rattle.f77_ast.specs.declared.results.At.{At}
use Rattle.array_regions.specs.call_translation.Scopes.{ScopeTree}
use Rattle.array_regions.specs.transformers.Statement.{at}
use Rattle.array_regions.specs.region_sets.declared.region.Region.{Region}
use Rattle.array_regions.specs.region_sets.Lists.{accesses_at, list_regions, set_at}
use Rattle.array_regions.specs.region_sets.Sets.{unite_all}
use Rattle.array_regions.specs.declared.arms.Reached.{Reached}
use Rattle.array_regions.specs.Reads.{reads}
use Rattle.array_regions.specs.Arms.{always, if_true, into_arm, past_arm, past_arms, all_met, tests_reads}
use Rattle.in_out_regions.specs.Kinds.{all_in, first_reads}
use Rattle.in_out_regions.specs.Lists.{all_unless_overlapped, list_in}
use Rattle.in_out_regions.specs.Known.{KnownTree}
use Rattle.in_out_regions.specs.Simple.{reading}
use Rattle.in_out_regions.specs.Loops.{do_in}

-- a list with these sets at its statements; `whole` says that it is the body of the module
abbrev pub list_of : Bool → StmtTrees → KnownTree → List (At (List Region)) → List Region
list_of whole body k as' = list_in k.scope.symbols k.does (set_at k.accesses) (set_at as') whole body

-- the statement of a logical IF, which has this number and set, as a list of it alone
abbrev pub alone : KnownTree → ℕ → List Region → List Region
alone k n rs = all_unless_overlapped k.scope.symbols (set_at k.accesses n) (unite_all rs)

-- a logical IF whose statement has this set
abbrev pub if_in : ScopeTree → ExprTree → List Region → List Region
if_in m e rs = unite_all (all_in (reads e m) ++ all_met (if_true m e always) rs)

-- READ and WRITE of a body, from those of its statements
abbrev pub body_accesses : StmtTrees → KnownTree → List Region
body_accesses body k = list_regions k.does (accesses_at k.accesses) false body

-- a DO whose body has these sets at its statements
abbrev pub do_of : LoopTree → KnownTree → List (At (List Region)) → List Region
do_of (tree.loop index first last step body) k as' = do_in (tree.loop index first last step body) k (body_accesses body k) (list_of false body k as')

abbrev mutual
  pub stmt_in : StmtTree → KnownTree → List Region
  stmt_in (tree.stmt n label w) k = what_in n w k

  -- of the statement with a number
  pub what_in : ℕ → WhatTree → KnownTree → List Region
  what_in n (tree.assign a b) k = first_reads (set_at k.accesses n)
  what_in n (tree.block_if arms other) k = unite_all (all_in (tests_reads arms k.scope always) ++ (arms_in arms k always ++ else_in other k (past_arms arms k.scope always)))
  what_in n (tree.logical_if e s) k = if_in k.scope e (only_in s k)
  what_in n (tree.do_loop l) k = do_of l k (at_loop l k)
  what_in n (tree.call x es) k = k.called x es
  what_in n (tree.goto l) k = first_reads (set_at k.accesses n)
  what_in n tree.continue k = first_reads (set_at k.accesses n)
  what_in n tree.return k = first_reads (set_at k.accesses n)
  what_in n (tree.stop text) k = first_reads (set_at k.accesses n)
  what_in n (tree.print es) k = first_reads (set_at k.accesses n)
  what_in n (tree.read es) k = reading es k.scope

  -- the statement of a logical IF
  pub only_in : StmtTree → KnownTree → List Region
  only_in (tree.stmt n label w) k = alone k n (what_in n w k)

  -- the arms of an IF, each where its test is true and those above it are false
  pub arms_in : ArmTrees → KnownTree → Reached → List Region
  arms_in tree.no_arms k w = []
  arms_in (tree.more_arms a rest) k w = arm_in a k (into_arm a k.scope w) ++ arms_in rest k (past_arm a k.scope w)

  pub arm_in : ArmTree → KnownTree → Reached → List Region
  arm_in (tree.arm e body) k w = all_met w (list_of false body k (at_list body k))

  pub else_in : ElseTree → KnownTree → Reached → List Region
  else_in tree.no_else k w = []
  else_in (tree.otherwise body) k w = all_met w (list_of false body k (at_list body k))

  -- ---- at each statement

  pub at_stmt : StmtTree → KnownTree → List (At (List Region))
  at_stmt (tree.stmt n label w) k = at n (what_in n w k) ∷ at_parts w k

  pub at_parts : WhatTree → KnownTree → List (At (List Region))
  at_parts (tree.assign a b) k = []
  at_parts (tree.block_if arms other) k = at_arms arms k ++ at_else other k
  at_parts (tree.logical_if e s) k = at_stmt s k
  at_parts (tree.do_loop l) k = at_loop l k
  at_parts (tree.call x es) k = []
  at_parts (tree.goto l) k = []
  at_parts tree.continue k = []
  at_parts tree.return k = []
  at_parts (tree.stop text) k = []
  at_parts (tree.print es) k = []
  at_parts (tree.read es) k = []

  pub at_list : StmtTrees → KnownTree → List (At (List Region))
  at_list tree.no_stmts k = []
  at_list (tree.more_stmts s rest) k = at_stmt s k ++ at_list rest k

  pub at_arms : ArmTrees → KnownTree → List (At (List Region))
  at_arms tree.no_arms k = []
  at_arms (tree.more_arms a rest) k = at_arm a k ++ at_arms rest k

  pub at_arm : ArmTree → KnownTree → List (At (List Region))
  at_arm (tree.arm e body) k = at_list body k

  pub at_else : ElseTree → KnownTree → List (At (List Region))
  at_else tree.no_else k = []
  at_else (tree.otherwise body) k = at_list body k

  pub at_loop : LoopTree → KnownTree → List (At (List Region))
  at_loop (tree.loop index first last step body) k = at_list body k

-- a list; `whole` says that it is the body of the module
abbrev pub list_set : Bool → StmtTrees → KnownTree → List Region
list_set whole body k = list_of whole body k (at_list body k)
