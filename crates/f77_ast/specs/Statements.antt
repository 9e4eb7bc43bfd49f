-- The executable statements, one clause for each form (ANSI X3.9-1978 §7.1).
use Rattle.std.specs.Prelude.{ℕ, List, [], ◌∷◌, Option, if◌then◌else◌}
use Rattle.f77_ast.specs.Trees.{ExprTree, StmtTree, StmtTrees, WhatTree, ArmTree, ArmTrees, ElseTree, LoopTree}
use Rattle.f77_ast.specs.Trees as tree
use Rattle.f77_ast.specs.Steps.{Spot}
use Rattle.f77_ast.specs.Numbers.{is_true}
use Rattle.f77_ast.specs.Places.{Names, Places}
use Rattle.f77_ast.specs.Values.{value, all_shown, name_target}
use Rattle.f77_ast.specs.Writes.{Locks, assigned, items_read}
use Rattle.f77_ast.specs.Plans.{Normal, Jump, Returned, Stopped, Plan, Ends, Show as ShowPlan, Within, first}
use Rattle.f77_ast.specs.Lists.{Part, list_plan}
use Rattle.f77_ast.specs.Loops.{range_of, loop_plan}
use Rattle.f77_ast.specs.Calls.{Meaning, actuals, call_plan}

-- what is the same for all statements of a module in a run
pub record Scope : Type 0 where
  pub module_name : List ℕ
  pub names : Names
  -- how often a list may jump
  pub turns : ℕ
  -- the unit of an expression that is an actual, by the number of the CALL and by its place there
  pub own_unit : ℕ → ℕ → ℕ
  pub callee : List ℕ → Meaning

abbrev pub spot : List ℕ → ℕ → Spot
spot m n = record { module_name = m; statement = n }

abbrev pub label_of : StmtTree → Option ℕ
label_of (tree.stmt n label what) = label

abbrev mutual
  -- an execution of a statement, from its arrival on
  pub statement_plan : StmtTree → Scope → Places → Locks → Plan
  statement_plan (tree.stmt n label what) sc at locked = Within (spot sc.module_name n) at (execution what n sc at locked) (λ f. Ends f)

  pub execution : WhatTree → ℕ → Scope → Places → Locks → Plan
  execution (tree.assign left right) n sc at locked = first (assigned left right sc.names at locked) (λ o. Ends Normal)
  execution (tree.block_if arms rest) n sc at locked = arms_plan arms sc at locked (else_plan rest sc at locked)
  execution (tree.logical_if test s) n sc at locked = first (value test sc.names at) (λ c. if is_true c.number then statement_plan s sc at locked else Ends Normal)
  execution (tree.do_loop l) n sc at locked = do_plan l sc at locked
  execution (tree.call callee es) n sc at locked = call_plan (actuals es 0 sc.names at (sc.own_unit n)) (sc.callee callee) locked
  execution (tree.goto l) n sc at locked = Ends (Jump l)
  execution tree.continue n sc at locked = Ends Normal
  execution tree.return n sc at locked = Ends Returned
  execution (tree.stop text) n sc at locked = Ends Stopped
  execution (tree.print es) n sc at locked = first (all_shown es sc.names at) (λ xs. ShowPlan xs (Ends Normal))
  execution (tree.read es) n sc at locked = first (items_read es sc.names at locked) (λ o. Ends Normal)

  -- the first arm whose test is true, or what stands under ELSE (§11.6)
  pub arms_plan : ArmTrees → Scope → Places → Locks → Plan → Plan
  arms_plan tree.no_arms sc at locked rest = rest
  arms_plan (tree.more_arms a as') sc at locked rest = arm_plan a sc at locked (arms_plan as' sc at locked rest)

  pub arm_plan : ArmTree → Scope → Places → Locks → Plan → Plan
  arm_plan (tree.arm test body) sc at locked rest = first (value test sc.names at) (λ c. if is_true c.number then list_plan sc.turns (parts body sc at locked) else rest)

  pub else_plan : ElseTree → Scope → Places → Locks → Plan
  else_plan tree.no_else sc at locked = Ends Normal
  else_plan (tree.otherwise body) sc at locked = list_plan sc.turns (parts body sc at locked)

  pub do_plan : LoopTree → Scope → Places → Locks → Plan
  do_plan (tree.loop index e1 e2 e3 body) sc at locked =
      loop_plan (range_of e1 e2 e3 sc.names at) (name_target (sc.names index) at) locked (λ l. list_plan sc.turns (parts body sc at l))

  pub parts : StmtTrees → Scope → Places → Locks → List Part
  parts tree.no_stmts sc at locked = []
  parts (tree.more_stmts s ss) sc at locked = record { label = label_of s; does = statement_plan s sc at locked } ∷ parts ss sc at locked

-- a list of statements from its first
abbrev pub body_plan : StmtTrees → Scope → Places → Locks → Plan
body_plan ss sc at locked = list_plan sc.turns (parts ss sc at locked)
