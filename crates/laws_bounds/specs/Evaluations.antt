-- Where a statement evaluates its expressions: what it does before each of them.
use Rattle.std.specs.Prelude.{◌≡◌, ℕ, List, [], ◌∷◌, Option, Some, None}
use Rattle.f77_ast.specs.Trees.{ExprTree, ExprTrees, WhatTree, ArmTrees, LoopTree}
use Rattle.f77_ast.specs.Trees as tree
use Rattle.f77_ast.specs.Store.{Content, Store}
use Rattle.f77_ast.specs.Steps.{◌>>=◌}
use Rattle.f77_ast.specs.Runs.{Whole, run}
use Rattle.f77_ast.specs.Places.{Names, Places}
use Rattle.f77_ast.specs.Writes.{Locks, items_read}
use Rattle.f77_ast.specs.Calls.{actuals}
use Rattle.f77_ast.specs.Plans.{Plan}
use Rattle.f77_ast.specs.Executions.{AtEndOf}
use Rattle.f77_ast.specs.Statements.{Scope, execution}
use Rattle.f77_parser.specs.Elaborated.{and_last}

-- an expression that a statement evaluates; before it the statement has read these items, or has made these actual arguments
pub record Evaluation : Type 0 where
  pub expression : ExprTree
  pub items : ExprTrees
  pub actuals : ExprTrees

-- of other statements: expressions leave the store, so each is evaluated at that of the arrival
abbrev pub at_start : ExprTree → Evaluation
at_start e = record { expression = e; items = tree.no_exprs; actuals = tree.no_exprs }

abbrev pub all_at_start : ExprTrees → List Evaluation
all_at_start tree.no_exprs = []
all_at_start (tree.more_exprs e es) = at_start e ∷ all_at_start es

-- an item of a READ is evaluated when those before it are set (ANSI X3.9-1978 §12.8)
abbrev pub after_items : ExprTrees → ExprTrees → List Evaluation
after_items done tree.no_exprs = []
after_items done (tree.more_exprs e es) = record { expression = e; items = done; actuals = tree.no_exprs } ∷ after_items (and_last done e) es

-- an actual argument when those before it are made
abbrev pub after_actuals : ExprTrees → ExprTrees → List Evaluation
after_actuals done tree.no_exprs = []
after_actuals done (tree.more_exprs e es) = record { expression = e; items = tree.no_exprs; actuals = done } ∷ after_actuals (and_last done e) es

abbrev pub tests_of : ArmTrees → List Evaluation
tests_of tree.no_arms = []
tests_of (tree.more_arms (tree.arm test body) rest) = at_start test ∷ tests_of rest

abbrev pub step_of : Option ExprTree → List Evaluation
step_of None = []
step_of (Some e) = at_start e ∷ []

abbrev pub header_of : LoopTree → List Evaluation
header_of (tree.loop index first last step body) = at_start first ∷ at_start last ∷ step_of step

-- of a statement itself, and not of one inside it
abbrev pub evaluations : WhatTree → List Evaluation
evaluations (tree.assign a b) = at_start b ∷ at_start a ∷ []
evaluations (tree.block_if arms other) = tests_of arms
evaluations (tree.logical_if e s) = at_start e ∷ []
evaluations (tree.do_loop l) = header_of l
evaluations (tree.call x es) = after_actuals tree.no_exprs es
evaluations (tree.goto l) = []
evaluations tree.continue = []
evaluations tree.return = []
evaluations (tree.stop text) = []
evaluations (tree.print es) = all_at_start es
evaluations (tree.read es) = after_items tree.no_exprs es

-- at the store that an execution has come to when it evaluates the expression, where it comes so far without a fault; own: the units of temporaries
abbrev pub ComesTo : Names → Places → Locks → (ℕ → ℕ) → Evaluation → Store → List Content → (Store → Type 0) → Type 0
ComesTo w at locked own v s i Q = AtEndOf (run (items_read v.items w at locked >>= λ o. actuals v.actuals 0 w at own) (Whole s) i) (λ xs z j. Q z)

-- the plan is an execution of this statement of a module with these names
pub record Does (w : Names) (n : ℕ) (what : WhatTree) (at : Places) (t : Plan) : Type 0 where
  pub scope : Scope
  pub named : scope.names ≡ w
  pub locked : Locks
  pub is : t ≡ execution what n scope at locked
