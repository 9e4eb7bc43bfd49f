-- The executable statements of a program with marked loops: as those of a program without marks, but that each marked DO is kept as such.
use Rattle.std.specs.Prelude.{ℕ, zero, suc, List, [], ◌∷◌, Option, Some, None, Bool, false, ◌||◌, if◌then◌else◌, nat_eq, ℤ, ◌+ℤ◌}
use Rattle.std.specs.List.{list_any}
use Rattle.f77_ast.specs.Trees.{StmtTree, StmtTrees, WhatTree, ArmTree, ArmTrees, ElseTree, LoopTree, ExprTrees}
use Rattle.f77_ast.specs.Trees as tree
use Rattle.f77_ast.specs.Shapes.{Walk, walk_list}
use Rattle.f77_ast.specs.Store.{Int, Content, content}
use Rattle.f77_ast.specs.Faults.{Fault, Locked}
use Rattle.f77_ast.specs.Numbers.{kept, is_true}
use Rattle.f77_ast.specs.Steps.{Faulty, OutOfTurns, Steps}
use Rattle.f77_ast.specs.Steps as steps
use Rattle.f77_ast.specs.Places.{Meant, Constant, Variable, Function, Names, Place, Places}
use Rattle.f77_ast.specs.Values.{given, value, Target, name_target}
use Rattle.f77_ast.specs.Writes.{Locks, lock}
use Rattle.f77_ast.specs.Plans.{Flow, Normal, Jump, Returned, Stopped, Plan}
use Rattle.f77_ast.specs.Plans as plan
use Rattle.f77_ast.specs.Lists.{is_label, list_plan}
use Rattle.f77_ast.specs.Loops.{Range, range_of, iteration_count}
use Rattle.f77_ast.specs.Calls.{actuals, places_of, own_units, lock_own, after_call, in_place}
use Rattle.f77_ast.specs.Statements.{Scope, spot, label_of, execution, parts}
use Rattle.f77_meaning.specs.Processes.{Marked}
use Rattle.laws_interleavings.specs.Reductions.{Reduced}
use Rattle.laws_interleavings.specs.Accumulating.{Reduction, Directive, accumulators_of, summed_parts}
use Rattle.laws_interleavings.specs.Marks.{MarkedPlan, Ends, Breaks, Look, Set, Hold, Forget, Show, Take, Within, Loop, Reduce}

-- ---- plans

-- a plan without marked loops
abbrev pub unmarked : Plan → MarkedPlan
unmarked (plan.Ends f) = Ends f
unmarked (plan.Breaks b) = Breaks b
unmarked (plan.Look u k) = Look u (λ c. unmarked (k c))
unmarked (plan.Set u c t) = Set u c (unmarked t)
unmarked (plan.Hold u c t) = Hold u c (unmarked t)
unmarked (plan.Forget u t) = Forget u (unmarked t)
unmarked (plan.Show xs t) = Show xs (unmarked t)
unmarked (plan.Take k) = Take (λ o. unmarked (k o))
unmarked (plan.Within p at t k) = Within p at (unmarked t) (λ f. unmarked (k f))

-- one after the other
infixl 20 ◌▹▹◌
abbrev pub ◌▹▹◌ : MarkedPlan → (Flow → MarkedPlan) → MarkedPlan
Ends g ▹▹ f = f g
Breaks b ▹▹ f = Breaks b
Look u k ▹▹ f = Look u (λ c. k c ▹▹ f)
Set u c t ▹▹ f = Set u c (t ▹▹ f)
Hold u c t ▹▹ f = Hold u c (t ▹▹ f)
Forget u t ▹▹ f = Forget u (t ▹▹ f)
Show xs t ▹▹ f = Show xs (t ▹▹ f)
Take k ▹▹ f = Take (λ o. k o ▹▹ f)
Within p at t k ▹▹ f = Within p at t (λ g. k g ▹▹ f)
Loop m k ▹▹ f = Loop m (λ g. k g ▹▹ f)
Reduce d k ▹▹ f = Reduce d (λ g. k g ▹▹ f)

-- steps, and then a plan
abbrev pub steps_first : {A : Type 0} → Steps A → (A → MarkedPlan) → MarkedPlan
steps_first (steps.Done a) f = f a
steps_first (steps.Breaks b) f = Breaks b
steps_first (steps.Look u k) f = Look u (λ c. steps_first (k c) f)
steps_first (steps.Set u c t) f = Set u c (steps_first t f)
steps_first (steps.Hold u c t) f = Hold u c (steps_first t f)
steps_first (steps.Forget u t) f = Forget u (steps_first t f)
steps_first (steps.Show xs t) f = Show xs (steps_first t f)
steps_first (steps.Take k) f = Take (λ o. steps_first (k o) f)
steps_first (steps.Arrive p t) f = steps_first t f

abbrev pub when_normal : Flow → MarkedPlan → MarkedPlan
when_normal Normal t = t
when_normal (Jump l) t = Ends (Jump l)
when_normal Returned t = Ends Returned
when_normal Stopped t = Ends Stopped

-- ---- lists

pub record MarkedPart : Type 0 where
  pub label : Option ℕ
  pub does : MarkedPlan

abbrev pub stands : ℕ → List MarkedPart → Bool
stands l [] = false
stands l (q ∷ qs) = is_label l q.label || stands l qs

abbrev pub parts_from : ℕ → List MarkedPart → List MarkedPart
parts_from l [] = []
parts_from l (q ∷ qs) = if is_label l q.label then q ∷ qs else parts_from l qs

abbrev pub go_on : (ℕ → MarkedPlan) → List MarkedPart → MarkedPlan → Flow → MarkedPlan
go_on jump all rest Normal = rest
go_on jump all rest (Jump l) = if stands l all then jump l else Ends (Jump l)
go_on jump all rest Returned = Ends Returned
go_on jump all rest Stopped = Ends Stopped

abbrev pub one_by_one : (ℕ → MarkedPlan) → List MarkedPart → List MarkedPart → MarkedPlan
one_by_one jump all [] = Ends Normal
one_by_one jump all (q ∷ qs) = q.does ▹▹ go_on jump all (one_by_one jump all qs)

abbrev pub with_jumps : ℕ → List MarkedPart → List MarkedPart → MarkedPlan
with_jumps zero all qs = one_by_one (λ l. Breaks OutOfTurns) all qs
with_jumps (suc n) all qs = one_by_one (λ l. with_jumps n all (parts_from l all)) all qs

abbrev pub marked_list : ℕ → List MarkedPart → MarkedPlan
marked_list turns qs = with_jumps turns qs qs

-- ---- a DO that is not marked

abbrev pub marked_iterations : ℕ → ℤ → ℤ → ℕ → MarkedPlan → MarkedPlan
marked_iterations zero n step u body = Ends Normal
marked_iterations (suc k) n step u body = body ▹▹ λ f. when_normal f (steps_first (given Int (kept (n +ℤ step))) (λ c. Set u c (marked_iterations k c.number step u body)))

-- the first number is written, if the variable is not locked
abbrev pub written_first : Option Fault → ℕ → Content → MarkedPlan → MarkedPlan
written_first None u c t = Set u c t
written_first (Some f) u c t = Breaks (Faulty f)

abbrev pub marked_do : Steps Range → Steps Target → Locks → (Range → ℕ → Locks → MarkedPlan) → MarkedPlan
marked_do range variable locked loop = steps_first range (λ r. steps_first variable (λ t. loop r t.unit (lock locked t.unit Locked)))

-- ---- a module

-- what a call does, and which units it has for itself: those of expressions that are actuals in the module or in what it calls, and of locals of these modules that are not saved
pub record MarkedMeaning : Type 0 where
  pub does : List Place → Locks → MarkedPlan
  pub own : ℕ → Bool

pub record MarkedScope : Type 0 where
  -- without marks
  pub plain : Scope
  -- by the number of a DO, its directive; none where it has none
  pub marks : ℕ → Option Directive
  pub callee : List ℕ → MarkedMeaning

-- ---- the units of an iteration's own

abbrev pub one_of : (ℕ → ℕ) → ℕ → ℕ → Bool
one_of f zero u = false
one_of f (suc n) u = one_of f n u || nat_eq (f n) u

abbrev pub count : ExprTrees → ℕ
count tree.no_exprs = 0
count (tree.more_exprs e es) = suc (count es)

abbrev pub own_of_leaf : MarkedScope → ℕ → WhatTree → ℕ → Bool
own_of_leaf sc n (tree.call x es) u = one_of (sc.plain.own_unit n) (count es) u || (sc.callee x).own u
own_of_leaf sc n (tree.assign a b) u = false
own_of_leaf sc n (tree.block_if arms other) u = false
own_of_leaf sc n (tree.logical_if test s) u = false
own_of_leaf sc n (tree.do_loop l) u = false
own_of_leaf sc n (tree.goto l) u = false
own_of_leaf sc n tree.continue u = false
own_of_leaf sc n tree.return u = false
own_of_leaf sc n (tree.stop text) u = false
own_of_leaf sc n (tree.print es) u = false
own_of_leaf sc n (tree.read es) u = false

abbrev pub own_walk : MarkedScope → ℕ → Walk Bool
own_walk sc u = record {
  of_leaf = λ n label w. own_of_leaf sc n w u;
  of_inner = λ n label test s. s;
  of_body = λ n label l body. body;
  of_arms = λ n label arms other. arms || other;
  of_arm = λ test body rest. body || rest;
  of_no_arms = false;
  of_else = λ body. body;
  of_no_else = false;
  of_more = λ s rest. s || rest;
  of_end = false;
}

-- those of the CALLs of a list
abbrev pub own_in : MarkedScope → StmtTrees → ℕ → Bool
own_in sc ss u = walk_list (own_walk sc u) ss

abbrev pub unit_of : Meant → Places → ℕ → Bool
unit_of (Constant c) at u = false
unit_of (Variable v) at u = in_place (at v) u
unit_of Function at u = false

abbrev pub unit_of_some : List (List ℕ) → Names → Places → ℕ → Bool
unit_of_some xs w at u = list_any (λ x. unit_of (w x) at u) xs

-- the iterations of a marked DO
abbrev pub marked_loop : List (List ℕ) → MarkedScope → StmtTrees → Places → Range → ℕ → Locks → Marked
marked_loop xs sc body at r u locked = record {
  body = list_plan sc.plain.turns (parts body sc.plain at locked);
  index = u;
  first = r.from;
  step = r.step;
  count = iteration_count r.from r.last r.step;
  private = λ v. nat_eq v u || (unit_of_some xs sc.plain.names at v || own_in sc body v);
  named = unit_of_some xs sc.plain.names at;
}

-- begun, if its variable is not locked
abbrev pub begun_if : Option Fault → Marked → MarkedPlan
begun_if None m = Loop m (λ f. Ends f)
begun_if (Some f) m = Breaks (Faulty f)

-- the same with reduction variables
abbrev pub reduced_loop : Directive → MarkedScope → StmtTrees → Places → Range → ℕ → Locks → Reduced
reduced_loop d sc body at r u locked = record {
  loop = marked_loop d.private sc body at r u locked;
  body = list_plan sc.plain.turns (summed_parts d.reductions body sc.plain at locked);
  accumulators = accumulators_of d.reductions sc.plain.names at;
}

-- by its REDUCTION clauses: without one it is a loop as above
abbrev pub begun_by : List Reduction → Option Fault → Reduced → MarkedPlan
begun_by [] o d = begun_if o d.loop
begun_by (r ∷ rs) None d = Reduce d (λ f. Ends f)
begun_by (r ∷ rs) (Some f) d = Breaks (Faulty f)

-- ---- the statements

abbrev mutual
  pub marked_statement : StmtTree → MarkedScope → Places → Locks → MarkedPlan
  marked_statement (tree.stmt n label what) sc at locked = Within (spot sc.plain.module_name n) at (marked_execution what n sc at locked) (λ f. Ends f)

  pub marked_execution : WhatTree → ℕ → MarkedScope → Places → Locks → MarkedPlan
  marked_execution (tree.assign left right) n sc at locked = unmarked (execution (tree.assign left right) n sc.plain at locked)
  marked_execution (tree.block_if arms rest) n sc at locked = marked_arms arms sc at locked (marked_else rest sc at locked)
  marked_execution (tree.logical_if test s) n sc at locked = steps_first (value test sc.plain.names at) (λ c. if is_true c.number then marked_statement s sc at locked else Ends Normal)
  marked_execution (tree.do_loop l) n sc at locked = loop_with (sc.marks n) l sc at locked
  marked_execution (tree.call callee es) n sc at locked =
      steps_first (actuals es 0 sc.plain.names at (sc.plain.own_unit n)) (λ xs. (sc.callee callee).does (places_of xs) (lock_own locked (own_units xs)) ▹▹ λ f. unmarked (after_call (own_units xs) f))
  marked_execution (tree.goto l) n sc at locked = Ends (Jump l)
  marked_execution tree.continue n sc at locked = Ends Normal
  marked_execution tree.return n sc at locked = Ends Returned
  marked_execution (tree.stop text) n sc at locked = Ends Stopped
  marked_execution (tree.print es) n sc at locked = unmarked (execution (tree.print es) n sc.plain at locked)
  marked_execution (tree.read es) n sc at locked = unmarked (execution (tree.read es) n sc.plain at locked)

  pub marked_arms : ArmTrees → MarkedScope → Places → Locks → MarkedPlan → MarkedPlan
  marked_arms tree.no_arms sc at locked rest = rest
  marked_arms (tree.more_arms a as') sc at locked rest = marked_arm a sc at locked (marked_arms as' sc at locked rest)

  pub marked_arm : ArmTree → MarkedScope → Places → Locks → MarkedPlan → MarkedPlan
  marked_arm (tree.arm test body) sc at locked rest = steps_first (value test sc.plain.names at) (λ c. if is_true c.number then marked_list sc.plain.turns (marked_parts body sc at locked) else rest)

  pub marked_else : ElseTree → MarkedScope → Places → Locks → MarkedPlan
  marked_else tree.no_else sc at locked = Ends Normal
  marked_else (tree.otherwise body) sc at locked = marked_list sc.plain.turns (marked_parts body sc at locked)

  -- without a directive, or with one
  pub loop_with : Option Directive → LoopTree → MarkedScope → Places → Locks → MarkedPlan
  loop_with None (tree.loop index e1 e2 e3 body) sc at locked =
      marked_do (range_of e1 e2 e3 sc.plain.names at) (name_target (sc.plain.names index) at) locked
      (λ r u l. written_first (locked u) u (content Int r.from) (marked_iterations (iteration_count r.from r.last r.step) r.from r.step u (marked_list sc.plain.turns (marked_parts body sc at l))))
  loop_with (Some d) (tree.loop index e1 e2 e3 body) sc at locked =
      marked_do (range_of e1 e2 e3 sc.plain.names at) (name_target (sc.plain.names index) at) locked
      (λ r u l. begun_by d.reductions (locked u) (reduced_loop d sc body at r u l))

  pub marked_parts : StmtTrees → MarkedScope → Places → Locks → List MarkedPart
  marked_parts tree.no_stmts sc at locked = []
  marked_parts (tree.more_stmts s ss) sc at locked = record { label = label_of s; does = marked_statement s sc at locked } ∷ marked_parts ss sc at locked
