-- What is asked of the marked loops of a program, each at its executions.
use Rattle.std.specs.Prelude.{◌≡◌, ℕ, false, nat_eq, List, [], ◌∷◌, Some}
use Rattle.f77_ast.specs.Trees.{StmtTree, StmtTrees, WhatTree, ArmTree, ArmTrees, ElseTree, LoopTree}
use Rattle.f77_ast.specs.Trees as tree
use Rattle.f77_ast.specs.Store.{Content, Store}
use Rattle.f77_ast.specs.Runs.{Event}
use Rattle.f77_ast.specs.Places.{Variable, Names, Places}
use Rattle.f77_ast.specs.Writes.{Locks}
use Rattle.f77_ast.specs.Calls.{in_place}
use Rattle.f77_ast.specs.Statements.{spot, do_plan}
use Rattle.f77_ast.specs.Programs.{Routine, meanings}
use Rattle.laws_interleavings.specs.MarkedStatements.{MarkedScope, loop_with}
use Rattle.laws_interleavings.specs.Accumulating.{Directive}
use Rattle.laws_interleavings.specs.MarkedPrograms.{Directives, marked_scope, marked_meanings}
use Rattle.laws_interleavings.specs.Holds.{MarksHold}
use Rattle.laws_marks.specs.ConflictExecutions.{Execution}
use Rattle.laws_interleavings.specs.Typed.{TagsStand, IsNoDummy}
use Rattle.laws_interleavings.specs.Plans.Cleared.{Off}

-- ---- the DOs of a list, with their numbers

abbrev mutual
  pub StmtDos : (ℕ → LoopTree → Type 0) → StmtTree → Type 0
  StmtDos P (tree.stmt n label w) = WhatDos P n w

  pub WhatDos : (ℕ → LoopTree → Type 0) → ℕ → WhatTree → Type 0
  WhatDos P n (tree.assign a b) = Unit {0}
  WhatDos P n (tree.block_if arms other) = ArmsDos P arms × ElseDos P other
  WhatDos P n (tree.logical_if e s) = StmtDos P s
  WhatDos P n (tree.do_loop l) = P n l × LoopDos P l
  WhatDos P n (tree.call x es) = Unit {0}
  WhatDos P n (tree.goto l) = Unit {0}
  WhatDos P n tree.continue = Unit {0}
  WhatDos P n tree.return = Unit {0}
  WhatDos P n (tree.stop text) = Unit {0}
  WhatDos P n (tree.print es) = Unit {0}
  WhatDos P n (tree.read es) = Unit {0}

  pub LoopDos : (ℕ → LoopTree → Type 0) → LoopTree → Type 0
  LoopDos P (tree.loop index first last step body) = ListDos P body

  pub ArmsDos : (ℕ → LoopTree → Type 0) → ArmTrees → Type 0
  ArmsDos P tree.no_arms = Unit {0}
  ArmsDos P (tree.more_arms a rest) = ArmDos P a × ArmsDos P rest

  pub ArmDos : (ℕ → LoopTree → Type 0) → ArmTree → Type 0
  ArmDos P (tree.arm test body) = ListDos P body

  pub ElseDos : (ℕ → LoopTree → Type 0) → ElseTree → Type 0
  ElseDos P tree.no_else = Unit {0}
  ElseDos P (tree.otherwise body) = ListDos P body

  pub ListDos : (ℕ → LoopTree → Type 0) → StmtTrees → Type 0
  ListDos P tree.no_stmts = Unit {0}
  ListDos P (tree.more_stmts s rest) = StmtDos P s × ListDos P rest

-- ---- an execution of a marked DO

-- units which are no units of a module's variables, unless they are locked
abbrev pub AreOff : (ℕ → Type 0) → Locks → Names → Places → Type 0
AreOff units locked w at = (u : ℕ) → units u → Off u locked w at

-- wherever its module's variables lie, and whatever is locked: where the claim holds of the execution and of what the run does after it, what is claimed of a marked loop holds
abbrev pub MarkedDoHolds : (ℕ → Type 0) → (Execution → List Event → Type 0) → MarkedScope → ℕ → LoopTree → Type 0
MarkedDoHolds units C sc n l =
    (e : Directive) → sc.marks n ≡ Some e → (at : Places) (locked : Locks) → TagsStand sc.plain.names at → AreOff units locked sc.plain.names at → (s : Store) (i : List Content) (later : List Event) →
    C (record { spot = spot sc.plain.module_name n; places = at; does = do_plan l sc.plain at locked; start = s; input = i }) later → MarksHold (loop_with (Some e) l sc at locked) s i later

-- ---- modules

-- the unit is none of a variable of the module that is no dummy, nor the first one of a variable without extent
abbrev pub IsOutside : ℕ → Routine → Type 0
IsOutside u r = (x : List ℕ) (v : ℕ) → r.names x ≡ Variable v → IsNoDummy r.dummies v → (in_place (r.fixed v) u ≡ false) × (nat_eq (r.fixed v).first u ≡ false)

-- so it is of all units rs, for the first of the modules rs, and for each of those behind it with its own
abbrev pub AreOutside : (List Routine → ℕ → Type 0) → List Routine → Type 0
AreOutside units [] = Unit {0}
AreOutside units (r ∷ rs) = ((u : ℕ) → units (r ∷ rs) u → IsOutside u r) × AreOutside units rs

-- the marked DOs of a module, and of those behind it, which it may call
abbrev pub RoutineHolds : ℕ → Directives → (List Routine → ℕ → Type 0) → (Execution → List Event → Type 0) → Routine → List Routine → Type 0
RoutineHolds turns marks units C r rs = ListDos (MarkedDoHolds (units (r ∷ rs)) C (marked_scope r turns marks (meanings rs turns) (marked_meanings rs turns marks))) r.body

abbrev pub RoutinesHold : ℕ → Directives → (List Routine → ℕ → Type 0) → (Execution → List Event → Type 0) → List Routine → Type 0
RoutinesHold turns marks units C [] = Unit {0}
RoutinesHold turns marks units C (r ∷ rs) = RoutineHolds turns marks units C r rs × RoutinesHold turns marks units C rs
