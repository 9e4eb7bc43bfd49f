-- Modules and programs.
use Rattle.std.specs.Prelude.{ℕ, List, [], ◌∷◌, Bool, if◌then◌else◌, bytes_eq}
use Rattle.f77_ast.specs.Trees.{StmtTrees}
use Rattle.f77_ast.specs.Store.{Store, Content}
use Rattle.f77_ast.specs.Faults.{Unset}
use Rattle.f77_ast.specs.Steps.{Faulty, Wants, OutOfTurns}
use Rattle.f77_ast.specs.Places.{Names, Place, Places}
use Rattle.f77_ast.specs.Writes.{Locks, no_locks}
use Rattle.f77_ast.specs.Plans.{Flow, Normal, Jump, Returned, Stopped, Plan, Ends, Breaks, Within, first, steps_of}
use Rattle.f77_ast.specs.Calls.{Meaning, Dummy, scalars_bound, arrays_bound, lock_doubly, forget_all, after_call}
use Rattle.f77_ast.specs.Statements.{Scope, spot, body_plan}
use Rattle.f77_ast.specs.Runs.{Ran, Whole, run, Answer, Gave, Broke}

-- a module as runs see it
pub record Routine : Type 0 where
  pub name : List ℕ
  pub names : Names
  pub dummies : List Dummy
  -- where its other variables lie
  pub fixed : Places
  -- the units of its locals that are not saved
  pub locals : List ℕ
  -- the units of the COMMON blocks that it, or a module that it reaches by calls, declares
  pub common : ℕ → Bool
  pub own_unit : ℕ → ℕ → ℕ
  pub body : StmtTrees

abbrev pub scope : Routine → ℕ → (List ℕ → Meaning) → Scope
scope r turns callee = record { module_name = r.name; names = r.names; turns = turns; own_unit = r.own_unit; callee = callee }

-- the bounds of its arrays are read, and then its statements come
abbrev pub body_of : Routine → ℕ → (List ℕ → Meaning) → List Place → Places → Locks → Plan
body_of r turns callee ps at locked =
    first (arrays_bound r.dummies ps r.names at) (λ at'. body_plan r.body (scope r turns callee) at' (lock_doubly locked r.dummies at' r.common))

-- a call arrives at the entry, its locals become undefined, and again at its end
abbrev pub called : Routine → ℕ → (List ℕ → Meaning) → Meaning
called r turns callee ps locked =
    let at = scalars_bound r.dummies ps r.fixed in
    Within (spot r.name 0) at (forget_all r.locals (body_of r turns callee ps at locked)) (after_call r.locals)

abbrev pub no_module : Meaning
no_module ps locked = Breaks (Faulty Unset)

-- the meanings of modules, each before those that it calls, by their names
abbrev pub meanings : List Routine → ℕ → List ℕ → Meaning
meanings [] turns x = no_module
meanings (r ∷ rs) turns x = if bytes_eq x r.name then called r turns (meanings rs turns) else meanings rs turns x

-- the main program, and the modules that it calls (§14)
pub record Program : Type 0 where
  pub main : Routine
  pub others : List Routine
  pub initial : Store

abbrev pub program_plan : Program → ℕ → Plan
program_plan p turns =
    Within (spot p.main.name 0) p.main.fixed (body_of p.main turns (meanings p.others turns) [] p.main.fixed no_locks) (λ f. Ends f)

-- a run on an input, in which no list jumps more often than this
abbrev pub program_run : Program → ℕ → List Content → Ran Flow
program_run p turns input = run (steps_of (program_plan p turns)) (Whole p.initial) input

-- no fault ends the run
abbrev pub Conforms : Answer Flow → Type 0
Conforms (Gave f) = Unit {0}
Conforms (Broke (Faulty f)) = ⊥
Conforms (Broke (Wants u)) = Unit {0}
Conforms (Broke OutOfTurns) = Unit {0}

-- END or STOP ends it
abbrev pub EndsRun : Answer Flow → Type 0
EndsRun (Gave Normal) = Unit {0}
EndsRun (Gave (Jump l)) = ⊥
EndsRun (Gave Returned) = ⊥
EndsRun (Gave Stopped) = Unit {0}
EndsRun (Broke b) = ⊥
