-- What fine plans give: what interleavings ask of them.
use Rattle.std.specs.Prelude.{◌≡◌, ℕ, Bool, false, List, []}
use Rattle.f77_ast.specs.Store.{Content, Store}
use Rattle.f77_ast.specs.Plans.{Plan, steps_of}
use Rattle.f77_ast.specs.Executions.{run_of}
use Rattle.f77_ast.specs.Programs.{Program}
use Rattle.f77_meaning.specs.Processes.{writes}
use Rattle.laws_interleavings.specs.Strict.{Strict, Quiet, StrictPlan}
use Rattle.laws_interleavings.specs.MarkedPrograms.{Directives, marked_program}
use Rattle.laws_interleavings.specs.Typed.{IsTagged, AllTagged}
use Rattle.laws_interleavings.specs.Plans.Fine.{IsFine}

-- a read of a unit without a value is a fault; only these units change without an event; and what may not be written is not written in any run
pub record FineUses (free own : ℕ → Bool) (t : Plan) : Type 0 where
  pub strict : Strict (steps_of t)
  pub quiet : Quiet own (steps_of t)
  pub unwritten : (s : Store) (i : List Content) (u : ℕ) → free u ≡ false → writes u (run_of t s i).trace ≡ false

abbrev pub FinePlansServe : Type 0
FinePlansServe = (free own : ℕ → Bool) (t : Plan) → IsFine free own t → FineUses free own t

-- a program with marked loops, whose variables have types and whose main program has no dummies, reads no unit without a value but to fault
abbrev pub MarkedProgramsAreStrict : Type 0
MarkedProgramsAreStrict = (p : Program) (turns : ℕ) (marks : Directives) → p.main.dummies ≡ [] → IsTagged p.main → AllTagged p.others → StrictPlan (marked_program p turns marks)
