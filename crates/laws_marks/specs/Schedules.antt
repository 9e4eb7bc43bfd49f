-- What a program does, another does with its marked loops interleaved.
use Rattle.std.specs.Prelude.{◌⊎◌, ℕ, List}
use Rattle.f77_ast.specs.Store.{Content}
use Rattle.f77_ast.specs.Programs.{Program, program_run, EndsRun}
use Rattle.laws_interleavings.specs.Sound.{SameEnd, IsShort, Enough}
use Rattle.laws_interleavings.specs.MarkedPrograms.{Directives, marked_program, marked_run}

-- each run of the first program that comes to its end without a fault the second does with its marked loops too, by whatever schedule: it comes to the same end, prints the same, leaves the same
-- input, and each unit that has a value in the end has that of the plain run; only units of the variables of marked loops and of names of their directives may have lost theirs. Or the schedule is too short; then no
-- iteration faulted, and what was printed is the beginning of that. A schedule is long enough where
-- it gives each marked loop as many picks as its iterations have shared reads and writes
abbrev pub DoesAs : Program → Program → Directives → Type 0
DoesAs p q d =
    (turns : ℕ) (input : List Content) → EndsRun (program_run p turns input).answer → (schedule : List (List ℕ)) →
    (SameEnd (program_run p turns input) (marked_run q turns d schedule input) ⊎ IsShort (program_run p turns input) (marked_run q turns d schedule input))
    × (Enough (marked_program q turns d) q.initial schedule input → SameEnd (program_run p turns input) (marked_run q turns d schedule input))
