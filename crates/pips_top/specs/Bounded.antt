-- What the lines on the references of a program claim of its runs.
use Rattle.std.specs.Prelude.{◌≡◌, ℕ, Bool, true, false, Some, slice_get}
use Rattle.f77_meaning.specs.Modules.{known_of}
use Rattle.pipsmake_base.specs.loop_marker.Results.{ModuleResults}
use Rattle.laws_bounds.specs.SafeLines.{SafeLinesHold}
use Rattle.pips_top.specs.Program.{ProgramTree}
use Rattle.pips_top.specs.Said.{scalars_said}
use Rattle.pips_top.specs.Shown.{results_of_program}

-- a reference on a line SAFE of a module stays inside its array, and adds no fault of subscripts, at each arrival of a statement that evaluates it, in every run up to its first fault
abbrev pub BoundsHold : ProgramTree → Type 0
BoundsHold p = (j : ℕ) (f : ModuleResults) → slice_get (results_of_program p) j ≡ Some f → SafeLinesHold (known_of p.modules p.tables) p.graph (scalars_said f)

-- where such lines are wanted
abbrev pub BoundsWanted : Bool → ProgramTree → Type 0
BoundsWanted false p = Unit {0}
BoundsWanted true p = BoundsHold p
