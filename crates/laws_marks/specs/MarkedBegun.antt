-- The iterations of a marked loop, as they lie in the plan of its DO.
use Rattle.std.specs.Prelude.{◌≡◌, ℕ, ◌<◌, List, Some, slice_get}
use Rattle.f77_ast.specs.Store.{Int, Content, Store, content}
use Rattle.f77_ast.specs.Runs.{Event, Gave}
use Rattle.f77_ast.specs.Plans.{Normal, Plan, Set, steps_of}
use Rattle.f77_meaning.specs.Processes.{Marked}
use Rattle.laws_interleavings.specs.Iterations.{on_store, begun, loop_plan}
use Rattle.laws_marks.specs.ConflictIterations.{Iteration, iterations}

-- what the DO does once it has evaluated its expressions: its variable is given its first number, and then come the iterations
abbrev pub begun_plan : Marked → Plan
begun_plan m = Set m.index (content Int m.first) (loop_plan m)

abbrev pub iterations_of : Marked → Store → List Content → List Iteration
iterations_of m s i = iterations (begun_plan m) s i

-- what the body does in one of them
abbrev pub did_in : Marked → Store → ℕ → List Event
did_in m s j = (on_store (steps_of m.body) (begun m s j)).trace

abbrev pub iteration_at : Marked → Store → ℕ → Iteration
iteration_at m s j = record { start = begun m s j; did = did_in m s j; ended = Gave Normal }

-- each of these iterations is the one of the loop at its place
abbrev pub AreBegun : Marked → Store → List Iteration → Type 0
AreBegun m s xs = (j : ℕ) → j < m.count → slice_get xs j ≡ Some (iteration_at m s j)
