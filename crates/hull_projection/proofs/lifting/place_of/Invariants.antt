use Rattle.std.proofs.Common.{◌≡◌, ◌+◌, drop}
use Rattle.hull_projection.specs.Hull.{place_of}
use Rattle.hull_projection.proofs.lifting.place_of.Given as goal

abbrev pub invariant-loop-i : goal.invariant-loop-i
invariant-loop-i l = l.i + place_of l.v (drop l.i l.vars) ≡ place_of l.fn.v l.fn.vars
