use Rattle.std.proofs.Common.{◌≡◌, ◌<◌, ℕ, true}
use Rattle.affine_systems.specs.Tidy.{rises_at}
use Rattle.elimination.proofs.closed.all_rise.Given as goal

abbrev pub invariant-loop-i : goal.invariant-loop-i
invariant-loop-i l = (k : ℕ) → k < l.i → rises_at l.items k ≡ true
