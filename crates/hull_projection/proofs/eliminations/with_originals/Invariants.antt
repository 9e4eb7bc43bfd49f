use Rattle.std.proofs.Common.{◌≡◌, ◌++◌, ◌≤◌, reverse, vec_len}
use Rattle.hull_projection.specs.Refute.{with_originals}
use Rattle.hull_projection.proofs.eliminations.with_originals.Given as goal

abbrev pub invariant-loop-item : goal.invariant-loop-item
invariant-loop-item l = (with_originals 0 l.items.items ++ reverse l.out.items ≡ with_originals 0 l.fn.items) × (vec_len l.items ≤ 512)

abbrev pub decreases-loop-item : goal.decreases-loop-item
decreases-loop-item l = vec_len l.items
