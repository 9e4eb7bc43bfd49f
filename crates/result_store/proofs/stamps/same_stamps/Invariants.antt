use Rattle.std.proofs.Common.{◌≡◌, length, map}
use Rattle.std.specs.Cmp.Lexicographic.{pointwise}
use Rattle.result_store.specs.Stamps.{same_stamped}
use Rattle.result_store.specs.Values.{stamped_tree}
use Rattle.result_store.proofs.stamps.same_stamps.Given as goal

abbrev pub invariant-loop-left : goal.invariant-loop-left
invariant-loop-left l = pointwise same_stamped (map stamped_tree l.left) (map stamped_tree l.right) ≡ pointwise same_stamped (map stamped_tree l.fn.a) (map stamped_tree l.fn.b)

abbrev pub decreases-loop-left : goal.decreases-loop-left
decreases-loop-left l = length l.left
