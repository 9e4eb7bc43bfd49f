use Rattle.std.proofs.Common.{◌≡◌, ◌+◌, ◌≤◌, length}
use Rattle.std.specs.Prelude.{vec_len, vec_capacity}
use Rattle.session_texts.specs.Places.{all_put}
use Rattle.session_texts.proofs.lists.put_all.Given as goal

abbrev pub invariant-loop-left : goal.invariant-loop-left
invariant-loop-left g l = record {
  same : all_put l.left l.rest l.items.items ≡ all_put l.places l.fn.more l.fn.items.items;
  room : vec_len l.items + length l.left ≤ vec_capacity l.items;
}

abbrev pub decreases-loop-left : goal.decreases-loop-left
decreases-loop-left g l = length l.left
