use Rattle.std.proofs.Common.{◌≡◌, ◌≤◌, ◌+◌, ◌*◌, ◌++◌, ◌∷◌, List, length, take}
use Rattle.affine_systems.specs.declared.items.Item.{Item}
use Rattle.affine_systems.specs.Eliminate.{is_lower, is_upper, keep, pairs}
use Rattle.work_area.specs.Slots.{items_in, KeepsRoom}
use Rattle.work_area.specs.Filling.{Stands}
use Rattle.work_area.proofs.pairing.add_pairs.Given as goal

abbrev pub invariant-loop-low : goal.invariant-loop-low
invariant-loop-low l = record {
  within : l.filled.len ≤ 512;
  len : length l.out ≡ 512;
  stands : (is : List Item) → Stands is l.fn.out l.fn.filled → Stands (is ++ pairs l.fn.made l.fn.v (keep (is_lower l.fn.v) (take l.low-index (items_in l.fn.rows))) (keep (is_upper l.fn.v) (items_in l.fn.rows))) l.out l.filled;
  number : l.next ≡ l.fn.made + length (keep (is_lower l.fn.v) (take l.low-index (items_in l.fn.rows))) * length (keep (is_upper l.fn.v) (items_in l.fn.rows));
  room : KeepsRoom (l.fn.scratch ∷ l.fn.out) (l.scratch ∷ l.out);
}
