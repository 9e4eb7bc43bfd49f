use Rattle.std.proofs.Common.{◌≡◌, ◌≤◌, ◌+◌, ◌++◌, ◌∷◌, List, length, take}
use Rattle.affine_systems.specs.declared.items.Item.{Item}
use Rattle.affine_systems.specs.Eliminate.{is_upper, keep, with_uppers}
use Rattle.work_area.specs.Slots.{item_in, items_in, KeepsRoom}
use Rattle.work_area.specs.Filling.{Stands}
use Rattle.work_area.proofs.pairing.add_uppers.Given as goal

abbrev pub invariant-loop-up : goal.invariant-loop-up
invariant-loop-up l = record {
  within : l.filled.len ≤ 512;
  len : length l.out ≡ 512;
  stands : (is : List Item) → Stands is l.fn.out l.fn.filled → Stands (is ++ with_uppers l.fn.made l.fn.v (item_in l.fn.low) (keep (is_upper l.fn.v) (take l.up-index (items_in l.fn.rows)))) l.out l.filled;
  number : l.next ≡ l.fn.made + length (keep (is_upper l.fn.v) (take l.up-index (items_in l.fn.rows)));
  room : KeepsRoom (l.fn.scratch ∷ l.fn.out) (l.scratch ∷ l.out);
}
