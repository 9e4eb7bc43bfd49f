use Rattle.std.proofs.Common.{◌≡◌, List, ◌++◌, ◌+◌, ◌*◌, length, take}
use Rattle.affine_systems.specs.declared.items.Item.{Item}
use Rattle.affine_systems.specs.Items.{rows_of}
use Rattle.affine_systems.specs.Eliminate.{pairs}
use Rattle.affine_systems.specs.Lone.{Rises}
use Rattle.elimination.specs.Held.{Stands}
use Rattle.elimination.proofs.elimination.add_pairs.Given as goal

abbrev pub invariant-loop-low : goal.invariant-loop-low
invariant-loop-low l =
    ((is : List Item) → Stands l.fn.rational is l.fn.form → Stands l.fn.rational (is ++ pairs l.fn.made l.fn.v (take l.low-index l.fn.lows) l.fn.ups) l.form) × Rises (rows_of l.form.items.items) × (l.next ≡ l.fn.made + l.low-index * length l.fn.ups)
