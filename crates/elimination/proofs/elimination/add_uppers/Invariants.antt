use Rattle.std.proofs.Common.{List, ◌++◌, take}
use Rattle.affine_systems.specs.declared.items.Item.{Item}
use Rattle.affine_systems.specs.Items.{rows_of}
use Rattle.affine_systems.specs.Eliminate.{with_uppers}
use Rattle.affine_systems.specs.Lone.{Rises}
use Rattle.elimination.specs.Held.{Stands}
use Rattle.elimination.proofs.elimination.add_uppers.Given as goal

abbrev pub invariant-loop-i : goal.invariant-loop-i
invariant-loop-i l =
    ((is : List Item) → Stands l.fn.rational is l.fn.form → Stands l.fn.rational (is ++ with_uppers l.fn.made l.fn.v l.fn.low (take l.i l.fn.ups)) l.form) × Rises (rows_of l.form.items.items)
