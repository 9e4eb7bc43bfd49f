use Rattle.std.proofs.Common.{take}
use Rattle.affine_systems.specs.Rows.{AllRows}
use Rattle.affine_systems.specs.Items.{rows_of}
use Rattle.affine_systems.specs.Lone.{AreApart}
use Rattle.elimination.proofs.closed.is_apart_among.Given as goal

abbrev pub invariant-loop-other : goal.invariant-loop-other
invariant-loop-other l = AllRows (AreApart l.item.row) (rows_of (take l.other-index l.items))
