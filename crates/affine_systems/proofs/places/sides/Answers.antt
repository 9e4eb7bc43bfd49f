use Rattle.std.proofs.Common.{◌≤◌, subst}
use Rattle.std.specs.Prelude.{slice_index}
use Rattle.affine_systems.specs.Places.{side_of}
use Rattle.affine_systems.proofs.PlaceSteps.{sided_none, sided_more, sided_end}
use Rattle.affine_systems.proofs.places.sides.Goals as goal

pub loop-item-init : goal.loop-item-init
loop-item-init c = sided_none c.no_places-table.result

pub loop-item-preserved : goal.loop-item-preserved
loop-item-preserved c =
    sided_more c.loop-item.table c.note_side.new.table c.args.items.now c.loop-item.item-index c.item-item.result c.loop-item-test.true c.item-item.is c.loop-item.invariant c.note_side.ensures.kept
    (subst (λ ts. 1 ≤ slice_index c.note_side.new.table (side_of ts)) c.as_slice.ensures c.note_side.ensures.here)

pub returns : goal.returns
returns c = sided_end c.loop-item.table c.args.items.now c.loop-item.item-index c.loop-item-test.false c.loop-item.invariant
