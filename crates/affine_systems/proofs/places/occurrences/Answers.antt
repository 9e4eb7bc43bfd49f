use Rattle.std.proofs.Common.{subst}
use Rattle.affine_systems.specs.Places.{Noted}
use Rattle.affine_systems.proofs.PlaceSteps.{counted_none, counted_more, counted_end}
use Rattle.affine_systems.proofs.places.occurrences.Goals as goal

pub loop-item-init : goal.loop-item-init
loop-item-init c = counted_none c.no_places-table.result

pub loop-item-preserved : goal.loop-item-preserved
loop-item-preserved c =
    counted_more c.loop-item.table c.note_terms.new.table c.args.items.now c.loop-item.item-index c.item-item.result c.loop-item-test.true c.item-item.is c.loop-item.invariant
    (subst (λ ts. Noted c.loop-item.table c.note_terms.new.table ts) c.as_slice.ensures c.note_terms.ensures)

pub returns : goal.returns
returns c = counted_end c.loop-item.table c.args.items.now c.loop-item.item-index c.loop-item-test.false c.loop-item.invariant
