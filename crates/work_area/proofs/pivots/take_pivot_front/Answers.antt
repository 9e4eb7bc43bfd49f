use Rattle.std.proofs.Common.{◌≡◌, ◌∙◌, length, ap, sym, subst, arith}
use Rattle.std.proofs.lemmas.List.{take_all, length-take-le}
use Rattle.affine_systems.specs.Given.{ItemsSmall}
use Rattle.affine_systems.specs.Items.{next_made, cut_of}
use Rattle.affine_systems.specs.Tidy.{pivoted}
use Rattle.work_area.specs.Slots.{items_in}
use Rattle.work_area.specs.Columns.{InColumns}
use Rattle.work_area.proofs.Swaps.{items_in-take, length-items_in, front_items, front_rooms, keeps_front_rooms}
use Rattle.work_area.proofs.pivots.take_pivot_front.Goals as goal

pub take_pivot-requires-clause-number : goal.take_pivot-requires-clause-number
take_pivot-requires-clause-number c = c.requires.number ∙ ap next_made (sym (items_in-take c.args.rows.now c.args.len))

pub take_pivot-requires-clause-each : goal.take_pivot-requires-clause-each
take_pivot-requires-clause-each c = subst ItemsSmall (sym (items_in-take c.args.rows.now c.args.len)) c.requires.each

pub take_pivot-requires-clause-roomy : goal.take_pivot-requires-clause-roomy
take_pivot-requires-clause-roomy c =
    let r = c.requires.roomy in
    record {
      width = r.width;
      wide = front_rooms r.width c.args.len c.args.scratch.now c.args.pivot.now c.args.rows.now r.wide;
      held = subst (InColumns r.width) (sym (items_in-take c.args.rows.now c.args.len)) r.held;
    }

pub returns-clause-items : goal.returns-clause-items
returns-clause-items c =
    let ss = c.args.rows.now in
    let len = c.args.len in
    let new = c.take_pivot.new.rows in
    let l : length new ≡ len = c.take_pivot.auto.rows ∙ length-take-le len ss c.requires.len in
    front_items new _ len (omega (arith, l)) ∙ (take_all len (items_in new) (omega (arith, l, length-items_in new))
    ∙ (c.take_pivot.ensures.items ∙ ap (λ is. pivoted is (cut_of is c.args.at)) (items_in-take ss len)))

pub returns-clause-room : goal.returns-clause-room
returns-clause-room c =
    keeps_front_rooms c.args.scratch.now c.args.pivot.now c.take_pivot.new.scratch c.take_pivot.new.pivot c.args.rows.now c.take_pivot.new.rows c.args.len c.take_pivot.ensures.room
