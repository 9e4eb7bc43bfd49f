use Rattle.std.proofs.Common.{◌∙◌, ◌-◌, take, ap, sym, subst, arith}
use Rattle.std.proofs.lemmas.List.{length-take-le}
use Rattle.affine_systems.specs.Given.{ItemsSmall}
use Rattle.affine_systems.specs.Items.{cut_of, others}
use Rattle.affine_systems.specs.Eliminate.{all_cancelled}
use Rattle.work_area.specs.Slots.{items_in}
use Rattle.work_area.specs.Columns.{InColumns}
use Rattle.work_area.proofs.Swaps.{items_in-take, front_items, front_rooms, keeps_front_rooms}
use Rattle.work_area.proofs.substitution.cancel_by_front.Goals as goal

pub cancel_by-requires-clause-each : goal.cancel_by-requires-clause-each
cancel_by-requires-clause-each c = subst ItemsSmall (sym (items_in-take c.args.rows.now c.args.len)) c.requires.each

pub cancel_by-requires-clause-roomy : goal.cancel_by-requires-clause-roomy
cancel_by-requires-clause-roomy c =
    let r = c.requires.roomy in
    record {
      width = r.width;
      wide = front_rooms r.width c.args.len c.args.scratch.now c.args.pivot.now c.args.rows.now r.wide;
      held = subst (InColumns r.width) (sym (items_in-take c.args.rows.now c.args.len)) r.held;
    }

pub returns-clause-items : goal.returns-clause-items
returns-clause-items c =
    let ss = c.args.rows.now in
    let len = c.args.len in
    let new = c.cancel_by.new.rows in
    let m = length-take-le len ss c.requires.len in
    front_items new _ (len - 1) (omega (arith, m, c.cancel_by.auto.rows)) ∙ (ap (λ k. take (k - 1) (items_in new)) (sym m)
    ∙ (c.cancel_by.ensures.items ∙ ap (λ is. all_cancelled c.args.made (cut_of is c.args.at).at c.args.v (others (cut_of is c.args.at))) (items_in-take ss len)))

pub returns-clause-room : goal.returns-clause-room
returns-clause-room c =
    keeps_front_rooms c.args.scratch.now c.args.pivot.now c.cancel_by.new.scratch c.cancel_by.new.pivot c.args.rows.now c.cancel_by.new.rows c.args.len c.cancel_by.ensures.room
