use Rattle.std.proofs.Common.{◌≡◌, ◌∙◌, length, ap, arith}
use Rattle.std.proofs.lemmas.List.{take_all, length-take-le}
use Rattle.affine_systems.specs.Items.{items_from, rows_of}
use Rattle.work_area.specs.Slots.{items_in}
use Rattle.work_area.proofs.Swaps.{items_in-take, length-items_in, front_items, keeps_front}
use Rattle.work_area.proofs.tables.renumber_front.Goals as goal

pub returns-clause-items : goal.returns-clause-items
returns-clause-items c =
    let new = c.renumber.new.rows in
    let l : length new ≡ c.args.len = c.renumber.auto.rows ∙ length-take-le c.args.len c.args.rows.now c.requires in
    front_items new _ c.args.len (omega (arith, l)) ∙ (take_all c.args.len (items_in new) (omega (arith, l, length-items_in new))
    ∙ (c.renumber.ensures.items ∙ ap (λ is. items_from 0 (rows_of is)) (items_in-take c.args.rows.now c.args.len)))

pub returns-clause-room : goal.returns-clause-room
returns-clause-room c = keeps_front c.args.rows.now c.renumber.new.rows c.args.len c.renumber.ensures.room
