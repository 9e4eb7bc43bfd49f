use Rattle.std.proofs.Common.{◌∙◌, false, ap, arith}
use Rattle.std.proofs.lemmas.List.{length-take}
use Rattle.affine_systems.specs.Tidy.{in_form, any_too_big}
use Rattle.work_area.proofs.Swaps.{keeps_front, front_items, items_in-take}
use Rattle.work_area.proofs.forming.form_front.Goals as goal

pub returns-clause-within : goal.returns-clause-within
returns-clause-within c = omega (arith, c.in_form.ensures.within, c.in_form.auto.rows, length-take c.args.len c.args.rows.now)

pub returns-clause-items : goal.returns-clause-items
returns-clause-items c =
    front_items c.in_form.new.rows _ c.in_form.result.0 c.in_form.ensures.within
    ∙ (c.in_form.ensures.items ∙ ap (in_form false) (items_in-take c.args.rows.now c.args.len))

pub returns-clause-lost : goal.returns-clause-lost
returns-clause-lost c = c.in_form.ensures.lost ∙ ap (any_too_big false) (items_in-take c.args.rows.now c.args.len)

pub returns-clause-room : goal.returns-clause-room
returns-clause-room c = keeps_front c.args.rows.now c.in_form.new.rows c.args.len c.in_form.ensures.room
