use Rattle.std.proofs.Common.{◌∙◌, ap}
use Rattle.affine_systems.specs.Items.{collapsed}
use Rattle.affine_systems.specs.Tidy.{sorted, one_each}
use Rattle.work_area.proofs.Swaps.{keeps_more, keeps_front, front_items, items_in-take}
use Rattle.work_area.proofs.forming.in_form.Goals as goal

pub returns-clause-items : goal.returns-clause-items
returns-clause-items c =
    front_items c.arrange-len.new.rows _ c.arrange-len.result c.arrange-len.ensures.within
    ∙ (c.arrange-len.ensures.items ∙ ap (λ is. collapsed (one_each (sorted is))) (items_in-take c.collapse-kept.new.rows c.collapse-kept.result ∙ (c.collapse-kept.ensures.items ∙ ap collapsed c.normal_rows-kept.ensures.items)))

pub returns-clause-room : goal.returns-clause-room
returns-clause-room c =
    keeps_more c.args.rows.now c.collapse-kept.new.rows _
    (keeps_more c.args.rows.now c.normal_rows-kept.new.rows c.collapse-kept.new.rows c.normal_rows-kept.ensures.room c.collapse-kept.ensures.room)
    (keeps_front c.collapse-kept.new.rows c.arrange-len.new.rows c.collapse-kept.result c.arrange-len.ensures.room)
