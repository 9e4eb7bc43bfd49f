use Rattle.std.proofs.Common.{◌∙◌, ap, sym}
use Rattle.affine_systems.specs.Tidy.{unit_var}
use Rattle.affine_systems.proofs.PivotSteps.{substituted_is}
use Rattle.work_area.specs.Slots.{item_in, items_in}
use Rattle.work_area.proofs.pivots.cancel_pivot.Goals as goal

pub returns-in-Some-clause-items : goal.returns-in-Some-clause-items
returns-in-Some-clause-items c =
    substituted_is c.args.made (item_in c.args.pivot.now) c.in-Some.v (items_in c.args.rows.now) (items_in c.cancel_all.new.rows) c.requires.by.0
    (ap unit_var (sym c.as_slice.ensures.value) ∙ (sym c.unit_var.ensures ∙ c.in-Some.is)) c.cancel_all.ensures.items
