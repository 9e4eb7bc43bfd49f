use Rattle.std.proofs.Common.{◌∙◌, sym, ap}
use Rattle.affine_systems.specs.Tidy.{unit_var}
use Rattle.affine_systems.proofs.PivotSteps.{substituted_is}
use Rattle.affine_systems.proofs.pivots.substitute_pivot.Goals as goal

pub returns-in_ok-cancel_all : goal.returns-in_ok-cancel_all
returns-in_ok-cancel_all c =
    substituted_is c.args.made c.args.pivot.now c.in-Some.v c.args.items.now.items c.cancel_all.new.items.items c.requires.one.0
    (ap unit_var (sym c.as_slice.ensures) ∙ sym c.in-Some.ensures) c.in_ok-cancel_all.ensures
