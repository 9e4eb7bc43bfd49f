use Rattle.std.proofs.Common.{◌∙◌, sym}
use Rattle.affine_systems.proofs.PlaceSteps.{unfaced}
use Rattle.affine_systems.proofs.facing.faced_by_place.Goals as goal

pub returns : goal.returns
returns c =
    c.in_ok-copy.ensures
    ∙ sym (unfaced c.args.table.now c.args.item.now c.args.items.now c.requires.one.0 c.requires.sided (sym c.may_face.ensures ∙ c.if-may_face.false) c.args.made)
