use Rattle.std.proofs.Common.{◌∙◌, sym}
use Rattle.affine_systems.proofs.PlaceSteps.{unfaced}
use Rattle.affine_systems.proofs.facing.stays.Goals as goal

pub returns-then-may_face : goal.returns-then-may_face
returns-then-may_face c = c.stays_among.ensures

pub returns : goal.returns
returns c e = unfaced c.args.table.now c.args.item.now c.args.items.now c.requires.one.0 c.requires.sided (sym c.may_face.ensures ∙ c.if-may_face.false)
