use Rattle.std.proofs.Common.{◌∙◌, sym}
use Rattle.elimination.proofs.LoneSteps.{unfaced_apart}
use Rattle.elimination.proofs.closed.is_apart.Goals as goal

pub returns : goal.returns
returns c e = unfaced_apart c.args.table.now c.args.item.now.row c.args.items.now c.requires.one.0 c.requires.sided (sym c.may_face.ensures ∙ c.if-may_face.false)
