use Rattle.std.proofs.Common.{◌∙◌, sym}
use Rattle.affine_systems.proofs.PlaceSteps.{few_rows}
use Rattle.affine_systems.proofs.pivots.is_shared.Goals as goal

pub returns-then-is_rare : goal.returns-then-is_rare
returns-then-is_rare c = sym (few_rows c.args.table.now c.args.items.now c.args.v c.requires.covers (sym c.is_rare.ensures ∙ c.if-is_rare.true))
