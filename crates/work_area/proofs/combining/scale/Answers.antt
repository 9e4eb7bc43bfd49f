use Rattle.affine_systems.proofs.Numbers.{product_fits}
use Rattle.work_area.proofs.combining.scale.Goals as goal

pub returns : goal.returns
returns c = product_fits c.args.p c.args.x c.requires.factor c.requires.number
