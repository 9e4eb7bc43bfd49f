use Rattle.std.proofs.Common.{arith}
use Rattle.affine_systems.specs.declared.row.Var.TheVariants.{Cell}
use Rattle.hull_projection.proofs.LoneLaws.{all_one}
use Rattle.hull_projection.proofs.eliminations.eliminate_some.Goals as goal

pub returns-clause-defined : goal.returns-clause-defined
returns-clause-defined c =
    all_one c.args.rational c.args.left c.in_ok-left.left c.in_ok-left-2.left c.args.vars.now c.in_ok-left.done (Cell 0) (omega (arith, c.in_ok-left.ensures.within, c.if-done-vars.false))
    c.in_ok-left.ensures.defined c.in_ok-left-2.ensures.defined
