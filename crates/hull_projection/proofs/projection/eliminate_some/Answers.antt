use Rattle.std.proofs.Common.{arith}
use Rattle.affine_systems.specs.declared.row.Var.TheVariants.{Cell}
use Rattle.hull_projection.proofs.LoneLaws.{each_one}
use Rattle.hull_projection.proofs.projection.eliminate_some.Goals as goal

pub returns-clause-defined : goal.returns-clause-defined
returns-clause-defined c =
    each_one c.args.s c.in_ok-s.s c.in_ok-s-2.s c.args.vars.now c.in_ok-s.done (Cell 0) (omega (arith, c.in_ok-s.ensures.within, c.if-done-vars.false)) c.in_ok-s.ensures.defined c.in_ok-s-2.ensures.defined
