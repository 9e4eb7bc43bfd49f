use Rattle.std.proofs.Common.{◌≤◌, ◌^◌, sym, subst, unsigned_abs}
use Rattle.affine_systems.proofs.Numbers.{product_fits}
use Rattle.affine_systems.proofs.FitLaws.{product_below}
use Rattle.affine_systems.proofs.terms.scale.Goals as goal

pub returns-clause-defined : goal.returns-clause-defined
returns-clause-defined c = product_fits c.args.p c.args.x c.requires.factor c.requires.number

pub returns-clause-below : goal.returns-clause-below
returns-clause-below c =
    subst (λ z. unsigned_abs z ≤ 2 ^ 124) (sym (product_fits c.args.p c.args.x c.requires.factor c.requires.number))
    (product_below c.args.p c.args.x c.requires.factor c.requires.number)
