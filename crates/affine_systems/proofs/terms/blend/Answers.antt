use Rattle.std.proofs.Common.{◌+ℤ◌, ◌*ℤ◌, ◌∙◌, ◌<◌, ◌^◌, ap₂, sym, subst, to_z-of_z, unsigned_abs}
use Rattle.affine_systems.proofs.Numbers.{sum_fits, sum_in_range}
use Rattle.affine_systems.proofs.FitLaws.{sum_below}
use Rattle.affine_systems.proofs.terms.blend.Goals as goal

pub overflow_add-result : goal.overflow_add-result
overflow_add-result c = sum_in_range c.scale.result c.scale-2.result c.scale.ensures.below c.scale-2.ensures.below

pub returns-clause-defined : goal.returns-clause-defined
returns-clause-defined c =
    sum_fits c.scale.result c.scale-2.result c.scale.ensures.below c.scale-2.ensures.below
    ∙ ap₂ (λ x y. x +ℤ y)
    (c.scale.ensures.defined ∙ ap₂ (λ x y. x *ℤ y) (to_z-of_z c.ranges.p) (to_z-of_z c.ranges.x))
    (c.scale-2.ensures.defined ∙ ap₂ (λ x y. x *ℤ y) (to_z-of_z c.ranges.q) (to_z-of_z c.ranges.y))

pub returns-clause-below : goal.returns-clause-below
returns-clause-below c =
    subst (λ z. unsigned_abs z < 2 ^ 126) (sym (returns-clause-defined c))
    (sum_below c.args.p c.args.x c.args.q c.args.y c.requires.one c.requires.first c.requires.two c.requires.second)
