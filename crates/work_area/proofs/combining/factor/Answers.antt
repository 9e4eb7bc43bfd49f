use Rattle.std.proofs.Common.{◌<◌, ◌^◌, ◌∙◌, ap, sym, subst, unsigned_abs, SFits, to_z-of_z, rules}
use Rattle.std.specs.Int.{w128}
use Rattle.affine_systems.specs.Points.{factor_of}
use Rattle.work_area.specs.Slots.{row_in}
use Rattle.affine_systems.proofs.FitLaws.{factor_small}
use Rattle.work_area.proofs.combining.factor.Goals as goal

pub returns-clause-small : goal.returns-clause-small
returns-clause-small c =
    let f : SFits w128 c.factor_of.result = search rules in
    subst (λ z. unsigned_abs z < 2 ^ 62) (sym (to_z-of_z f ∙ (c.factor_of.ensures ∙ ap (factor_of c.args.v) c.as_slice.ensures.value))) (factor_small c.args.v (row_in c.args.slot.now) c.requires)
