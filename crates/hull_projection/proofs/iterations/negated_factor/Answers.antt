use Rattle.std.proofs.Common.{◌<◌, ◌^◌, ◌∙◌, sym, subst, arith, unsigned_abs, SFits, to_z-of_z, rules}
use Rattle.std.specs.Int.{w128}
use Rattle.affine_systems.proofs.AscendLaws.{factor_below}
use Rattle.hull_projection.proofs.iterations.negated_factor.Goals as goal

pub negative-requires : goal.negative-requires
negative-requires c =
    let f : SFits w128 c.factor_of.result = search rules in
    subst (λ z. unsigned_abs z < 2 ^ 62) (sym (to_z-of_z f ∙ c.factor_of.ensures)) (factor_below (2 ^ 62) c.args.v c.args.terms.now (omega arith) c.requires.0 c.requires.1)
