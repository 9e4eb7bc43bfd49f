use Rattle.std.proofs.Common.{◌<◌, ◌^◌, ◌∙◌, sym, subst, arith, unsigned_abs, SFits, to_z-of_z, rules}
use Rattle.std.specs.Int.{w128}
use Rattle.affine_systems.proofs.AscendLaws.{factor_below}
use Rattle.affine_systems.proofs.calls.renamed_terms.Goals as goal

pub combination-requires-clause-two : goal.combination-requires-clause-two
combination-requires-clause-two c =
    let f : SFits w128 c.factor_of-factor.result = search rules in
    subst (λ z. unsigned_abs z < 2 ^ 62) (sym (to_z-of_z f ∙ c.factor_of-factor.ensures)) (factor_below (2 ^ 62) c.args.from c.args.terms.now (omega arith) c.requires.0 c.requires.1)

pub combination-requires-else-is_before-clause-two : goal.combination-requires-else-is_before-clause-two
combination-requires-else-is_before-clause-two c =
    let f : SFits w128 c.factor_of-factor.result = search rules in
    subst (λ z. unsigned_abs z < 2 ^ 62) (sym (to_z-of_z f ∙ c.factor_of-factor.ensures)) (factor_below (2 ^ 62) c.args.from c.args.terms.now (omega arith) c.requires.0 c.requires.1)
