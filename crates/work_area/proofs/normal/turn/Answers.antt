use Rattle.std.proofs.Common.{SFits, to_z, of_z, to_z-of_z, rules, arith, pos, ◌-ℤ◌, ◌∙◌, sym, subst}
use Rattle.std.proofs.lemmas.Int.{ints}
use Rattle.std.specs.Int.{w128}
use Rattle.affine_systems.proofs.Factors.{negation_small}
use Rattle.work_area.proofs.normal.turn.Goals as goal

pub returns : goal.returns
returns c =
    let g : SFits w128 c.args.z = search rules in
    let r : SFits w128 (pos 0 -ℤ to_z w128 (of_z w128 c.args.z)) = subst (λ z. SFits w128 (pos 0 -ℤ z)) (sym (to_z-of_z g)) (negation_small c.args.z c.requires) in
    to_z-of_z r ∙ (let a = to_z-of_z g in omega (arith, ints, a))
