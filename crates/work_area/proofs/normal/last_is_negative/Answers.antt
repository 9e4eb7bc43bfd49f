use Rattle.std.proofs.Common.{SFits, to_z-of_z, rules, ap, ◌∙◌, pos, int_lt}
use Rattle.std.specs.Int.{w128}
use Rattle.affine_systems.proofs.Factors.{last_at}
use Rattle.work_area.proofs.normal.last_is_negative.Goals as goal

pub returns-in-Some : goal.returns-in-Some
returns-in-Some c =
    let f : SFits w128 c.in-Some.t.now.factor = search rules in
    ap (λ z. int_lt z (pos 0)) (to_z-of_z f) ∙ last_at c.args.terms.now c.in-Some.t.now c.in-Some.ensures.item.1 c.in-Some.ensures.item.3.0
