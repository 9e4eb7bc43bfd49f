use Rattle.std.proofs.Common.{◌≡◌, ◌<◌, length, get_or, arith, SFits, to_z, of_z, to_z-of_z, rules, ap, ◌∙◌, pos, set}
use Rattle.std.proofs.lemmas.List.{get_or_default}
use Rattle.std.specs.Int.{int_div_euclid, w128}
use Rattle.affine_systems.specs.declared.row.Var.TheVariants.{Cell}
use Rattle.affine_systems.specs.Terms.{term}
use Rattle.affine_systems.proofs.Factors.{divided_more, divided_index}
use Rattle.affine_systems.proofs.normal.divide.Goals as goal

pub loop-i-preserved : goal.loop-i-preserved
loop-i-preserved c =
    let i = c.loop-i.i in
    let d = term (Cell 0) (pos 0) in
    let x = get_or c.as_slice.result.now i d in
    let f : SFits w128 c.floor_div-factor.result = search rules in
    let g : SFits w128 x.factor = search rules in
    let q : to_z w128 (of_z w128 c.floor_div-factor.result) ≡ int_div_euclid x.factor (pos c.args.g)
    = to_z-of_z f ∙ (c.floor_div-factor.ensures ∙ ap (λ z. int_div_euclid z (pos c.args.g)) (to_z-of_z g)) in
    let h : i < length c.args.terms.now = omega (arith, c.len-i-end.ensures) in
    let k : i < length c.loop-i.terms = divided_index c.args.g c.args.terms.now c.loop-i.terms i c.loop-i.invariant h in
    c.set.ensures ∙ (ap (λ z. set c.loop-i.terms i (term x.var z)) q
    ∙ divided_more c.args.g c.args.terms.now c.loop-i.terms i x h c.loop-i.invariant (ap (λ ts. get_or ts i d) c.as_slice.ensures ∙ get_or_default c.loop-i.terms i d x k))
