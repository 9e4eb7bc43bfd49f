use Rattle.std.proofs.Common.{◌≡◌, ◌<◌, length, get_or, arith, SFits, to_z, of_z, to_z-of_z, rules, ap, ◌∙◌, pos, set}
use Rattle.std.proofs.lemmas.List.{get_or_default}
use Rattle.std.specs.Int.{int_div_euclid, w128}
use Rattle.affine_systems.specs.declared.row.Var.TheVariants.{Cell}
use Rattle.affine_systems.specs.Terms.{term}
use Rattle.affine_systems.proofs.Factors.{divided_more, divided_index}
use Rattle.work_area.proofs.normal.divide.Goals as goal

pub loop-i-preserved : goal.loop-i-preserved
loop-i-preserved c =
    let i = c.loop-i.i in
    let old = c.args.terms.now.items in
    let ts = c.loop-i.terms.items in
    let d = term (Cell 0) (pos 0) in
    let x = get_or c.as_slice.result.now i d in
    let f : SFits w128 c.floor_div-factor.result = search rules in
    let g : SFits w128 x.factor = search rules in
    let q : to_z w128 (of_z w128 c.floor_div-factor.result) ≡ int_div_euclid x.factor (pos c.args.g)
    = to_z-of_z f ∙ (c.floor_div-factor.ensures ∙ ap (λ z. int_div_euclid z (pos c.args.g)) (to_z-of_z g)) in
    let h : i < length old = omega (arith, c.len-i-end.ensures) in
    let k : i < length ts = divided_index c.args.g old ts i c.loop-i.invariant.items h in
    record {
      items = ap (λ z. set ts i (term x.var z)) q
          ∙ divided_more c.args.g old ts i x h c.loop-i.invariant.items (ap (λ us. get_or us i d) c.as_slice.ensures.value ∙ get_or_default ts i d x k);
      room = c.loop-i.invariant.room;
    }
