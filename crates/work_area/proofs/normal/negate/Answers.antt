use Rattle.std.proofs.Common.{◌≡◌, ◌<◌, length, get_or, arith, SFits, to_z, of_z, to_z-of_z, rules, ap, ◌∙◌, pos, neg_ℤ, set}
use Rattle.std.proofs.lemmas.List.{get_or_default}
use Rattle.std.specs.Int.{w128}
use Rattle.affine_systems.specs.declared.row.Term.{Term}
use Rattle.affine_systems.specs.declared.row.Var.TheVariants.{Cell}
use Rattle.affine_systems.specs.Terms.{term}
use Rattle.affine_systems.specs.Normal.{is_small}
use Rattle.affine_systems.proofs.Factors.{negated_more, negated_at, negated_index, is_small_at}
use Rattle.work_area.proofs.normal.negate.Goals as goal

pub turn-factor-requires : goal.turn-factor-requires
turn-factor-requires c =
    let i = c.loop-i.i in
    let old = c.args.terms.now.items in
    let d = term (Cell 0) (pos 0) in
    let x = get_or c.as_slice.result.now i d in
    let g : SFits w128 x.factor = search rules in
    let h : i < length old = omega (arith, c.len-i-end.ensures) in
    let e : x ≡ get_or old i d = ap (λ ts. get_or ts i d) c.as_slice.ensures.value ∙ negated_at old c.loop-i.terms.items i d h c.loop-i.invariant.items in
    ap is_small (to_z-of_z g) ∙ (ap (λ (t : Term). is_small t.factor) e ∙ is_small_at old i d c.requires h)

pub loop-i-preserved : goal.loop-i-preserved
loop-i-preserved c =
    let i = c.loop-i.i in
    let old = c.args.terms.now.items in
    let ts = c.loop-i.terms.items in
    let d = term (Cell 0) (pos 0) in
    let x = get_or c.as_slice.result.now i d in
    let f : SFits w128 c.turn-factor.result = search rules in
    let g : SFits w128 x.factor = search rules in
    let q : to_z w128 (of_z w128 c.turn-factor.result) ≡ neg_ℤ x.factor = to_z-of_z f ∙ (c.turn-factor.ensures ∙ ap neg_ℤ (to_z-of_z g)) in
    let h : i < length old = omega (arith, c.len-i-end.ensures) in
    let k : i < length ts = negated_index old ts i c.loop-i.invariant.items h in
    record {
      items = ap (λ z. set ts i (term x.var z)) q
          ∙ negated_more old ts i x h c.loop-i.invariant.items (ap (λ us. get_or us i d) c.as_slice.ensures.value ∙ get_or_default ts i d x k);
      room = c.loop-i.invariant.room;
    }
