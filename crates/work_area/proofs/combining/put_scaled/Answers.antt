use Rattle.std.proofs.Common.{◌≡◌, ◌∙◌, ◌++◌, ◌<◌, ◌≤◌, ◌^◌, ◌+◌, ◌*ℤ◌, [], pos, sym, ap, subst, get_or, drop, SFits, to_z, of_z, to_z-of_z, rules, unsigned_abs, arith, length}
use Rattle.std.specs.Int.{w128}
use Rattle.std.specs.Vec.{vec_capacity}
use Rattle.affine_systems.specs.declared.row.Var.TheVariants.{Cell}
use Rattle.affine_systems.specs.Terms.{term, term_before, add_terms}
use Rattle.affine_systems.proofs.Merges.{small_at, scaled_more, scaled_all}
use Rattle.work_area.proofs.Rooms.{front_room}
use Rattle.work_area.proofs.combining.put_scaled.Goals as goal

pub scale-requires-clause-number : goal.scale-requires-clause-number
scale-requires-clause-number c =
    let x = (get_or c.args.terms.now c.loop-t.t-index (term (Cell 0) (pos 0))).factor in
    let f : SFits w128 x = search rules in
    subst (λ z. unsigned_abs z < 2 ^ 62) (sym (to_z-of_z f)) (small_at c.args.terms.now c.loop-t.t-index (term (Cell 0) (pos 0)) c.requires.small c.loop-t-test.true)

pub put_nonzero-requires : goal.put_nonzero-requires
put_nonzero-requires c =
    let t = get_or c.args.terms.now c.loop-t.t-index (term (Cell 0) (pos 0)) in
    let f : SFits w128 t.factor = search rules in
    let g : SFits w128 c.scale.result = search rules in
    let p = to_z w128 (of_z w128 c.args.p) in
    let e : to_z w128 (of_z w128 c.scale.result) ≡ p *ℤ t.factor
    = to_z-of_z g ∙ (c.scale.ensures ∙ ap (λ x. p *ℤ x) (to_z-of_z f)) in
    let out = c.loop-t.out.items ++ term_before t.var (to_z w128 (of_z w128 c.scale.result)) [] in
    let goal' = c.args.out.now.items ++ add_terms p c.args.terms.now [] in
    let m = scaled_more c.loop-t.out.items out p c.args.terms.now goal' c.loop-t.t-index (term (Cell 0) (pos 0))
    c.loop-t-test.true c.requires.small.0 (ap (λ z. c.loop-t.out.items ++ term_before t.var z []) e) c.loop-t.invariant.items in
    let l : length goal' ≤ vec_capacity c.args.out.now = subst (λ z. length (c.args.out.now.items ++ add_terms z c.args.terms.now []) ≤ vec_capacity c.args.out.now) (sym (to_z-of_z c.ranges.p)) c.requires.room in
    front_room out (add_terms p (drop (c.loop-t.t-index + 1) c.args.terms.now) []) goal' (vec_capacity c.args.out.now) (vec_capacity c.loop-t.out) m l c.loop-t.invariant.room

pub loop-t-preserved : goal.loop-t-preserved
loop-t-preserved c =
    let t = get_or c.args.terms.now c.loop-t.t-index (term (Cell 0) (pos 0)) in
    let f : SFits w128 t.factor = search rules in
    let g : SFits w128 c.scale.result = search rules in
    let p = to_z w128 (of_z w128 c.args.p) in
    let e : to_z w128 (of_z w128 c.scale.result) ≡ p *ℤ t.factor
    = to_z-of_z g ∙ (c.scale.ensures ∙ ap (λ x. p *ℤ x) (to_z-of_z f)) in
    record {
      items = scaled_more c.loop-t.out.items c.put_nonzero.new.out.items p c.args.terms.now (c.args.out.now.items ++ add_terms p c.args.terms.now []) c.loop-t.t-index (term (Cell 0) (pos 0))
          c.loop-t-test.true c.requires.small.0 (c.put_nonzero.ensures.items ∙ ap (λ z. c.loop-t.out.items ++ term_before t.var z []) e) c.loop-t.invariant.items;
      room = omega (arith, c.put_nonzero.ensures.room, c.loop-t.invariant.room);
    }

pub returns-clause-items : goal.returns-clause-items
returns-clause-items c =
    scaled_all c.loop-t.out.items (to_z w128 (of_z w128 c.args.p)) c.args.terms.now (c.args.out.now.items ++ add_terms (to_z w128 (of_z w128 c.args.p)) c.args.terms.now []) c.loop-t.t-index c.loop-t-test.false c.loop-t.invariant.items
    ∙ ap (λ z. c.args.out.now.items ++ add_terms z c.args.terms.now []) (to_z-of_z c.ranges.p)
