use Rattle.std.proofs.Common.{◌≡◌, ◌∙◌, ◌++◌, ◌<◌, ◌≤◌, ◌^◌, ◌+◌, ◌+ℤ◌, ◌*ℤ◌, [], length, pos, sym, ap, ap₂, subst, get_or, SFits, to_z, of_z, to_z-of_z, rules, arith, refl, drop, ◌⊎◌, inl, inr, unsigned_abs}
use Rattle.std.specs.Int.{w128}
use Rattle.std.specs.Vec.{vec_capacity}
use Rattle.affine_systems.specs.declared.row.Term.{Term}
use Rattle.affine_systems.specs.declared.row.Var.TheVariants.{Cell}
use Rattle.affine_systems.specs.Terms.{term, term_before, add_terms}
use Rattle.affine_systems.specs.Given.{AreSmall}
use Rattle.affine_systems.specs.Rows.{combined_terms}
use Rattle.affine_systems.proofs.Merges.{slice_rest, small_at, small-drop, merge_less, merge_equal, merge_greater, merge_end, rest_of}
use Rattle.work_area.proofs.Rooms.{front_room, first_room, whole_room}
use Rattle.work_area.proofs.combining.put_combination.Goals.{then-loop-i-test+else-j-us, else-loop-i-test}
use Rattle.work_area.proofs.combining.put_combination.Goals as goal

none : Term
none = term (Cell 0) (pos 0)

pub scale-requires-clause-number : goal.scale-requires-clause-number
unfolding none
scale-requires-clause-number c =
    let f : SFits w128 (get_or c.args.ts.now c.loop-i.i none).factor = search rules in
    subst (λ z. unsigned_abs z < 2 ^ 62) (sym (to_z-of_z f)) (small_at c.args.ts.now c.loop-i.i none c.requires.first c.loop-i-test.true)

pub blend-requires-clause-first : goal.blend-requires-clause-first
unfolding none
blend-requires-clause-first c =
    let f : SFits w128 (get_or c.args.ts.now c.loop-i.i none).factor = search rules in
    subst (λ z. unsigned_abs z < 2 ^ 62) (sym (to_z-of_z f)) (small_at c.args.ts.now c.loop-i.i none c.requires.first c.loop-i-test.true)

pub blend-requires-clause-second : goal.blend-requires-clause-second
unfolding none
blend-requires-clause-second c =
    let f : SFits w128 (get_or c.args.us.now c.loop-i.j none).factor = search rules in
    subst (λ z. unsigned_abs z < 2 ^ 62) (sym (to_z-of_z f)) (small_at c.args.us.now c.loop-i.j none c.requires.second c.if-j-us.true)

pub scale-requires-in-Greater-clause-number : goal.scale-requires-in-Greater-clause-number
unfolding none
scale-requires-in-Greater-clause-number c =
    let f : SFits w128 (get_or c.args.us.now c.loop-i.j none).factor = search rules in
    subst (λ z. unsigned_abs z < 2 ^ 62) (sym (to_z-of_z f)) (small_at c.args.us.now c.loop-i.j none c.requires.second c.if-j-us.true)

pub put_nonzero-requires : goal.put_nonzero-requires
unfolding none
put_nonzero-requires c =
    let t = get_or c.args.ts.now c.loop-i.i none in
    let p = to_z w128 (of_z w128 c.args.p) in
    let q = to_z w128 (of_z w128 c.args.q) in
    let f : SFits w128 t.factor = search rules in
    let g : SFits w128 c.scale.result = search rules in
    let e : to_z w128 (of_z w128 c.scale.result) ≡ p *ℤ t.factor = to_z-of_z g ∙ (c.scale.ensures ∙ ap (λ x. p *ℤ x) (to_z-of_z f)) in
    let new = c.loop-i.out.items ++ term_before t.var (to_z w128 (of_z w128 c.scale.result)) [] in
    let m = merge_less c.loop-i.out.items new p c.args.ts.now q c.args.us.now (combined_terms p c.args.ts.now q c.args.us.now) c.loop-i.i c.loop-i.j none none
    c.loop-i-test.true c.if-j-us.true c.requires.first.0 c.requires.second.0 (sym c.in-Less.ensures)
    (ap (λ z. c.loop-i.out.items ++ term_before t.var z []) e) c.loop-i.invariant.merged.merged in
    let k : length (combined_terms p c.args.ts.now q c.args.us.now) ≤ vec_capacity c.args.out.now
    = subst (λ x. length (combined_terms x c.args.ts.now q c.args.us.now) ≤ vec_capacity c.args.out.now) (sym (to_z-of_z c.ranges.p)) (subst (λ y. length (combined_terms c.args.p c.args.ts.now y c.args.us.now) ≤ vec_capacity c.args.out.now) (sym (to_z-of_z c.ranges.q)) c.requires.room) in
    front_room new (rest_of p c.args.ts.now (c.loop-i.i + 1) q c.args.us.now c.loop-i.j) (combined_terms p c.args.ts.now q c.args.us.now) (vec_capacity c.args.out.now) (vec_capacity c.loop-i.out) m k c.loop-i.invariant.room

pub loop-i-preserved-in-Less : goal.loop-i-preserved-in-Less
unfolding none
loop-i-preserved-in-Less c =
    let t = get_or c.args.ts.now c.loop-i.i none in
    let p = to_z w128 (of_z w128 c.args.p) in
    let q = to_z w128 (of_z w128 c.args.q) in
    let f : SFits w128 t.factor = search rules in
    let g : SFits w128 c.scale.result = search rules in
    let e : to_z w128 (of_z w128 c.scale.result) ≡ p *ℤ t.factor = to_z-of_z g ∙ (c.scale.ensures ∙ ap (λ x. p *ℤ x) (to_z-of_z f)) in
    record {
      merged = record {
        within_first = omega arith;
        within_second = omega arith;
        merged = merge_less c.loop-i.out.items c.put_nonzero.new.out.items p c.args.ts.now q c.args.us.now (combined_terms p c.args.ts.now q c.args.us.now) c.loop-i.i c.loop-i.j none none
            c.loop-i-test.true c.if-j-us.true c.requires.first.0 c.requires.second.0 (sym c.in-Less.ensures)
            (c.put_nonzero.ensures.items ∙ ap (λ z. c.loop-i.out.items ++ term_before t.var z []) e) c.loop-i.invariant.merged.merged;
      };
      room = omega (arith, c.put_nonzero.ensures.room, c.loop-i.invariant.room);
    }

pub put_nonzero-requires-in-Equal : goal.put_nonzero-requires-in-Equal
unfolding none
put_nonzero-requires-in-Equal c =
    let t = get_or c.args.ts.now c.loop-i.i none in
    let u = get_or c.args.us.now c.loop-i.j none in
    let p = to_z w128 (of_z w128 c.args.p) in
    let q = to_z w128 (of_z w128 c.args.q) in
    let f : SFits w128 t.factor = search rules in
    let h : SFits w128 u.factor = search rules in
    let g : SFits w128 c.blend.result = search rules in
    let e : to_z w128 (of_z w128 c.blend.result) ≡ (p *ℤ t.factor) +ℤ (q *ℤ u.factor)
    = to_z-of_z g ∙ (c.blend.ensures.defined ∙ ap₂ (λ x y. (p *ℤ x) +ℤ (q *ℤ y)) (to_z-of_z f) (to_z-of_z h)) in
    let new = c.loop-i.out.items ++ term_before t.var (to_z w128 (of_z w128 c.blend.result)) [] in
    let m = merge_equal c.loop-i.out.items new p c.args.ts.now q c.args.us.now (combined_terms p c.args.ts.now q c.args.us.now) c.loop-i.i c.loop-i.j none none
    c.loop-i-test.true c.if-j-us.true c.requires.first.0 c.requires.second.0 (sym c.in-Equal.ensures)
    (ap (λ z. c.loop-i.out.items ++ term_before t.var z []) e) c.loop-i.invariant.merged.merged in
    let k : length (combined_terms p c.args.ts.now q c.args.us.now) ≤ vec_capacity c.args.out.now
    = subst (λ x. length (combined_terms x c.args.ts.now q c.args.us.now) ≤ vec_capacity c.args.out.now) (sym (to_z-of_z c.ranges.p)) (subst (λ y. length (combined_terms c.args.p c.args.ts.now y c.args.us.now) ≤ vec_capacity c.args.out.now) (sym (to_z-of_z c.ranges.q)) c.requires.room) in
    front_room new (rest_of p c.args.ts.now (c.loop-i.i + 1) q c.args.us.now (c.loop-i.j + 1)) (combined_terms p c.args.ts.now q c.args.us.now) (vec_capacity c.args.out.now) (vec_capacity c.loop-i.out) m k c.loop-i.invariant.room

pub loop-i-preserved-in-Equal : goal.loop-i-preserved-in-Equal
unfolding none
loop-i-preserved-in-Equal c =
    let t = get_or c.args.ts.now c.loop-i.i none in
    let u = get_or c.args.us.now c.loop-i.j none in
    let p = to_z w128 (of_z w128 c.args.p) in
    let q = to_z w128 (of_z w128 c.args.q) in
    let f : SFits w128 t.factor = search rules in
    let h : SFits w128 u.factor = search rules in
    let g : SFits w128 c.blend.result = search rules in
    let e : to_z w128 (of_z w128 c.blend.result) ≡ (p *ℤ t.factor) +ℤ (q *ℤ u.factor)
    = to_z-of_z g ∙ (c.blend.ensures.defined ∙ ap₂ (λ x y. (p *ℤ x) +ℤ (q *ℤ y)) (to_z-of_z f) (to_z-of_z h)) in
    record {
      merged = record {
        within_first = omega arith;
        within_second = omega arith;
        merged = merge_equal c.loop-i.out.items c.put_nonzero-in-Equal.new.out.items p c.args.ts.now q c.args.us.now (combined_terms p c.args.ts.now q c.args.us.now) c.loop-i.i c.loop-i.j none none
            c.loop-i-test.true c.if-j-us.true c.requires.first.0 c.requires.second.0 (sym c.in-Equal.ensures)
            (c.put_nonzero-in-Equal.ensures.items ∙ ap (λ z. c.loop-i.out.items ++ term_before t.var z []) e) c.loop-i.invariant.merged.merged;
      };
      room = omega (arith, c.put_nonzero-in-Equal.ensures.room, c.loop-i.invariant.room);
    }

pub put_nonzero-requires-in-Greater : goal.put_nonzero-requires-in-Greater
unfolding none
put_nonzero-requires-in-Greater c =
    let u = get_or c.args.us.now c.loop-i.j none in
    let p = to_z w128 (of_z w128 c.args.p) in
    let q = to_z w128 (of_z w128 c.args.q) in
    let f : SFits w128 u.factor = search rules in
    let g : SFits w128 c.scale-in-Greater.result = search rules in
    let e : to_z w128 (of_z w128 c.scale-in-Greater.result) ≡ q *ℤ u.factor = to_z-of_z g ∙ (c.scale-in-Greater.ensures ∙ ap (λ x. q *ℤ x) (to_z-of_z f)) in
    let new = c.loop-i.out.items ++ term_before u.var (to_z w128 (of_z w128 c.scale-in-Greater.result)) [] in
    let m = merge_greater c.loop-i.out.items new p c.args.ts.now q c.args.us.now (combined_terms p c.args.ts.now q c.args.us.now) c.loop-i.i c.loop-i.j none none
    c.loop-i-test.true c.if-j-us.true c.requires.first.0 c.requires.second.0 (sym c.in-Greater.ensures)
    (ap (λ z. c.loop-i.out.items ++ term_before u.var z []) e) c.loop-i.invariant.merged.merged in
    let k : length (combined_terms p c.args.ts.now q c.args.us.now) ≤ vec_capacity c.args.out.now
    = subst (λ x. length (combined_terms x c.args.ts.now q c.args.us.now) ≤ vec_capacity c.args.out.now) (sym (to_z-of_z c.ranges.p)) (subst (λ y. length (combined_terms c.args.p c.args.ts.now y c.args.us.now) ≤ vec_capacity c.args.out.now) (sym (to_z-of_z c.ranges.q)) c.requires.room) in
    front_room new (rest_of p c.args.ts.now c.loop-i.i q c.args.us.now (c.loop-i.j + 1)) (combined_terms p c.args.ts.now q c.args.us.now) (vec_capacity c.args.out.now) (vec_capacity c.loop-i.out) m k c.loop-i.invariant.room

pub loop-i-preserved : goal.loop-i-preserved
unfolding none
loop-i-preserved c =
    let u = get_or c.args.us.now c.loop-i.j none in
    let p = to_z w128 (of_z w128 c.args.p) in
    let q = to_z w128 (of_z w128 c.args.q) in
    let f : SFits w128 u.factor = search rules in
    let g : SFits w128 c.scale-in-Greater.result = search rules in
    let e : to_z w128 (of_z w128 c.scale-in-Greater.result) ≡ q *ℤ u.factor = to_z-of_z g ∙ (c.scale-in-Greater.ensures ∙ ap (λ x. q *ℤ x) (to_z-of_z f)) in
    record {
      merged = record {
        within_first = omega arith;
        within_second = omega arith;
        merged = merge_greater c.loop-i.out.items c.put_nonzero-in-Greater.new.out.items p c.args.ts.now q c.args.us.now (combined_terms p c.args.ts.now q c.args.us.now) c.loop-i.i c.loop-i.j none none
            c.loop-i-test.true c.if-j-us.true c.requires.first.0 c.requires.second.0 (sym c.in-Greater.ensures)
            (c.put_nonzero-in-Greater.ensures.items ∙ ap (λ z. c.loop-i.out.items ++ term_before u.var z []) e) c.loop-i.invariant.merged.merged;
      };
      room = omega (arith, c.put_nonzero-in-Greater.ensures.room, c.loop-i.invariant.room);
    }

pub put_scaled-requires-clause-small : goal.put_scaled-requires-clause-small
put_scaled-requires-clause-small c = subst AreSmall (sym (slice_rest c.args.ts.now c.loop-i.i)) (small-drop c.args.ts.now c.loop-i.i c.requires.first)

pub put_scaled-requires-2-clause-small : goal.put_scaled-requires-2-clause-small
put_scaled-requires-2-clause-small c = subst AreSmall (sym (slice_rest c.args.us.now c.loop-i.j)) (small-drop c.args.us.now c.loop-i.j c.requires.second)

pub put_scaled-requires-clause-room : goal.put_scaled-requires-clause-room
put_scaled-requires-clause-room c =
    let p = to_z w128 (of_z w128 c.args.p) in
    let q = to_z w128 (of_z w128 c.args.q) in
    let done : (length c.args.ts.now ≤ c.loop-i.i) ⊎ (length c.args.us.now ≤ c.loop-i.j)
    = elim c.loop-i-test.branch [ then-loop-i-test+else-j-us w ↦ inr w.if-j-us.false | else-loop-i-test w ↦ inl w.loop-i-test.false ] in
    let k : length (combined_terms p c.args.ts.now q c.args.us.now) ≤ vec_capacity c.args.out.now
    = subst (λ x. length (combined_terms x c.args.ts.now q c.args.us.now) ≤ vec_capacity c.args.out.now) (sym (to_z-of_z c.ranges.p)) (subst (λ y. length (combined_terms c.args.p c.args.ts.now y c.args.us.now) ≤ vec_capacity c.args.out.now) (sym (to_z-of_z c.ranges.q)) c.requires.room) in
    subst (λ vs. length (c.loop-i.out.items ++ add_terms p vs []) ≤ vec_capacity c.loop-i.out) (sym (slice_rest c.args.ts.now c.loop-i.i))
    (first_room c.loop-i.out.items p c.args.ts.now q c.args.us.now (combined_terms p c.args.ts.now q c.args.us.now) c.loop-i.i c.loop-i.j (vec_capacity c.args.out.now) (vec_capacity c.loop-i.out) done c.loop-i.invariant.merged.merged k c.loop-i.invariant.room)

pub put_scaled-requires-2-clause-room : goal.put_scaled-requires-2-clause-room
put_scaled-requires-2-clause-room c =
    let p = to_z w128 (of_z w128 c.args.p) in
    let q = to_z w128 (of_z w128 c.args.q) in
    let done : (length c.args.ts.now ≤ c.loop-i.i) ⊎ (length c.args.us.now ≤ c.loop-i.j)
    = elim c.loop-i-test.branch [ then-loop-i-test+else-j-us w ↦ inr w.if-j-us.false | else-loop-i-test w ↦ inl w.loop-i-test.false ] in
    let k : length (combined_terms p c.args.ts.now q c.args.us.now) ≤ vec_capacity c.args.out.now
    = subst (λ x. length (combined_terms x c.args.ts.now q c.args.us.now) ≤ vec_capacity c.args.out.now) (sym (to_z-of_z c.ranges.p)) (subst (λ y. length (combined_terms c.args.p c.args.ts.now y c.args.us.now) ≤ vec_capacity c.args.out.now) (sym (to_z-of_z c.ranges.q)) c.requires.room) in
    let new = c.put_scaled.new.out.items ++ add_terms q (drop c.loop-i.j c.args.us.now) [] in
    let m = merge_end c.loop-i.out.items c.put_scaled.new.out.items new p c.args.ts.now q c.args.us.now (combined_terms p c.args.ts.now q c.args.us.now) c.loop-i.i c.loop-i.j
    done
    (c.put_scaled.ensures.items ∙ ap (λ ts. c.loop-i.out.items ++ add_terms p ts []) (slice_rest c.args.ts.now c.loop-i.i))
    refl c.loop-i.invariant.merged.merged in
    let h : vec_capacity c.args.out.now ≤ vec_capacity c.put_scaled.new.out = omega (arith, c.put_scaled.ensures.room, c.loop-i.invariant.room) in
    subst (λ vs. length (c.put_scaled.new.out.items ++ add_terms q vs []) ≤ vec_capacity c.put_scaled.new.out) (sym (slice_rest c.args.us.now c.loop-i.j))
    (whole_room new (combined_terms p c.args.ts.now q c.args.us.now) (vec_capacity c.args.out.now) (vec_capacity c.put_scaled.new.out) m k h)

pub returns-clause-items : goal.returns-clause-items
returns-clause-items c =
    let p = to_z w128 (of_z w128 c.args.p) in
    let q = to_z w128 (of_z w128 c.args.q) in
    let done : (length c.args.ts.now ≤ c.loop-i.i) ⊎ (length c.args.us.now ≤ c.loop-i.j)
    = elim c.loop-i-test.branch [ then-loop-i-test+else-j-us w ↦ inr w.if-j-us.false | else-loop-i-test w ↦ inl w.loop-i-test.false ] in
    merge_end c.loop-i.out.items c.put_scaled.new.out.items c.put_scaled-2.new.out.items p c.args.ts.now q c.args.us.now (combined_terms p c.args.ts.now q c.args.us.now) c.loop-i.i c.loop-i.j
    done
    (c.put_scaled.ensures.items ∙ ap (λ ts. c.loop-i.out.items ++ add_terms p ts []) (slice_rest c.args.ts.now c.loop-i.i))
    (c.put_scaled-2.ensures.items ∙ ap (λ us. c.put_scaled.new.out.items ++ add_terms q us []) (slice_rest c.args.us.now c.loop-i.j))
    c.loop-i.invariant.merged.merged
    ∙ ap₂ (λ x y. combined_terms x c.args.ts.now y c.args.us.now) (to_z-of_z c.ranges.p) (to_z-of_z c.ranges.q)
