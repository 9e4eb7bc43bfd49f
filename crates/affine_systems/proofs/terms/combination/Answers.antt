use Rattle.std.proofs.Common.{◌≡◌, ◌∙◌, ◌++◌, ◌<◌, ◌≤◌, ◌^◌, ◌+ℤ◌, ◌*ℤ◌, [], length, pos, sym, ap, ap₂, subst, get_or, SFits, to_z, of_z, to_z-of_z, rules, arith, ◌⊎◌, inl, inr, unsigned_abs}
use Rattle.std.specs.Int.{w128}
use Rattle.affine_systems.specs.declared.row.Term.{Term}
use Rattle.affine_systems.specs.declared.row.Var.TheVariants.{Cell}
use Rattle.affine_systems.specs.Terms.{term, term_before, add_terms}
use Rattle.affine_systems.specs.Given.{AreSmall}
use Rattle.affine_systems.specs.Rows.{combined_terms}
use Rattle.affine_systems.proofs.Merges.{slice_rest, small_at, small-drop, merge_less, merge_equal, merge_greater, merge_end}
use Rattle.affine_systems.proofs.terms.combination.Goals.{then-loop-i-test+else-j-us, else-loop-i-test}
use Rattle.affine_systems.proofs.terms.combination.Goals as goal

none : Term
none = term (Cell 0) (pos 0)

pub scale-requires-clause-number : goal.scale-requires-clause-number
unfolding none
scale-requires-clause-number c =
    let f : SFits w128 (get_or c.args.ts.now c.loop-i.i none).factor = search rules in
    subst (λ z. unsigned_abs z < 2 ^ 62) (sym (to_z-of_z f)) (small_at c.args.ts.now c.loop-i.i none c.requires.first c.loop-i-test.true)

pub blend-requires-clause-first : goal.blend-requires-clause-first
unfolding none
blend-requires-clause-first c =
    let f : SFits w128 (get_or c.args.ts.now c.loop-i.i none).factor = search rules in
    subst (λ z. unsigned_abs z < 2 ^ 62) (sym (to_z-of_z f)) (small_at c.args.ts.now c.loop-i.i none c.requires.first c.loop-i-test.true)

pub blend-requires-clause-second : goal.blend-requires-clause-second
unfolding none
blend-requires-clause-second c =
    let f : SFits w128 (get_or c.args.us.now c.loop-i.j none).factor = search rules in
    subst (λ z. unsigned_abs z < 2 ^ 62) (sym (to_z-of_z f)) (small_at c.args.us.now c.loop-i.j none c.requires.second c.if-j-us.true)

pub scale-requires-in-Greater-clause-number : goal.scale-requires-in-Greater-clause-number
unfolding none
scale-requires-in-Greater-clause-number c =
    let f : SFits w128 (get_or c.args.us.now c.loop-i.j none).factor = search rules in
    subst (λ z. unsigned_abs z < 2 ^ 62) (sym (to_z-of_z f)) (small_at c.args.us.now c.loop-i.j none c.requires.second c.if-j-us.true)

pub loop-i-preserved-in-Less : goal.loop-i-preserved-in-Less
unfolding none
loop-i-preserved-in-Less c =
    let t = get_or c.args.ts.now c.loop-i.i none in
    let p = to_z w128 (of_z w128 c.args.p) in
    let q = to_z w128 (of_z w128 c.args.q) in
    let f : SFits w128 t.factor = search rules in
    let g : SFits w128 c.scale.result = search rules in
    let e : to_z w128 (of_z w128 c.scale.result) ≡ p *ℤ t.factor = to_z-of_z g ∙ (c.scale.ensures.defined ∙ ap (λ x. p *ℤ x) (to_z-of_z f)) in
    record {
      within_first = omega arith;
      within_second = omega arith;
      merged = merge_less c.loop-i.out.items c.push_term.new.out.items p c.args.ts.now q c.args.us.now (combined_terms p c.args.ts.now q c.args.us.now) c.loop-i.i c.loop-i.j none none
          c.loop-i-test.true c.if-j-us.true c.requires.first.0 c.requires.second.0 (sym c.in-Less.ensures)
          (c.in_ok-push_term-in-Less.ensures ∙ ap (λ z. c.loop-i.out.items ++ term_before t.var z []) e) c.loop-i.invariant.merged;
    }

pub loop-i-preserved-in-Equal : goal.loop-i-preserved-in-Equal
unfolding none
loop-i-preserved-in-Equal c =
    let t = get_or c.args.ts.now c.loop-i.i none in
    let u = get_or c.args.us.now c.loop-i.j none in
    let p = to_z w128 (of_z w128 c.args.p) in
    let q = to_z w128 (of_z w128 c.args.q) in
    let f : SFits w128 t.factor = search rules in
    let h : SFits w128 u.factor = search rules in
    let g : SFits w128 c.blend.result = search rules in
    let e : to_z w128 (of_z w128 c.blend.result) ≡ (p *ℤ t.factor) +ℤ (q *ℤ u.factor)
    = to_z-of_z g ∙ (c.blend.ensures.defined ∙ ap₂ (λ x y. (p *ℤ x) +ℤ (q *ℤ y)) (to_z-of_z f) (to_z-of_z h)) in
    record {
      within_first = omega arith;
      within_second = omega arith;
      merged = merge_equal c.loop-i.out.items c.push_term-in-Equal.new.out.items p c.args.ts.now q c.args.us.now (combined_terms p c.args.ts.now q c.args.us.now) c.loop-i.i c.loop-i.j none none
          c.loop-i-test.true c.if-j-us.true c.requires.first.0 c.requires.second.0 (sym c.in-Equal.ensures)
          (c.in_ok-push_term-in-Equal.ensures ∙ ap (λ z. c.loop-i.out.items ++ term_before t.var z []) e) c.loop-i.invariant.merged;
    }

pub loop-i-preserved : goal.loop-i-preserved
unfolding none
loop-i-preserved c =
    let u = get_or c.args.us.now c.loop-i.j none in
    let p = to_z w128 (of_z w128 c.args.p) in
    let q = to_z w128 (of_z w128 c.args.q) in
    let f : SFits w128 u.factor = search rules in
    let g : SFits w128 c.scale-in-Greater.result = search rules in
    let e : to_z w128 (of_z w128 c.scale-in-Greater.result) ≡ q *ℤ u.factor = to_z-of_z g ∙ (c.scale-in-Greater.ensures.defined ∙ ap (λ x. q *ℤ x) (to_z-of_z f)) in
    record {
      within_first = omega arith;
      within_second = omega arith;
      merged = merge_greater c.loop-i.out.items c.push_term-in-Greater.new.out.items p c.args.ts.now q c.args.us.now (combined_terms p c.args.ts.now q c.args.us.now) c.loop-i.i c.loop-i.j none none
          c.loop-i-test.true c.if-j-us.true c.requires.first.0 c.requires.second.0 (sym c.in-Greater.ensures)
          (c.in_ok-push_term-in-Greater.ensures ∙ ap (λ z. c.loop-i.out.items ++ term_before u.var z []) e) c.loop-i.invariant.merged;
    }

pub push_scaled-requires-clause-small : goal.push_scaled-requires-clause-small
push_scaled-requires-clause-small c = subst AreSmall (sym (slice_rest c.args.ts.now c.loop-i.i)) (small-drop c.args.ts.now c.loop-i.i c.requires.first)

pub push_scaled-requires-2-clause-small : goal.push_scaled-requires-2-clause-small
push_scaled-requires-2-clause-small c = subst AreSmall (sym (slice_rest c.args.us.now c.loop-i.j)) (small-drop c.args.us.now c.loop-i.j c.requires.second)

pub returns : goal.returns
returns c =
    let p = to_z w128 (of_z w128 c.args.p) in
    let q = to_z w128 (of_z w128 c.args.q) in
    let done : (length c.args.ts.now ≤ c.loop-i.i) ⊎ (length c.args.us.now ≤ c.loop-i.j)
    = elim c.loop-i-test.branch [ then-loop-i-test+else-j-us w ↦ inr w.if-j-us.false | else-loop-i-test w ↦ inl w.loop-i-test.false ] in
    c.from_vec.ensures ∙ (merge_end c.loop-i.out.items c.push_scaled.new.out.items c.push_scaled-2.new.out.items p c.args.ts.now q c.args.us.now (combined_terms p c.args.ts.now q c.args.us.now) c.loop-i.i c.loop-i.j
    done
    (c.in_ok-push_scaled.ensures ∙ ap (λ ts. c.loop-i.out.items ++ add_terms p ts []) (slice_rest c.args.ts.now c.loop-i.i))
    (c.in_ok-push_scaled-2.ensures ∙ ap (λ us. c.push_scaled.new.out.items ++ add_terms q us []) (slice_rest c.args.us.now c.loop-i.j))
    c.loop-i.invariant.merged
    ∙ ap₂ (λ x y. combined_terms x c.args.ts.now y c.args.us.now) (to_z-of_z c.ranges.p) (to_z-of_z c.ranges.q))
