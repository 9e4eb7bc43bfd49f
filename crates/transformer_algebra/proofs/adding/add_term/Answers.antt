use Rattle.std.proofs.Common.{◌≡◌, ◌∙◌, ◌<◌, ◌^◌, ◌+ℤ◌, length, ap, ap₂, sym, subst, unsigned_abs, SFits, to_z, of_z, to_z-of_z, rules}
use Rattle.std.specs.Int.{w128}
use Rattle.std.proofs.lemmas.Result.{IfOk-weaker}
use Rattle.affine_systems.specs.declared.row.Term.{Term}
use Rattle.affine_systems.specs.Terms.{term_before, add_term}
use Rattle.affine_systems.specs.Given.{FactorsBelow}
use Rattle.std.specs.Prelude.{take, drop, ◌++◌, List}
use Rattle.transformer_algebra.proofs.Steps.{IsPassed, term-changed}
use Rattle.transformer_algebra.proofs.adding.add_term.Goals as goal
use Rattle.affine_systems.proofs.Merges.{factor_at}

pub sum-requires-clause-second : goal.sum-requires-clause-second
sum-requires-clause-second c =
    let l : c.loop-i.i < length c.loop-i.out.items = search rules in
    let f : SFits w128 c.index-t.result.now.factor = search rules in
    let a = factor_at (2 ^ 126) c.loop-i.out.items c.loop-i.i c.index-t.result.now (subst (FactorsBelow (2 ^ 126)) (sym c.loop-i.invariant.same) c.requires.terms) l in
    subst (λ z. unsigned_abs z < 2 ^ 126) (sym (to_z-of_z f)) (subst (λ (t : Term). unsigned_abs t.factor < 2 ^ 126) (sym c.index-t.ensures) a)

pub returns-then-is_same : goal.returns-then-is_same
returns-then-is_same c =
    let l : c.loop-i.i < length c.loop-i.out.items = search rules in
    let f : SFits w128 c.index-t.result.now.factor = search rules in
    let k : SFits w128 c.sum.result = search rules in
    let q : to_z w128 (of_z w128 c.sum.result) ≡ c.args.factor +ℤ c.index-t.result.now.factor = to_z-of_z k ∙ (c.sum.ensures ∙ ap₂ (λ x y. x +ℤ y) (to_z-of_z c.ranges.factor) (to_z-of_z f)) in
    let passed = subst (λ z. IsPassed c.args.var z c.loop-i.out.items c.loop-i.i) (to_z-of_z c.ranges.factor) c.loop-i.invariant.passed in
    IfOk-weaker c.insert_term.result
    (λ u. c.insert_term.new.out.items ≡ take c.loop-i.i c.remove.new.self.items ++ term_before c.args.var (to_z w128 (of_z w128 c.sum.result)) (drop c.loop-i.i c.remove.new.self.items))
    (λ u. c.insert_term.new.out.items ≡ add_term c.args.var c.args.factor c.args.out.now.items)
    (λ u h. h ∙ term-changed c.args.var c.args.factor (to_z w128 (of_z w128 c.sum.result)) c.loop-i.out.items c.remove.new.self.items c.args.out.now.items c.loop-i.i c.index-t.result.now l c.index-t.ensures (sym c.if-is_same.ensures) c.remove.ensures.items q c.loop-i.invariant.same passed)
    c.insert_term.ensures
