use Rattle.std.proofs.Common.{◌∙◌, sym, subst, pos, ℤ, ◌<ℤ◌, ◌+ℤ◌, SFits, rules, arith, ap}
use Rattle.std.proofs.lemmas.Int.{ints}
use Rattle.std.specs.Int.{w128}
use Rattle.affine_systems.specs.declared.items.Item.{Item}
use Rattle.affine_systems.specs.Tidy.{are_opposite}
use Rattle.affine_systems.proofs.ItemSteps.{small_item_at, stays-passed, stays-found, stays-end}
use Rattle.affine_systems.proofs.facing.stays_among.Goals as goal

pub are_opposite-requires : goal.are_opposite-requires
are_opposite-requires c = let s = small_item_at c.args.items.now c.loop-other.other-index c.other-item.result c.requires.each c.loop-other-test.true c.other-item.is in (s.0, s.2)

pub total-requires-clause-two : goal.total-requires-clause-two
total-requires-clause-two c = small_item_at c.args.items.now c.loop-other.other-index c.other-item.result c.requires.each c.loop-other-test.true c.other-item.is

pub returns-then-are_opposite : goal.returns-then-are_opposite
returns-then-are_opposite c e =
    let f : SFits w128 c.total.result = search rules in
    let k : pos 0 <ℤ c.total.result = omega (arith, ints, e, f) in
    let l : pos 0 <ℤ (c.args.item.now.row.bound +ℤ c.other-item.result.row.bound) = subst (λ (z : ℤ). pos 0 <ℤ z) c.total.ensures k in
    stays-found c.args.item.now c.args.items.now c.args.items.now c.loop-other.other-index c.other-item.result c.loop-other-test.true
    (ap (λ (x : Item). are_opposite c.args.item.now.row x.row) (sym c.other-item.is) ∙ (sym c.are_opposite.ensures ∙ c.if-are_opposite.true))
    (subst (λ (x : Item). pos 0 <ℤ (c.args.item.now.row.bound +ℤ x.row.bound)) c.other-item.is l) c.loop-other.invariant

pub loop-other-preserved : goal.loop-other-preserved
loop-other-preserved c =
    stays-passed c.args.item.now c.args.items.now c.args.items.now c.loop-other.other-index c.other-item.result c.loop-other-test.true
    (ap (λ (x : Item). are_opposite c.args.item.now.row x.row) (sym c.other-item.is) ∙ (sym c.are_opposite.ensures ∙ c.if-are_opposite.false)) c.loop-other.invariant

pub returns : goal.returns
returns c e = stays-end c.args.item.now c.args.items.now c.args.items.now c.loop-other.other-index c.loop-other-test.false c.loop-other.invariant
