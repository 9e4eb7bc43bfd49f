use Rattle.std.proofs.Common.{◌∙◌, ◌≤◌, length, sym, subst}
use Rattle.work_area.specs.declared.slot.Slot.{Slot}
use Rattle.work_area.specs.Slots.{room, item_in}
use Rattle.work_area.proofs.FaceSteps.{small_at, face-found}
use Rattle.work_area.proofs.facing.put_facing.Goals as goal

pub are_opposite-requires : goal.are_opposite-requires
are_opposite-requires c = let s = small_at c.args.rows.now c.loop-other.other-index c.other-item.result c.requires.each c.loop-other-test.true c.other-item.is in (s.0, s.2)

pub put_against-requires-clause-other : goal.put_against-requires-clause-other
put_against-requires-clause-other c = small_at c.args.rows.now c.loop-other.other-index c.other-item.result c.requires.each c.loop-other-test.true c.other-item.is

pub put_against-requires-clause-one : goal.put_against-requires-clause-one
put_against-requires-clause-one c = subst (λ s. length c.args.slot.now.terms.items ≤ room s) (sym c.loop-other.invariant.same) c.requires.one

pub put_against-requires-clause-two : goal.put_against-requires-clause-two
put_against-requires-clause-two c =
    subst (λ s. length c.other-item.result.terms.items ≤ room s) (sym c.loop-other.invariant.same)
    (subst (λ (s : Slot). length s.terms.items ≤ room c.args.out.now) (sym c.other-item.is) (c.requires.all c.loop-other.other-index c.other-item.result c.loop-other-test.true))

pub returns-then-are_opposite-clause-item : goal.returns-then-are_opposite-clause-item
returns-then-are_opposite-clause-item c =
    c.put_against.ensures.item ∙ (sym (face-found c.args.made (item_in c.args.slot.now) c.args.rows.now c.loop-other.other-index c.other-item.result c.loop-other-test.true c.other-item.is (sym c.are_opposite.ensures ∙ c.if-are_opposite.true)) ∙ c.loop-other.invariant.items)

pub returns-then-are_opposite-clause-room : goal.returns-then-are_opposite-clause-room
returns-then-are_opposite-clause-room c = subst (λ s. room s ≤ room c.put_against.new.out) c.loop-other.invariant.same c.put_against.ensures.room

pub copy_from-requires : goal.copy_from-requires
copy_from-requires c = subst (λ s. length c.args.slot.now.terms.items ≤ room s) (sym c.loop-other.invariant.same) c.requires.one

pub returns-clause-room : goal.returns-clause-room
returns-clause-room c = subst (λ s. room s ≤ room c.copy_from.new.self) c.loop-other.invariant.same c.copy_from.ensures.room
