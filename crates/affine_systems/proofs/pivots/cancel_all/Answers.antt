use Rattle.std.proofs.Common.{◌<◌, ◌∙◌, length, arith}
use Rattle.affine_systems.specs.Items.{false_item}
use Rattle.affine_systems.proofs.PivotSteps.{cancelled-length, cancelled-more, small_rest}
use Rattle.affine_systems.proofs.pivots.cancel_all.Goals as goal

pub cancel_at-requires-clause-within : goal.cancel_at-requires-clause-within
cancel_at-requires-clause-within c =
    let l : c.loop-i.i < length c.args.items.now.items = omega (arith, c.len-i-end.ensures) in
    let e = cancelled-length c.args.made c.args.by.now c.args.v c.args.items.now.items c.loop-i.items.items c.loop-i.i l c.loop-i.invariant in
    omega (arith, e)

pub cancel_at-requires-clause-two : goal.cancel_at-requires-clause-two
cancel_at-requires-clause-two c =
    let l : c.loop-i.i < length c.args.items.now.items = omega (arith, c.len-i-end.ensures) in
    small_rest c.args.made c.args.by.now c.args.v c.args.items.now.items c.loop-i.items.items c.loop-i.i c.requires.each l c.loop-i.invariant false_item

pub loop-i-preserved : goal.loop-i-preserved
loop-i-preserved c =
    let l : c.loop-i.i < length c.args.items.now.items = omega (arith, c.len-i-end.ensures) in
    c.in_ok-cancel_at.ensures ∙ cancelled-more c.args.made c.args.by.now c.args.v c.args.items.now.items c.loop-i.items.items c.loop-i.i l c.loop-i.invariant false_item
