use Rattle.std.proofs.Common.{◌∙◌, ◌+◌, ◌*◌, ◌^◌, ◌≤◌, false, length, ap, refl, sym, subst, arith}
use Rattle.affine_systems.proofs.TurnSteps.{last_turns}
use Rattle.affine_systems.proofs.FormSteps.{form_small, some_small, form_stops, form_goes_on, next_given}
use Rattle.affine_systems.specs.Items.{cut_of, tidied}
use Rattle.affine_systems.specs.Tidy.{pivoted, merged}
use Rattle.work_area.specs.Columns.{InColumns}
use Rattle.work_area.specs.Tables.{items_of, MadeBelow}
use Rattle.work_area.proofs.MadeLaws.{below_more, merged_below, pivoted_below}
use Rattle.work_area.proofs.TableSteps.{ready_zero, keeps_both, length-items_of, merged_columns, pivoted_columns}
use Rattle.work_area.proofs.tidying.tidy_formed.Goals as goal

pub merge-requires-clause-small : goal.merge-requires-clause-small
merge-requires-clause-small c = form_small false (items_of c.args.tables.now) c.args.lost c.requires.form

pub merge-requires-clause-below : goal.merge-requires-clause-below
merge-requires-clause-below c = below_more (5 * 2 ^ 124) (2 ^ 127) (items_of c.args.tables.now) (omega arith) c.requires.below

pub next_pivot-requires-clause-small : goal.next_pivot-requires-clause-small
next_pivot-requires-clause-small c = some_small false (items_of c.args.tables.now) c.args.lost (items_of c.merge.new.tables) c.merge.ensures.items c.requires.form

pub next_pivot-requires-clause-places : goal.next_pivot-requires-clause-places
next_pivot-requires-clause-places c =
    let w = c.requires.sound.width in
    ready_zero w c.merge.new.tables (c.merge.ensures.ready.kept w c.requires.sound.ready)

pub returns-in-None-clause-defined : goal.returns-in-None-clause-defined
returns-in-None-clause-defined c = λ is g f.
    form_stops false (items_of c.args.tables.now) c.args.lost (items_of c.merge.new.tables) c.merge.ensures.items 17592186044415 (last_turns 17592186044415 refl) c.in-None.ensures is f

pub take_pivot-requires-clause-sound : goal.take_pivot-requires-clause-sound
take_pivot-requires-clause-sound c =
    let w = c.requires.sound.width in
    let js = items_of c.args.tables.now in
    record {
      width = w;
      ready = c.merge.ensures.ready.kept w c.requires.sound.ready;
      held = subst (InColumns w) (sym c.merge.ensures.items) (merged_columns w js c.args.lost c.requires.form c.requires.sound.held);
    }

pub take_pivot-requires-clause-small : goal.take_pivot-requires-clause-small
take_pivot-requires-clause-small c = some_small false (items_of c.args.tables.now) c.args.lost (items_of c.merge.new.tables) c.merge.ensures.items c.requires.form

pub take_pivot-requires-clause-below : goal.take_pivot-requires-clause-below
take_pivot-requires-clause-below c =
    let js = items_of c.args.tables.now in
    let r = c.requires.sound.ready in
    let l : length js ≤ 512 = omega (arith, length-items_of c.requires.sound.width c.args.tables.now r, r.within) in
    subst (MadeBelow (2 ^ 127)) (sym c.merge.ensures.items) (below_more (5 * 2 ^ 124 + 512) (2 ^ 127) (merged js) (omega arith) (merged_below (5 * 2 ^ 124) js (omega arith) l c.requires.below))

pub rounds-less-requires-clause-sound : goal.rounds-less-requires-clause-sound
rounds-less-requires-clause-sound c =
    let w = c.requires.sound.width in
    let js = items_of c.args.tables.now in
    let some = items_of c.merge.new.tables in
    record {
      width = w;
      ready = c.take_pivot.ensures.ready.kept w (c.merge.ensures.ready.kept w c.requires.sound.ready);
      held = subst (InColumns w) (sym c.take_pivot.ensures.items) (pivoted_columns w js some c.in-Some.at c.args.lost c.requires.form c.requires.sound.held c.merge.ensures.items c.in-Some.ensures.0);
    }

pub rounds-less-requires-clause-given : goal.rounds-less-requires-clause-given
rounds-less-requires-clause-given c =
    next_given false (items_of c.args.tables.now) c.args.lost (items_of c.merge.new.tables) c.merge.ensures.items c.requires.form c.in-Some.at (items_of c.take_pivot.new.tables) c.in-Some.ensures.1 c.take_pivot.ensures.items

pub rounds-less-requires-clause-below : goal.rounds-less-requires-clause-below
rounds-less-requires-clause-below c =
    let js = items_of c.args.tables.now in
    let some = items_of c.merge.new.tables in
    let at = c.in-Some.at in
    let w = c.requires.sound.width in
    let r = c.requires.sound.ready in
    let q = c.merge.ensures.ready.kept w r in
    let l : length js ≤ 512 = omega (arith, length-items_of w c.args.tables.now r, r.within) in
    let m : length some ≤ 512 = omega (arith, length-items_of w c.merge.new.tables q, q.within) in
    let b : MadeBelow (5 * 2 ^ 124 + 512) some = subst (MadeBelow (5 * 2 ^ 124 + 512)) (sym c.merge.ensures.items) (merged_below (5 * 2 ^ 124) js (omega arith) l c.requires.below) in
    subst (MadeBelow (3 * 2 ^ 125)) (sym c.take_pivot.ensures.items)
    (below_more (5 * 2 ^ 124 + 512 + 512) (3 * 2 ^ 125) (pivoted some (cut_of some at)) (omega arith) (pivoted_below (5 * 2 ^ 124 + 512) some at c.in-Some.ensures.0 m b))

pub returns-in-Some-clause-defined : goal.returns-in-Some-clause-defined
returns-in-Some-clause-defined c = λ is g f.
    ap (λ b. tidied (items_of c.rounds-less.new.tables) b) c.either.ensures
    ∙ form_goes_on false (items_of c.args.tables.now) c.args.lost (items_of c.merge.new.tables) c.merge.ensures.items 17592186044415 (last_turns 17592186044415 refl) c.in-Some.at (items_of c.take_pivot.new.tables) (tidied (items_of c.rounds-less.new.tables) c.rounds-less.result)
    c.in-Some.ensures.1 c.take_pivot.ensures.items c.rounds-less.ensures.defined is f

pub returns-in-None-clause-ready : goal.returns-in-None-clause-ready
returns-in-None-clause-ready c = c.merge.ensures.ready

pub returns-in-Some-clause-ready : goal.returns-in-Some-clause-ready
returns-in-Some-clause-ready c =
    keeps_both c.args.tables.now c.merge.new.tables c.rounds-less.new.tables c.merge.ensures.ready (keeps_both c.merge.new.tables c.take_pivot.new.tables c.rounds-less.new.tables c.take_pivot.ensures.ready c.rounds-less.ensures.ready)
