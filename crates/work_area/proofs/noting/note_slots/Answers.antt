use Rattle.std.proofs.Common.{◌∙◌, ◌<◌, [], length, sym, ap, subst, arith}
use Rattle.std.proofs.lemmas.List.{drop_all}
use Rattle.affine_systems.specs.Items.{rows_of}
use Rattle.work_area.specs.Slots.{row_in, items_in}
use Rattle.work_area.specs.Columns.{Notes, noted_rows, noted_terms}
use Rattle.work_area.proofs.NoteLaws.{row_read, length-rows_in, note_done, few_in}
use Rattle.work_area.proofs.noting.note_slots.Goals as goal

pub loop-slot-preserved : goal.loop-slot-preserved
loop-slot-preserved c =
    let ss = c.args.rows.now in
    let rs = rows_of (items_in ss) in
    let k = c.loop-slot.slot-index in
    let s = c.slot-item.result in
    let us = c.loop-slot.sum.items in
    let l : k < length rs = omega (arith, c.loop-slot-test.true, length-rows_in ss) in
    record {
      notes = note_done us (noted_rows [] rs) c.note_terms.new.sum.items rs k c.args.limit (row_in s) c.note_terms.result l
          (row_read ss k s c.loop-slot-test.true c.slot-item.is) c.loop-slot.invariant.notes (few_in c.args.limit (items_in ss) c.requires.held)
          (subst (λ ts. Notes c.args.limit (noted_terms us ts) c.note_terms.new.sum.items c.note_terms.result) c.as_slice.ensures.value c.note_terms.ensures.notes);
      room = omega (arith, c.loop-slot.invariant.room, c.note_terms.ensures.room);
      few = c.note_terms.ensures.few;
    }

pub returns-clause-sum : goal.returns-clause-sum
returns-clause-sum c =
    let ss = c.args.rows.now in
    ap (noted_rows c.loop-slot.sum.items) (sym (drop_all c.loop-slot.slot-index (rows_of (items_in ss)) (omega (arith, c.loop-slot-test.false, length-rows_in ss)))) ∙ c.loop-slot.invariant.notes
