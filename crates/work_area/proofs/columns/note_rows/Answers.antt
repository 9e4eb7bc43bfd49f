use Rattle.std.proofs.Common.{◌<◌, length, subst}
use Rattle.work_area.specs.Columns.{noted_rows, noted_terms}
use Rattle.work_area.proofs.NoteSteps.{rows_full}
use Rattle.work_area.proofs.columns.note_rows.Goals as goal

pub returns-then-not-note_terms-clause-notes : goal.returns-then-not-note_terms-clause-notes
returns-then-not-note_terms-clause-notes c = record {
  done = λ e. cc;
  full = λ e. rows_full c.loop-row.sum.items (noted_rows c.args.sum.now.items c.args.rows.now) c.args.rows.now c.loop-row.row-index c.args.limit c.row-item.result c.loop-row-test.true c.row-item.is c.loop-row.invariant.notes
      (subst (λ ts. c.args.limit < length (noted_terms c.loop-row.sum.items ts)) c.as_slice.ensures (c.note_terms.ensures.notes.full c.if-not-note_terms.true));
}
