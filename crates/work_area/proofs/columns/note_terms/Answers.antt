use Rattle.std.proofs.Common.{pos}
use Rattle.affine_systems.specs.declared.row.Var.TheVariants.{Cell}
use Rattle.affine_systems.specs.Terms.{term}
use Rattle.work_area.specs.Columns.{noted_terms}
use Rattle.work_area.proofs.NoteSteps.{terms_full}
use Rattle.work_area.proofs.columns.note_terms.Goals as goal

pub returns-then-not-note-clause-notes : goal.returns-then-not-note-clause-notes
returns-then-not-note-clause-notes c = record {
  done = λ e. cc;
  full = λ e. terms_full c.loop-t.sum.items c.args.terms.now (noted_terms c.args.sum.now.items c.args.terms.now) c.loop-t.t-index c.args.limit (term (Cell 0) (pos 0)) c.loop-t-test.true c.loop-t.invariant.notes (c.note.ensures.notes.full c.if-not-note.true);
}
