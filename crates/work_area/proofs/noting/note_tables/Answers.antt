use Rattle.std.proofs.Common.{◌∙◌, [], sym, ap, subst}
use Rattle.affine_systems.specs.Items.{rows_of}
use Rattle.work_area.specs.Columns.{InColumns, noted_rows}
use Rattle.work_area.proofs.TableSteps.{front_is}
use Rattle.work_area.proofs.noting.note_tables.Goals as goal

pub note_slots-requires-clause-held : goal.note_slots-requires-clause-held
note_slots-requires-clause-held c = subst (InColumns c.args.limit) (sym (front_is c.args.tables.now c.as_slice-rows.result.now c.as_slice-rows.ensures.value)) c.requires.held

pub returns-clause-sum : goal.returns-clause-sum
returns-clause-sum c = c.note_slots.ensures.sum ∙ ap (λ js. noted_rows [] (rows_of js)) (front_is c.args.tables.now c.as_slice-rows.result.now c.as_slice-rows.ensures.value)
