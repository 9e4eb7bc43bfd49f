use Rattle.laws_marks.proofs.Programs.{runs_as_plain}
use Rattle.laws_marks.proofs.whole_runs.read_runs_do_as_plain.Goals as goal

pub returns : goal.returns
returns c = runs_as_plain c.marked_runs_agree.ensures c.long_schedules_end.ensures c.marks_are_forgotten.ensures c.marked_programs_are_strict.ensures c.variables_have_types.ensures c.read_marks_hold.ensures
