use Rattle.laws_marks.proofs.ConflictAlone.{copies_are_sole}
use Rattle.laws_marks.proofs.Directives.{modules_in, places_follow}
use Rattle.laws_marks.proofs.Programs.{marks_hold}
use Rattle.laws_marks.proofs.whole_runs.read_marks_hold.Goals as goal

pub returns : goal.returns
returns c =
    λ ps sss g x reductions d are_found turns input ends. marks_hold c.loops_begin.ensures c.loops_hold.ensures c.reduced_loops_hold.ensures c.directive_names_are_copied.ensures c.variables_have_types.ensures c.calls_end.ensures c.inactive_units_have_none.ensures c.directive_names_stand.ensures c.marked_loops_are_dead.ensures
    c.marked_loops_are_known.ensures ps sss g x turns reductions d are_found (modules_in ps sss g x copies_are_sole) c.units_stand.ensures (places_follow ps sss g x copies_are_sole) c.locals_stay_apart.ensures c.stores_stay_in_range.ensures input ends
