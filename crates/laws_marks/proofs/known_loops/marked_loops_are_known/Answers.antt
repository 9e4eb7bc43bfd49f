use Rattle.laws_marks.proofs.KnownPrograms.{read_marked_loops_known}
use Rattle.laws_marks.proofs.known_loops.marked_loops_are_known.Goals as goal

pub returns : goal.returns
returns c = read_marked_loops_known c.read_loops_hold.ensures c.units_stand.ensures c.all_are_of_programs.ensures
