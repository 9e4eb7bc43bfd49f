use Rattle.std.proofs.Common.{◌≡◌, ◌++◌, drop}
use Rattle.result_lines.specs.MarkLines.{mark_lines_of}
use Rattle.result_lines.specs.ShownMarks.{marks_without}
use Rattle.result_lines.proofs.loop_marks.put_marks.Given as goal

abbrev pub invariant-loop-mark : goal.invariant-loop-mark
invariant-loop-mark l =
    l.out ++ mark_lines_of l.names l.why (marks_without l.functions l.names (drop l.mark-index l.marks)) ≡ l.fn.out ++ mark_lines_of l.names l.why (marks_without l.functions l.names l.marks)
