use Rattle.std.proofs.Common.{◌≡◌, ◌++◌, drop}
use Rattle.result_lines.specs.ReductionLines.{loop_lines}
use Rattle.result_lines.proofs.reduction_marks.put_loops.Given as goal

abbrev pub invariant-loop-mark : goal.invariant-loop-mark
invariant-loop-mark l =
    l.out ++ loop_lines l.functions l.names l.why l.reduced (drop l.mark-index l.marks) ≡ l.fn.out ++ loop_lines l.functions l.names l.why l.reduced l.marks
