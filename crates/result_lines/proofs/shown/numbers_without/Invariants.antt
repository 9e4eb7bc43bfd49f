use Rattle.std.proofs.Common.{◌≡◌, ◌++◌, drop}
use Rattle.result_lines.specs.ShownMarks.{numbers_without}
use Rattle.result_lines.proofs.shown.numbers_without.Given as goal

abbrev pub invariant-loop-number : goal.invariant-loop-number
invariant-loop-number l = l.left ++ numbers_without l.functions l.names (drop l.number-index l.numbers) ≡ numbers_without l.functions l.names l.numbers
