use Rattle.std.proofs.Common.{◌≡◌, ◌++◌, drop}
use Rattle.f77_printer.specs.PageText.{lines_text}
use Rattle.f77_printer.proofs.page.write_whole.Given as goal

abbrev pub invariant-loop-line : goal.invariant-loop-line
invariant-loop-line l = l.out ++ lines_text (drop l.line-index l.line-items) ≡ l.initial.out ++ lines_text l.line-items
