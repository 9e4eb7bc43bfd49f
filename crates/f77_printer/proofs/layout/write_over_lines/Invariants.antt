use Rattle.std.proofs.Common.{◌≡◌, ◌≤◌, ◌++◌, drop}
use Rattle.f77_printer.specs.Layout.{over_lines}
use Rattle.f77_printer.proofs.layout.write_over_lines.Given as goal

abbrev pub invariant-loop-c : goal.invariant-loop-c
invariant-loop-c l = record {
  same : l.out ++ over_lines l.used (drop l.c-index l.text) ≡ l.initial.out ++ over_lines 0 l.text;
  within : l.used ≤ 66;
}
