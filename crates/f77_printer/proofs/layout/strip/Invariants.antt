use Rattle.std.proofs.Common.{◌≡◌, ◌++◌, drop, false}
use Rattle.f77_printer.specs.Layout.{stripped}
use Rattle.f77_printer.proofs.layout.strip.Given as goal

abbrev pub invariant-loop-c : goal.invariant-loop-c
invariant-loop-c l = l.kept ++ stripped l.inside (drop l.c-index l.text) ≡ stripped false l.text
