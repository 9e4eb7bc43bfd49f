use Rattle.std.proofs.Common.{◌≡◌, ◌++◌, drop}
use Rattle.f77_printer.specs.ExprText.{doubled}
use Rattle.f77_printer.proofs.expr.write_chars.Given as goal

abbrev pub invariant-loop-c : goal.invariant-loop-c
invariant-loop-c l = l.out ++ doubled (drop l.c-index l.c-items) ≡ l.initial.out ++ doubled l.c-items
