use Rattle.std.proofs.Common.{◌≡◌, ◌++◌, ◌+◌, ◌≤◌, drop}
use Rattle.transformer_algebra.specs.Halves.{middle}
use Rattle.transformer_algebra.proofs.halves.middle.Given as goal

abbrev pub invariant-loop-c : goal.invariant-loop-c
invariant-loop-c l = record { named : l.out.items ++ middle l.number l.again (drop l.c-index l.cells) ≡ middle l.fn.first l.fn.again l.fn.cells; room : l.number ≤ l.fn.first + l.c-index }
