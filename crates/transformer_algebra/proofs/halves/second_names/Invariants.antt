use Rattle.std.proofs.Common.{◌≡◌, ◌++◌, ◌+◌, ◌≤◌, drop}
use Rattle.transformer_algebra.specs.Halves.{second_names}
use Rattle.transformer_algebra.proofs.halves.second_names.Given as goal

abbrev pub invariant-loop-c : goal.invariant-loop-c
invariant-loop-c l = record { named : l.out.items ++ second_names l.number l.again (drop l.c-index l.cells) ≡ second_names l.fn.first l.fn.again l.fn.cells; room : l.number ≤ l.fn.first + l.c-index }
