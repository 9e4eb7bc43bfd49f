use Rattle.std.proofs.Common.{◌≡◌, ◌++◌, ◌+◌, ◌≤◌, drop}
use Rattle.transformer_algebra.specs.Halves.{first_names}
use Rattle.transformer_algebra.proofs.halves.first_names.Given as goal

abbrev pub invariant-loop-c : goal.invariant-loop-c
invariant-loop-c l = record { named : l.out.items ++ first_names l.number l.again (drop l.c-index l.cells) ≡ first_names l.fn.first l.fn.again l.fn.cells; room : l.number ≤ l.fn.first + l.c-index }
