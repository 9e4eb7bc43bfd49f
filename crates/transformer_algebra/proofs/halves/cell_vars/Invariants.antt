use Rattle.std.proofs.Common.{◌≡◌, ◌++◌, drop}
use Rattle.transformer_algebra.specs.Halves.{cell_vars}
use Rattle.transformer_algebra.proofs.halves.cell_vars.Given as goal

abbrev pub invariant-loop-c : goal.invariant-loop-c
invariant-loop-c l = l.out.items ++ cell_vars (drop l.c-index l.cells) ≡ cell_vars l.fn.cells
