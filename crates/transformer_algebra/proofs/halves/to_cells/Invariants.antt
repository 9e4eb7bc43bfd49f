use Rattle.std.proofs.Common.{◌≡◌, ◌++◌, drop}
use Rattle.transformer_algebra.specs.Halves.{to_cells}
use Rattle.transformer_algebra.proofs.halves.to_cells.Given as goal

abbrev pub invariant-loop-c : goal.invariant-loop-c
invariant-loop-c l = l.out.items ++ to_cells (drop l.c-index l.cells) ≡ to_cells l.fn.cells
