use Rattle.std.proofs.Common.{◌≡◌, [], drop}
use Rattle.transformer_algebra.specs.Transformers.{cells_from}
use Rattle.transformer_algebra.proofs.arms.all_cells.Given as goal

abbrev pub invariant-loop-t : goal.invariant-loop-t
invariant-loop-t l = cells_from l.cells (drop l.t-index l.arms) ≡ cells_from [] l.fn.arms
