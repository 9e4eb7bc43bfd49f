use Rattle.std.proofs.Common.{◌≡◌, [], length}
use Rattle.call_translation.specs.transformer_algebra.Transformers.{cells_from, units_from}
use Rattle.transformers.proofs.lists.in_any_order.Given as goal

abbrev pub invariant-loop-rest : goal.invariant-loop-rest
invariant-loop-rest l = record {
  cells : cells_from l.cells l.rest ≡ cells_from [] l.fn.all;
  units : units_from l.foreign l.rest ≡ units_from [] l.fn.all;
}

abbrev pub decreases-loop-rest : goal.decreases-loop-rest
decreases-loop-rest l = length l.rest
