use Rattle.std.proofs.Common.{◌≡◌, length}
use Rattle.affine_systems.specs.Rows.{AllRows}
use Rattle.region_sets.specs.Compose.{put_exits}
use Rattle.region_sets.specs.Ready.{IsReady}
use Rattle.region_sets.proofs.composing.put_exits.Given as goal

abbrev pub invariant-loop-rest : goal.invariant-loop-rest
invariant-loop-rest l = record {
  same : put_exits l.rest l.rows l.left ≡ put_exits l.fn.cells l.rows l.fn.s;
  ready : AllRows IsReady l.left.rows;
}

abbrev pub decreases-loop-rest : goal.decreases-loop-rest
decreases-loop-rest l = length l.rest
