use Rattle.std.proofs.Common.{◌≡◌, length}
use Rattle.affine_systems.specs.Rows.{AllRows}
use Rattle.region_sets.specs.Compose.{exit_row}
use Rattle.region_sets.specs.Ready.{IsReady}
use Rattle.region_sets.proofs.composing.exit_row.Given as goal

abbrev pub invariant-loop-rest : goal.invariant-loop-rest
invariant-loop-rest l = record {
  same : exit_row l.cell l.rest ≡ exit_row l.cell l.fn.rows;
  each : AllRows IsReady l.rest;
}

abbrev pub decreases-loop-rest : goal.decreases-loop-rest
decreases-loop-rest l = length l.rest
