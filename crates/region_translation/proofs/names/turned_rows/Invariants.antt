use Rattle.std.proofs.Common.{◌≡◌, ◌++◌, length}
use Rattle.affine_systems.specs.Given.{IsGiven}
use Rattle.affine_systems.specs.Rows.{AllRows}
use Rattle.region_translation.specs.Names.{turned_rows}
use Rattle.region_translation.proofs.names.turned_rows.Given as goal

abbrev pub invariant-loop-rest : goal.invariant-loop-rest
invariant-loop-rest l = record {
  same : l.out.items ++ turned_rows l.inner l.outer l.rest ≡ turned_rows l.inner l.outer l.rows;
  fits : AllRows IsGiven l.out.items;
  each : AllRows IsGiven l.rest;
}

abbrev pub decreases-loop-rest : goal.decreases-loop-rest
decreases-loop-rest l = length l.rest
