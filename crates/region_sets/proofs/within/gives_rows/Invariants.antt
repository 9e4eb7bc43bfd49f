use Rattle.std.proofs.Common.{◌≡◌, length}
use Rattle.affine_systems.specs.Rows.{AllRows}
use Rattle.region_sets.specs.Ready.{IsReady}
use Rattle.region_sets.specs.Within.{gives_rows}
use Rattle.region_sets.specs.Joining.{AreAnswers}
use Rattle.region_sets.proofs.within.gives_rows.Given as goal

abbrev pub invariant-loop-rest : goal.invariant-loop-rest
invariant-loop-rest l = record {
  same : gives_rows l.s.rows l.rest ≡ gives_rows l.s.rows l.fn.rows;
  asked : AreAnswers l.s.rows l.asked.items;
  each : AllRows IsReady l.rest;
}

abbrev pub decreases-loop-rest : goal.decreases-loop-rest
decreases-loop-rest l = length l.rest
