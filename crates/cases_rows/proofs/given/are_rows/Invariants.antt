use Rattle.std.proofs.Common.{drop}
use Rattle.affine_systems.specs.Rows.{AllRows}
use Rattle.affine_systems.specs.Given.{IsGiven}
use Rattle.cases_rows.proofs.given.are_rows.Given as goal

abbrev pub invariant-loop-row : goal.invariant-loop-row
invariant-loop-row l = AllRows IsGiven (drop l.row-index l.rows) → AllRows IsGiven l.fn.rows
