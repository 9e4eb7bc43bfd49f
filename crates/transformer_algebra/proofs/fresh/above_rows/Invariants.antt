use Rattle.std.proofs.Common.{◌≡◌, ◌≤◌, ◌^◌, drop}
use Rattle.transformer_algebra.specs.Fresh.{above_rows}
use Rattle.transformer_algebra.proofs.fresh.above_rows.Given as goal

abbrev pub invariant-loop-row : goal.invariant-loop-row
invariant-loop-row l = record { same : above_rows l.least (drop l.row-index l.rows) ≡ above_rows l.fn.least l.fn.rows; below : l.least ≤ 2 ^ 32 }
