use Rattle.std.proofs.Common.{◌≡◌, ◌+◌, ◌++◌, length}
use Rattle.affine_systems.specs.Rows.{AllRows}
use Rattle.affine_systems.specs.Given.{IsGiven}
use Rattle.call_translation.specs.Call.{call_tree, rows_from}
use Rattle.call_translation.proofs.summary.first_rows.Given as goal

abbrev pub invariant-loop-rest : goal.invariant-loop-rest
invariant-loop-rest l = record {
  same : l.rows.items ++ rows_from (call_tree l.call) l.number l.rest ≡ rows_from (call_tree l.call) l.fn.first l.fn.vars;
  room : l.number + length l.rest ≡ l.fn.first + length l.fn.vars;
  given : AllRows IsGiven l.rows.items;
}

abbrev pub decreases-loop-rest : goal.decreases-loop-rest
decreases-loop-rest l = length l.rest
