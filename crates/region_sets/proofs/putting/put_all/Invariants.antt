use Rattle.std.proofs.Common.{◌≡◌, ◌++◌, ◌||◌, drop}
use Rattle.affine_systems.specs.Rows.{AllRows}
use Rattle.region_sets.specs.Ready.{IsReady}
use Rattle.region_sets.proofs.putting.put_all.Given as goal
use Rattle.region_sets.specs.Putting.{loses_row, put_in_all}

abbrev pub invariant-loop-row : goal.invariant-loop-row
invariant-loop-row l = record {
  same : l.out.items ++ put_in_all l.v l.by (drop l.row-index l.rows) ≡ l.fn.out.items ++ put_in_all l.v l.by l.rows;
  lost : (l.lost || loses_row l.v l.by (drop l.row-index l.rows)) ≡ loses_row l.v l.by l.rows;
  ready : AllRows IsReady l.out.items;
}
