use Rattle.std.proofs.Common.{◌≡◌, map, take}
use Rattle.affine_systems.specs.Rows.{renamed_row}
use Rattle.affine_systems.specs.Calls.{one_by}
use Rattle.affine_systems.proofs.calls.renamed_rows.Given as goal

abbrev pub invariant-loop-row : goal.invariant-loop-row
invariant-loop-row l = l.out.items ≡ map (renamed_row (one_by l.from l.to)) (take l.row-index l.rows)
