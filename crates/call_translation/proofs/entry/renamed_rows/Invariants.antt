use Rattle.std.proofs.Common.{◌≡◌, ◌++◌, map, drop}
use Rattle.affine_systems.specs.Rows.{AllRows, renamed_row}
use Rattle.affine_systems.specs.Given.{IsGiven, IsSmallRow}
use Rattle.transformer_algebra.specs.Renaming.{renamed_by}
use Rattle.call_translation.proofs.entry.renamed_rows.Given as goal

abbrev pub invariant-loop-row : goal.invariant-loop-row
invariant-loop-row l = record {
  rows : l.out.items ++ map (renamed_row (renamed_by l.names)) (drop l.row-index l.rows) ≡ map (renamed_row (renamed_by l.fn.names)) l.fn.rows;
  given : AllRows IsGiven l.out.items;
  small : AllRows IsSmallRow (drop l.row-index l.rows);
}
