use Rattle.std.proofs.Common.{List, sym, subst}
use Rattle.affine_systems.specs.declared.row.Row.{Row}
use Rattle.affine_systems.specs.Rows.{AllRows}
use Rattle.affine_systems.specs.Given.{IsSmallRow}
use Rattle.affine_systems.proofs.RenameSteps.{fits_small}
use Rattle.hull_projection.proofs.difference.parts_outside.Goals as goal

pub parts-requires-clause-rows : goal.parts-requires-clause-rows
parts-requires-clause-rows c = subst (λ (rs : List Row). AllRows IsSmallRow rs) (sym c.as_slice.ensures) (fits_small c.args.b.now.rows c.requires.other_fits)
