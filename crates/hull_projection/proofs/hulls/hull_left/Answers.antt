use Rattle.std.proofs.Common.{List, sym, subst}
use Rattle.affine_systems.specs.declared.row.Row.{Row}
use Rattle.affine_systems.specs.Rows.{AllRows}
use Rattle.affine_systems.specs.Given.{IsGiven}
use Rattle.hull_projection.proofs.GivenLaws.{left_given}
use Rattle.hull_projection.proofs.hulls.hull_left.Goals as goal

pub tidy-requires : goal.tidy-requires
tidy-requires c = record { fits = subst (λ (rs : List Row). AllRows IsGiven rs) (sym c.in_ok-rows.ensures) (left_given c.args.left.items c.requires) }
