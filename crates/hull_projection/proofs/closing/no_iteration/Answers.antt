use Rattle.std.proofs.Common.{◌∙◌, List, sym, subst}
use Rattle.affine_systems.specs.declared.row.Row.{Row}
use Rattle.affine_systems.specs.Rows.{AllRows}
use Rattle.affine_systems.specs.Given.{IsGiven}
use Rattle.hull_projection.proofs.GivenLaws.{all_same_given}
use Rattle.hull_projection.proofs.closing.no_iteration.Goals as goal

pub tidy-requires : goal.tidy-requires
tidy-requires c = record { fits = subst (λ (rs : List Row). AllRows IsGiven rs) (sym (c.from_vec.ensures ∙ c.in_ok-same_rows.ensures)) (all_same_given c.args.cells.now c.requires.cells) }
