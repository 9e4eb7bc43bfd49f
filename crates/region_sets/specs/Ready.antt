-- Rows of a system, of which some may have lost all their terms.
use Rattle.std.specs.Prelude.{◌≡◌, false}
use Rattle.affine_systems.specs.declared.row.Row.{Row}
use Rattle.affine_systems.specs.Terms.{has_no_terms}
use Rattle.affine_systems.specs.Given.{IsGiven, IsNormal}

-- a row that tidying takes; where it has terms, it is its own normal form
pub record IsReady (r : Row) : Type 0 where
  pub given : IsGiven r
  pub normal : has_no_terms r.terms ≡ false → IsNormal r
