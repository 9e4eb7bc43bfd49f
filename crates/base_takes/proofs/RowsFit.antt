-- Systems whose rows pass the tests fit.
use Rattle.std.proofs.Common.{◌≡◌, true}
use Rattle.affine_systems.specs.declared.row.Row.{Row}
use Rattle.affine_systems.specs.declared.row.System.{System}
use Rattle.base_json.specs.Scopes.{ScopeTree}
use Rattle.base_json.specs.Read.{terms_ascend, rows_fit, is_small_system}
use Rattle.base_values.specs.Naming.{Each, RowNames, SystemFits}
use Rattle.base_values.proofs.Options.{each_map}
use Rattle.base_values.proofs.RowsBack.{RowRead, test_ascend, rows_normal}

-- the variables of a row may be named, and its terms pass the test
abbrev pub RowChecked : ScopeTree → Row → Type 0
RowChecked s r = RowNames s r × (terms_ascend r.terms ≡ true)

pub system_fits : (s : ScopeTree) (y : System) → rows_fit y.rows ≡ true → is_small_system y ≡ true → Each (RowChecked s) y.rows → SystemFits s y
system_fits s y f k h =
    (rows_normal s y.rows (each_map (RowChecked s) (RowRead s) (λ r p. (p.0, test_ascend r.terms p.1)) y.rows h) k f, each_map (RowChecked s) (RowNames s) (λ r p. p.0) y.rows h)
