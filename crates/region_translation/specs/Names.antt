-- The equations of a CALL the other way round: from the caller to the module that it calls. The names of the callee's subscripts and cells become these
-- themselves, and the caller's become auxiliary variables.
use Rattle.std.specs.Prelude.{ℕ, ◌-◌, Bool, false, nat_le, List, [], ◌∷◌, ◌++◌, map, if◌then◌else◌}
use Rattle.affine_systems.specs.declared.row.Var.{Var}
use Rattle.affine_systems.specs.declared.row.Var.TheVariants.{Cell, Exit, Phi, Aux}
use Rattle.affine_systems.specs.declared.row.Term.{Term}
use Rattle.affine_systems.specs.declared.row.Row.{Row}
use Rattle.affine_systems.specs.Rows.{false_row, renamed_row}
use Rattle.affine_systems.specs.Normal.{Normal, Kept, Always, Never, TooBig, normal}
use Rattle.call_translation.specs.transformer_algebra.declared.naming.Naming.{Naming}
use Rattle.call_translation.specs.transformer_algebra.Renaming.{naming, renamed_by}
use Rattle.call_equations.specs.Cells.{cell_name}

-- one of the first r is a subscript of the callee's variable, one behind them a cell
abbrev pub callee_name : ℕ → ℕ → Var
callee_name r n = if nat_le n r then Phi n else Cell ((n - r) - 1)

abbrev pub turned_name : ℕ → ℕ → Var → Var
turned_name r q (Cell n) = cell_name q n
turned_name r q (Exit n) = Exit n
turned_name r q (Phi n) = Aux n
turned_name r q (Aux n) = callee_name r n

-- the names of the variables of an equation
abbrev pub turned_names : ℕ → ℕ → List Term → List Naming
turned_names r q ts = map (λ t. naming t.var (turned_name r q t.var)) ts

abbrev pub turned_row : ℕ → ℕ → Row → Row
turned_row r q e = renamed_row (renamed_by (turned_names r q e.terms)) e

-- an equation in normal form with these names; none where it holds everywhere, or a number reaches 2^62
abbrev pub turned_normal : ℕ → ℕ → Normal → List Row
turned_normal r q (Kept e) = turned_row r q e ∷ []
turned_normal r q Always = []
turned_normal r q Never = false_row ∷ []
turned_normal r q TooBig = []

abbrev pub turned_rows : ℕ → ℕ → List Row → List Row
turned_rows r q [] = []
turned_rows r q (e ∷ es) = turned_normal r q (normal false e) ++ turned_rows r q es
