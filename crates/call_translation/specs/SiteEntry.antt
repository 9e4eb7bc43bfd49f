-- From the caller to the callee: what one CALL gives for the entry of what it calls.
use Rattle.std.specs.Prelude.{ℕ, suc, List, [], ◌∷◌, ◌++◌, map, Option, Some, None, if◌then◌else◌}
use Rattle.affine_systems.specs.declared.row.Var.{Var}
use Rattle.affine_systems.specs.declared.row.Var.TheVariants.{Cell, Exit, Phi, Aux}
use Rattle.affine_systems.specs.declared.row.Row.{Row}
use Rattle.affine_systems.specs.declared.row.System.{System}
use Rattle.affine_systems.specs.Rows.{renamed_row}
use Rattle.hull_projection.specs.Variables.{with_rows}
use Rattle.hull_projection.specs.Project.{project}
use Rattle.transformer_algebra.specs.declared.naming.Naming.{Naming}
use Rattle.transformer_algebra.specs.Renaming.{naming, renamed_by, rename_all, push_rows}
use Rattle.transformer_algebra.specs.Fresh.{above_rows}
use Rattle.f77_ast.specs.declared.symbol.Place.{Place}
use Rattle.f77_ast.specs.declared.symbol.Place.TheVariants.{Local, Dummy, Block, Constant}
use Rattle.f77_ast.specs.Symbols.{SymbolTree}
use Rattle.f77_ast.specs.Shared.{place_at}
use Rattle.affine_forms.specs.declared.affine.Affine.{Affine}
use Rattle.affine_forms.specs.Scalars.{is_cell}
use Rattle.affine_forms.specs.Comparisons.{var_form, same_row}
use Rattle.tracked_cells.specs.Standing.{is_int_scalar}
use Rattle.call_translation.specs.Scopes.{ScopeTree}
use Rattle.call_translation.specs.Common.{tracked_at}
use Rattle.call_translation.specs.Actuals.{actual_of, form_in}
use Rattle.call_translation.specs.Variables.{auxiliaries_in}
use Rattle.call_translation.specs.Sites.{HoldingSite}

-- the form of the actual of a dummy
abbrev pub form_at : HoldingSite → Place → Option Affine
form_at c (Local g o) = None
form_at c (Dummy d) = form_in c.caller (actual_of c.actuals d)
form_at c (Block b o) = None
form_at c (Constant k) = None

-- of one that is an INTEGER scalar
abbrev pub dummy_form : HoldingSite → SymbolTree → Option Affine
dummy_form c s = if is_int_scalar s then form_at c s.place else None

abbrev pub row_for : ℕ → Option Affine → List Row
row_for n None = []
row_for n (Some f) = same_row (var_form (Exit n)) f ∷ []

abbrev pub row_of : HoldingSite → ℕ → SymbolTree → List Row
row_of c n s = row_for n (dummy_form c s)

-- each dummy, which `Exit` stands for here, is the form of its actual over the cells of the caller
abbrev pub rows_from : HoldingSite → ℕ → List SymbolTree → List Row
rows_from c n [] = []
rows_from c n (s ∷ ss) = row_of c n s ++ rows_from c (suc n) ss

-- the tracked cell of the callee that is the same unit of a block
abbrev pub same_unit : ScopeTree → Option Place → Option ℕ
same_unit m None = None
same_unit m (Some (Local g o)) = None
same_unit m (Some (Dummy d)) = None
same_unit m (Some (Block b o)) = tracked_at m b o
same_unit m (Some (Constant k)) = None

-- where both modules track it
abbrev pub kept_cell : ScopeTree → HoldingSite → ℕ → Option ℕ
kept_cell m c x = if is_cell c.caller.tracked x then same_unit m (place_at c.caller.symbols x) else None

abbrev pub or_aux : ℕ → Option ℕ → Var
or_aux n None = Aux n
or_aux n (Some x) = Cell x

-- what stands in the callee for a variable
abbrev pub in_callee : ScopeTree → HoldingSite → ℕ → Var → Var
in_callee m c n (Cell x) = or_aux n (kept_cell m c x)
in_callee m c n (Exit x) = Cell x
in_callee m c n (Phi x) = Aux n
in_callee m c n (Aux x) = Aux n

-- auxiliary variables are numbered from n on
abbrev pub names_from : ScopeTree → HoldingSite → ℕ → List Var → List Naming
names_from m c n [] = []
names_from m c n (v ∷ vs) = naming v (in_callee m c n v) ∷ names_from m c (suc n) vs

-- with these namings of the variables of its system and its rows
abbrev pub named_entry : List Naming → System → List Row → System
named_entry ns s rs = (project (push_rows (rename_all ns s) (map (renamed_row (renamed_by ns)) rs)) (auxiliaries_in ns)).system

abbrev pub entry_with : ScopeTree → HoldingSite → List Row → System
entry_with m c rs = named_entry (names_from m c (above_rows 0 c.value.rows) (with_rows (with_rows [] c.value.rows) rs)) c.value rs

-- what one CALL gives: what holds there, and each dummy as the form of its actual; all is projected away but the dummies and the cells of
-- blocks that both modules track
abbrev pub site_entry : ScopeTree → HoldingSite → System
site_entry m c = entry_with m c (rows_from c 1 m.symbols)
