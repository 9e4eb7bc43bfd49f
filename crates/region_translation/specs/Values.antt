-- What the scalar dummies are where the callee begins (ANSI X3.9-1978 §15.9.3).
use Rattle.std.specs.Prelude.{ℕ, suc, Bool, true, false, not, ◌&&◌, ◌||◌, if◌then◌else◌, List, [], ◌∷◌, ◌++◌, Option, Some, None, option_to_list}
use Rattle.affine_systems.specs.declared.row.Var.{Var}
use Rattle.affine_systems.specs.declared.row.Var.TheVariants.{Cell, Exit, Phi, Aux}
use Rattle.affine_systems.specs.declared.row.Row.{Row}
use Rattle.affine_systems.specs.Terms.{has_no_terms}
use Rattle.f77_ast.specs.declared.symbol.Place.{Place}
use Rattle.f77_ast.specs.declared.symbol.Place.TheVariants.{Local, Dummy, Block, Constant}
use Rattle.f77_ast.specs.Symbols.{SymbolTree}
use Rattle.f77_ast.specs.Shared.{symbol_at}
use Rattle.tracked_cells.specs.Standing.{is_int_scalar}
use Rattle.affine_forms.specs.declared.affine.Affine.{Affine}
use Rattle.affine_forms.specs.Comparisons.{var_form}
use Rattle.call_translation.specs.Actuals.{actual_of, form_in}
use Rattle.call_equations.specs.Sides.{SidesTree}
use Rattle.call_equations.specs.Forms.{equation}
use Rattle.call_equations.specs.Cells.{named_form}

-- a form without cells is left out: it would say what no region names
abbrev pub with_cells : Option Affine → Option Affine
with_cells None = None
with_cells (Some f) = if has_no_terms f.terms then None else Some f

-- the n-th symbol has the value of its actual, whose cells have the names behind q subscripts
abbrev pub dummy_row : SidesTree → ℕ → ℕ → ℕ → Option Row
dummy_row c q n d = equation (Some (var_form (Cell n))) (named_form q (with_cells (form_in c.caller (actual_of c.actuals d))))

abbrev pub place_row : SidesTree → ℕ → ℕ → Place → Option Row
place_row c q n (Local g o) = None
place_row c q n (Dummy d) = dummy_row c q n d
place_row c q n (Block b o) = None
place_row c q n (Constant v) = None

abbrev pub symbol_row : SidesTree → ℕ → ℕ → SymbolTree → Option Row
symbol_row c q n s = if is_int_scalar s then place_row c q n s.place else None

-- of the symbols after the n-th
abbrev pub value_rows_from : SidesTree → ℕ → ℕ → List SymbolTree → List Row
value_rows_from c q n [] = []
value_rows_from c q n (s ∷ ss) = option_to_list (symbol_row c q (suc n) s) ++ value_rows_from c q (suc n) ss

abbrev pub value_rows : SidesTree → ℕ → List Row
value_rows c q = value_rows_from c q 0 c.callee.symbols

-- ---- the cells that may be named there

abbrev pub is_dummy_place : Place → Bool
is_dummy_place (Local g o) = false
is_dummy_place (Dummy d) = true
is_dummy_place (Block b o) = false
is_dummy_place (Constant v) = false

abbrev pub is_scalar_dummy : Option SymbolTree → Bool
is_scalar_dummy None = false
is_scalar_dummy (Some s) = is_int_scalar s && is_dummy_place s.place

-- scalar dummies stay; other cells, and what was the caller's, go
abbrev pub goes_away : SidesTree → Var → Bool
goes_away c (Cell n) = not (is_scalar_dummy (symbol_at c.callee.symbols n))
goes_away c (Exit n) = false
goes_away c (Phi n) = false
goes_away c (Aux n) = true

abbrev pub going_away : SidesTree → List Var → List Var
going_away c [] = []
going_away c (v ∷ vs) = if goes_away c v then v ∷ going_away c vs else going_away c vs
