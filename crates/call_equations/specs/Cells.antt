-- What cells of the callee are to the caller where the callee begins: a dummy has the value of its actual, and a variable of a block is the
-- caller's at the same unit.
use Rattle.std.specs.Prelude.{ℕ, suc, ◌+◌, List, [], ◌∷◌, Option, Some, None}
use Rattle.affine_systems.specs.declared.row.Var.{Var}
use Rattle.affine_systems.specs.declared.row.Var.TheVariants.{Cell, Exit, Phi, Aux}
use Rattle.affine_systems.specs.declared.row.Term.{Term}
use Rattle.f77_ast.specs.Trees.{ExprTree}
use Rattle.f77_ast.specs.declared.symbol.Place.{Place}
use Rattle.f77_ast.specs.declared.symbol.Place.TheVariants.{Local, Dummy, Block, Constant}
use Rattle.f77_ast.specs.Shared.{place_at}
use Rattle.affine_forms.specs.declared.affine.Affine.{Affine}
use Rattle.affine_forms.specs.Forms.{affine, affine_of, cell_form, limited, sum_of}
use Rattle.affine_forms.specs.Comparisons.{var_form}
use Rattle.call_translation.specs.Common.{tracked_at}
use Rattle.call_translation.specs.Actuals.{actual_of, form_in}
use Rattle.call_equations.specs.Sides.{SidesTree}
use Rattle.call_equations.specs.Forms.{unless_among}

-- ---- in the terms of the caller

abbrev pub form_at : SidesTree → Option Place → Option Affine
form_at c None = None
form_at c (Some (Local g o)) = None
form_at c (Some (Dummy d)) = form_in c.caller (actual_of c.actuals d)
form_at c (Some (Block b o)) = cell_form (tracked_at c.caller b o)
form_at c (Some (Constant k)) = None

-- the form over the cells of the caller that a variable of the callee has the value of, by its number
abbrev pub form_of : SidesTree → ℕ → Option Affine
form_of c n = form_at c (place_at c.callee.symbols n)

abbrev pub var_in_caller : SidesTree → Var → Option Affine
var_in_caller c (Cell n) = form_of c n
var_in_caller c (Exit n) = None
var_in_caller c (Phi n) = None
var_in_caller c (Aux n) = None

-- a sum, and these terms with each cell as its form
abbrev pub terms_in_caller : SidesTree → Option Affine → List Term → Option Affine
terms_in_caller c f [] = f
terms_in_caller c f (t ∷ ts) = terms_in_caller c (sum_of f t.factor (var_in_caller c t.var)) ts

abbrev pub in_caller : SidesTree → Option Affine → Option Affine
in_caller c None = None
in_caller c (Some f) = terms_in_caller c (limited (affine [] f.constant)) f.terms

-- ---- by their names: cells of the callee are auxiliary variables behind those of the subscripts, of which there are r

abbrev pub cell_name : ℕ → ℕ → Var
cell_name r n = Aux (suc r + n)

abbrev pub named : ℕ → Var → Var
named r (Cell n) = cell_name r n
named r (Exit n) = Exit n
named r (Phi n) = Phi n
named r (Aux n) = Aux n

abbrev pub named_terms : ℕ → Option Affine → List Term → Option Affine
named_terms r f [] = f
named_terms r f (t ∷ ts) = named_terms r (sum_of f t.factor (Some (var_form (named r t.var)))) ts

abbrev pub named_form : ℕ → Option Affine → Option Affine
named_form r None = None
named_form r (Some f) = named_terms r (limited (affine [] f.constant)) f.terms

-- ---- bounds

abbrev pub maybe_form : (ExprTree → Option Affine) → Option ExprTree → Option Affine
maybe_form f None = None
maybe_form f (Some e) = f e

-- of the caller: none that names a cell which some statement changes, as bounds are those at the entry of the module
abbrev pub actual_bound : SidesTree → ExprTree → Option Affine
actual_bound c e = unless_among c.changed (affine_of c.caller.scalars e)

abbrev pub dummy_bound : SidesTree → ExprTree → Option Affine
dummy_bound c e = affine_of c.callee.scalars e
