-- What variables of a callee are to its caller: a dummy is its actual, and a variable of a block is the caller's at the same unit.
use Rattle.std.specs.Prelude.{ℕ, suc, List, [], ◌∷◌, ◌++◌, map, Option, Some, None, if◌then◌else◌}
use Rattle.affine_systems.specs.declared.row.Var.{Var}
use Rattle.affine_systems.specs.declared.row.Var.TheVariants.{Cell, Exit, Phi, Aux}
use Rattle.affine_systems.specs.declared.row.Row.{Row}
use Rattle.transformer_algebra.specs.declared.naming.Naming.{Naming}
use Rattle.transformer_algebra.specs.Renaming.{naming}
use Rattle.f77_ast.specs.Trees.{ExprTrees}
use Rattle.f77_ast.specs.Plain.{expr_trees}
use Rattle.f77_ast.specs.declared.symbol.Place.{Place}
use Rattle.f77_ast.specs.declared.symbol.Place.TheVariants.{Local, Dummy, Block, Constant}
use Rattle.f77_ast.specs.Symbols.{SymbolTree, symbol_tree}
use Rattle.f77_ast.specs.Shared.{place_at}
use Rattle.affine_forms.specs.declared.affine.Affine.{Affine}
use Rattle.affine_forms.specs.Comparisons.{var_form, same_row}
use Rattle.transformer_algebra.specs.Cells.{has}
use Rattle.call_translation.specs.declared.call.CallContext.{CallContext}
use Rattle.call_translation.specs.Scopes.{ScopeTree, scope_tree}
use Rattle.call_translation.specs.Common.{tracked_at}
use Rattle.call_translation.specs.Actuals.{one_cell, actual_of, form_in, cell_named}

-- a CALL: its module, its actuals, and the symbols of what it calls
pub record CallTree : Type 0 where
  pub caller : ScopeTree
  pub actuals : ExprTrees
  pub symbols : List SymbolTree

abbrev pub call_tree : CallContext → CallTree
call_tree c = record { caller = scope_tree c.caller.now.symbols.now c.caller.now.tracked.now; actuals = expr_trees c.actuals.now; symbols = map symbol_tree c.symbols.now }

-- the tracked cell of the caller that is the actual of a dummy
abbrev pub actual_cell : CallTree → ℕ → Option ℕ
actual_cell c m = cell_named c.caller (actual_of c.actuals m)

-- the tracked cell of the caller that is the same unit as a variable of the callee
abbrev pub cell_at : CallTree → Option Place → Option ℕ
cell_at c None = None
cell_at c (Some (Local g o)) = None
cell_at c (Some (Dummy m)) = actual_cell c m
cell_at c (Some (Block b o)) = tracked_at c.caller b o
cell_at c (Some (Constant n)) = None

-- the same for a variable of a block alone
abbrev pub block_cell_at : CallTree → Option Place → Option ℕ
block_cell_at c None = None
block_cell_at c (Some (Local g o)) = None
block_cell_at c (Some (Dummy m)) = None
block_cell_at c (Some (Block b o)) = tracked_at c.caller b o
block_cell_at c (Some (Constant n)) = None

-- for a dummy alone
abbrev pub dummy_cell_at : CallTree → Option Place → Option ℕ
dummy_cell_at c None = None
dummy_cell_at c (Some (Local g o)) = None
dummy_cell_at c (Some (Dummy m)) = actual_cell c m
dummy_cell_at c (Some (Block b o)) = None
dummy_cell_at c (Some (Constant n)) = None

-- the form of the actual of a dummy
abbrev pub form_at : CallTree → Option Place → Option Affine
form_at c None = None
form_at c (Some (Local g o)) = None
form_at c (Some (Dummy m)) = form_in c.caller (actual_of c.actuals m)
form_at c (Some (Block b o)) = None
form_at c (Some (Constant n)) = None

abbrev pub cell_or_aux : ℕ → Option ℕ → Var
cell_or_aux n None = Aux n
cell_or_aux n (Some x) = Cell x

abbrev pub exit_or_aux : ℕ → Option ℕ → Var
exit_or_aux n None = Aux n
exit_or_aux n (Some x) = Exit x

-- unless it is one of these
abbrev pub unless_among : List ℕ → Option ℕ → Option ℕ
unless_among passed_by_reference None = None
unless_among passed_by_reference (Some x) = if has passed_by_reference x then None else Some x

-- the tracked cell of the caller whose exit is that of a variable of the callee, where these cells were passed to dummies before: the exit of a
-- cell that is passed to several dummies is that of the first of them
abbrev pub exit_of : CallTree → List ℕ → Option Place → Option ℕ
exit_of c passed_by_reference None = None
exit_of c passed_by_reference (Some (Local g o)) = None
exit_of c passed_by_reference (Some (Dummy m)) = unless_among passed_by_reference (actual_cell c m)
exit_of c passed_by_reference (Some (Block b o)) = tracked_at c.caller b o
exit_of c passed_by_reference (Some (Constant n)) = None

-- what stands for a variable of the callee, where its own auxiliary variable has the number n, and these cells were passed to dummies before
abbrev pub in_caller : CallTree → ℕ → List ℕ → Var → Var
in_caller c n passed_by_reference (Cell d) = cell_or_aux n (block_cell_at c (place_at c.symbols d))
in_caller c n passed_by_reference (Exit d) = exit_or_aux n (exit_of c passed_by_reference (place_at c.symbols d))
in_caller c n passed_by_reference (Phi d) = Aux n
in_caller c n passed_by_reference (Aux d) = Aux n

-- the cell that a variable says to be passed
abbrev pub cell_passed_by : CallTree → Var → List ℕ
cell_passed_by c (Cell d) = []
cell_passed_by c (Exit d) = one_cell (dummy_cell_at c (place_at c.symbols d))
cell_passed_by c (Phi d) = []
cell_passed_by c (Aux d) = []

-- for variables in order, whose own auxiliary variables are numbered from n on
abbrev pub names_from : CallTree → ℕ → List ℕ → List Var → List Naming
names_from c n passed_by_reference [] = []
names_from c n passed_by_reference (v ∷ vs) = naming v (in_caller c n passed_by_reference v) ∷ names_from c (suc n) (passed_by_reference ++ cell_passed_by c v) vs

abbrev pub maybe_row : Option Row → List Row
maybe_row None = []
maybe_row (Some r) = r ∷ []

abbrev pub form_row : Var → Option Affine → List Row
form_row v None = []
form_row v (Some f) = same_row (var_form v) f ∷ []

-- that a dummy had at first the value of its actual
abbrev pub row_of : CallTree → ℕ → Var → List Row
row_of c n (Cell d) = form_row (Aux n) (form_at c (place_at c.symbols d))
row_of c n (Exit d) = []
row_of c n (Phi d) = []
row_of c n (Aux d) = []

abbrev pub rows_from : CallTree → ℕ → List Var → List Row
rows_from c n [] = []
rows_from c n (v ∷ vs) = row_of c n v ++ rows_from c (suc n) vs
