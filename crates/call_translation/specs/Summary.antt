-- From the callee to the caller: the transformer of a CALL, which is the summary of what is called in the terms of the caller.
use Rattle.std.specs.Prelude.{ℕ, List, [], ◌∷◌, ◌++◌, map, Option, Some, None, if◌then◌else◌}
use Rattle.affine_systems.specs.declared.row.Var.{Var}
use Rattle.affine_systems.specs.declared.row.Var.TheVariants.{Exit}
use Rattle.affine_systems.specs.declared.row.System.{System}
use Rattle.affine_systems.specs.Given.{Fits}
use Rattle.hull_projection.specs.Variables.{with_vars, with_rows}
use Rattle.hull_projection.specs.Project.{project}
use Rattle.transformer_algebra.specs.declared.naming.Naming.{Naming}
use Rattle.transformer_algebra.specs.Renaming.{rename_all, push_rows}
use Rattle.transformer_algebra.specs.Fresh.{above_rows}
use Rattle.f77_ast.specs.Trees.{ExprTrees}
use Rattle.f77_ast.specs.declared.symbol.Place.{Place}
use Rattle.f77_ast.specs.declared.symbol.Place.TheVariants.{Local, Dummy, Block, Constant}
use Rattle.f77_ast.specs.declared.variable.Unit.{Unit as BlockUnit}
use Rattle.f77_ast.specs.Shared.{place_at}
use Rattle.tracked_cells.specs.Scalars.{unit}
use Rattle.transformer_algebra.specs.declared.transformer.Transformer.{Transformer}
use Rattle.transformer_algebra.specs.Cells.{joined_cells}
use Rattle.transformer_algebra.specs.Units.{joined_units}
use Rattle.transformer_algebra.specs.Transformers.{transformer, identity_transformer}
use Rattle.f77_ast.specs.Summaries.{SummaryTree}
use Rattle.call_translation.specs.Scopes.{ScopeTree}
use Rattle.call_translation.specs.Common.{tracked_at, declares}
use Rattle.call_translation.specs.Actuals.{one_cell}
use Rattle.call_translation.specs.Variables.{auxiliaries_in}
use Rattle.call_translation.specs.Call.{CallTree, cell_at, names_from, rows_from}

-- ---- the system

abbrev pub exits : List ℕ → List Var
exits cs = map (λ c. Exit c) cs

-- the variables of a summary and the exits of what it changes, in order
abbrev pub summary_vars : Transformer → List Var
summary_vars t = with_rows (with_vars [] (exits t.cells)) t.system.rows

abbrev pub named_system : CallTree → ℕ → List Naming → Transformer → System
named_system c n ns t = (project (push_rows (rename_all ns t.system) (rows_from c n (summary_vars t))) (auxiliaries_in ns)).system

-- the auxiliary variables are numbered from the least number above those of the summary
abbrev pub system_from : CallTree → ℕ → Transformer → System
system_from c n t = named_system c n (names_from c n [] (summary_vars t)) t

abbrev pub call_system : CallTree → Transformer → System
call_system c t = system_from c (above_rows 0 t.system.rows) t

-- ---- what changes

abbrev pub unit_cell : CallTree → BlockUnit → List ℕ
unit_cell c u = one_cell (tracked_at c.caller u.block u.offset)

-- cells of the caller at these units
abbrev pub unit_cells : CallTree → List BlockUnit → List ℕ
unit_cells c [] = []
unit_cells c (u ∷ us) = unit_cell c u ++ unit_cells c us

-- cells of the caller that are these cells of the callee
abbrev pub cells_of : CallTree → List ℕ → List ℕ
cells_of c [] = []
cells_of c (d ∷ ds) = one_cell (cell_at c (place_at c.symbols d)) ++ cells_of c ds

-- a unit, where the caller has no variable
abbrev pub if_hidden : CallTree → BlockUnit → List BlockUnit
if_hidden c u = if declares c.caller u.block u.offset then [] else u ∷ []

abbrev pub hidden_units : CallTree → List BlockUnit → List BlockUnit
hidden_units c [] = []
hidden_units c (u ∷ us) = if_hidden c u ++ hidden_units c us

abbrev pub unit_of : Option Place → List BlockUnit
unit_of None = []
unit_of (Some (Local g o)) = []
unit_of (Some (Dummy m)) = []
unit_of (Some (Block b o)) = unit b o ∷ []
unit_of (Some (Constant n)) = []

-- the units of cells of the callee that lie in blocks
abbrev pub units_of : CallTree → List ℕ → List BlockUnit
units_of c [] = []
units_of c (d ∷ ds) = unit_of (place_at c.symbols d) ++ units_of c ds

-- ---- the CALL

abbrev pub summary_in_caller : CallTree → Transformer → Transformer
summary_in_caller c t = transformer
    (joined_cells (unit_cells c t.foreign) (cells_of c t.cells))
    (joined_units (hidden_units c t.foreign) (hidden_units c (units_of c t.cells)))
    (call_system c t)

-- what a CALL of a module without a summary does is left out
abbrev pub call_transformer : ScopeTree → Option (SummaryTree Transformer) → ExprTrees → Transformer
call_transformer m None es = identity_transformer
call_transformer m (Some s) es = summary_in_caller (record { caller = m; actuals = es; symbols = s.symbols }) s.value

-- ---- what is asked of a summary

-- a system that calls take, where there is a summary
abbrev pub SummaryFits : Option (SummaryTree Transformer) → Type 0
SummaryFits None = Unit {0}
SummaryFits (Some s) = Fits s.value.system
