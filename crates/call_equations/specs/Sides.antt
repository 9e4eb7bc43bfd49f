-- A CALL with the two modules that it joins, and what is known of both (ANSI X3.9-1978 §15.6.2).
use Rattle.std.specs.Prelude.{ℕ, Bool, true, false, not, ◌&&◌, List, [], ◌∷◌, map}
use Rattle.std.specs.List.{list_any}
use Rattle.f77_ast.specs.Trees.{ExprTrees}
use Rattle.f77_ast.specs.Plain.{expr_trees}
use Rattle.f77_ast.specs.declared.symbol.Place.{Place}
use Rattle.f77_ast.specs.declared.symbol.Place.TheVariants.{Local, Dummy, Block, Constant}
use Rattle.f77_ast.specs.declared.variable.Unit.{Unit as BlockUnit}
use Rattle.f77_ast.specs.Symbols.{SymbolTree}
use Rattle.tracked_cells.specs.Standing.{is_int_scalar}
use Rattle.tracked_cells.specs.Tracked.{is_unit}
use Rattle.f77_ast.specs.declared.results.At.{At}
use Rattle.call_translation.specs.transformer_algebra.declared.transformer.Transformer.{Transformer}
use Rattle.call_translation.specs.transformer_algebra.Cells.{joined_cells}
use Rattle.call_translation.specs.Scopes.{ScopeTree, scope_tree}
use Rattle.call_equations.specs.declared.sides.CallSides.{CallSides}

-- the module that calls, its cells that some statement changes, the name of the module that is called, the actuals, and that module as it is
-- entered
pub record SidesTree : Type 0 where
  pub caller : ScopeTree
  pub changed : List ℕ
  pub name : List ℕ
  pub actuals : ExprTrees
  pub callee : ScopeTree

abbrev pub sides_tree : CallSides → SidesTree
sides_tree c = record {
  caller = scope_tree c.caller.now.symbols.now c.caller.now.tracked.now;
  changed = c.changed.now;
  name = c.name.now;
  actuals = expr_trees c.actuals.now;
  callee = scope_tree c.callee.now.symbols.now c.callee.now.tracked.now;
}

-- ---- the cells that some statement of a module changes

abbrev pub changed_by : List ℕ → List (At Transformer) → List ℕ
changed_by cs [] = cs
changed_by cs (a ∷ as') = changed_by (joined_cells cs a.value.cells) as'

abbrev pub changed_cells : List (At Transformer) → List ℕ
changed_cells as' = changed_by [] as'

-- ---- the cells of a module that the bounds of its dummies may name (ANSI X3.9-1978 §5.1.1.2): dummies, and variables of blocks

abbrev pub is_entry_place : List BlockUnit → Place → Bool
is_entry_place untracked (Local g o) = false
is_entry_place untracked (Dummy n) = true
is_entry_place untracked (Block x o) = not (list_any (is_unit x o) untracked)
is_entry_place untracked (Constant n) = false

abbrev pub is_entry_cell : List BlockUnit → SymbolTree → Bool
is_entry_cell untracked s = is_int_scalar s && is_entry_place untracked s.place

-- a flag for each symbol, in a program with these untracked units
abbrev pub entry_cells : List BlockUnit → List SymbolTree → List Bool
entry_cells untracked ss = map (is_entry_cell untracked) ss
