-- What the statements of a module are looked at with.
use Rattle.std.specs.Prelude.{ℕ, List, map, Bool}
use Rattle.f77_ast.specs.declared.module.Module.{Module}
use Rattle.f77_ast.specs.PlainDecl.{module_tree}
use Rattle.f77_ast.specs.declared.symbol.Symbol.{Symbol}
use Rattle.f77_ast.specs.declared.variable.Unit.{Unit as BlockUnit}
use Rattle.f77_ast.specs.Symbols.{SymbolTree, symbol_tree}
use Rattle.f77_ast.specs.Index.{names_of}
use Rattle.tracked_cells.specs.Tracked.{tracked_of}
use Rattle.affine_forms.specs.Scalars.{Scalars, scalars}

-- the symbols of a module, for each whether it is a tracked cell, their names, and what names stand for in forms
pub record ScopeTree : Type 0 where
  pub symbols : List SymbolTree
  pub tracked : List Bool
  pub names : List (List ℕ)
  pub scalars : Scalars

abbrev pub scope_tree : List Symbol → List Bool → ScopeTree
scope_tree ss flags = record { symbols = map symbol_tree ss; tracked = flags; names = names_of ss; scalars = scalars ss flags }

-- of a module of a program with these untracked units
abbrev pub scope_of : Module → List Symbol → List BlockUnit → ScopeTree
scope_of m ss untracked = scope_tree ss (tracked_of (module_tree m) (map symbol_tree ss) untracked)
