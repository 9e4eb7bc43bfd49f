-- The variables of which each iteration may have its own copy by their names: locals that keep no value between calls (ANSI X3.9-1978 §8.9, §9), and share
-- no storage (§8.2).
use Rattle.std.specs.Prelude.{ℕ, Bool, false, not, ◌&&◌, List, Option, Some, None, bytes_eq}
use Rattle.std.specs.List.{list_any}
use Rattle.f77_ast.specs.DeclTrees.{ModuleTree}
use Rattle.f77_ast.specs.declared.variable.Variable.{Variable}
use Rattle.f77_ast.specs.declared.variable.Variable.TheVariants as variable
use Rattle.f77_ast.specs.Symbols.{SymbolTree}
use Rattle.f77_ast.specs.Shared.{symbol_at}
use Rattle.tracked_cells.specs.Equivalences.{equivalenced_names}
use Rattle.call_graph.specs.Visible.{is_local}

-- the name is in an EQUIVALENCE of the module
abbrev pub is_equivalenced : ModuleTree → List ℕ → Bool
is_equivalenced m x = list_any (bytes_eq x) (equivalenced_names m)

abbrev pub is_own : ModuleTree → SymbolTree → Bool
is_own m s = is_local s.place && (not s.saved && not (is_equivalenced m s.name))

abbrev pub is_own_symbol : ModuleTree → Option SymbolTree → Bool
is_own_symbol m None = false
is_own_symbol m (Some s) = is_own m s

abbrev pub may_copy : ModuleTree → List SymbolTree → Variable → Bool
may_copy m ss (variable.Own n) = is_own_symbol m (symbol_at ss n)
may_copy m ss (variable.Block x) = false
may_copy m ss (variable.Saved x y) = false
