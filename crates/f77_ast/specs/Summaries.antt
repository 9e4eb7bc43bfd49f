-- Summaries of modules, by name.
use Rattle.std.specs.Prelude.{ℕ, List, map, Option, bytes_eq, option_map}
use Rattle.std.specs.HashMap.{get_by}
use Rattle.f77_ast.specs.Symbols.{SymbolTree, symbol_tree}
use Rattle.f77_ast.specs.declared.summaries.Summary.{Summary}
use Rattle.f77_ast.specs.declared.summaries.Summaries.{Summaries}

-- the symbols of a module, and what an analysis says of it
pub record SummaryTree (T : Type 0) : Type 0 where
  pub symbols : List SymbolTree
  pub value : T

abbrev pub summary_tree : {T : Type 0} → Summary T → SummaryTree T
summary_tree s = record { symbols = map symbol_tree s.symbols; value = s.value }

-- the summary of the module of a name
abbrev pub summary_in : {T : Type 0} → Summaries T → List ℕ → Option (SummaryTree T)
summary_in ss x = option_map summary_tree (get_by (λ k. bytes_eq x k.items) ss.by_name)
