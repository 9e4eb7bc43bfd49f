-- What a module does to tracked cells, at each statement and as its callers see it.
use Rattle.std.specs.Prelude.{ℕ, Bool, true, false, not, List, filter, Option, Some, None}
use Rattle.affine_systems.specs.declared.row.Var.{Var}
use Rattle.affine_systems.specs.declared.row.System.{System}
use Rattle.affine_systems.specs.Terms.{number}
use Rattle.hull_projection.specs.Variables.{row_vars}
use Rattle.hull_projection.specs.Project.{project}
use Rattle.f77_ast.specs.Trees.{StmtTrees}
use Rattle.f77_ast.specs.declared.symbol.Place.{Place}
use Rattle.f77_ast.specs.declared.symbol.Place.TheVariants.{Local, Dummy, Block, Constant}
use Rattle.f77_ast.specs.Symbols.{SymbolTree}
use Rattle.f77_ast.specs.Shared.{place_at}
use Rattle.f77_ast.specs.declared.results.Results.{Results}
use Rattle.call_translation.specs.transformer_algebra.declared.transformer.Transformer.{Transformer}
use Rattle.call_translation.specs.transformer_algebra.Transformers.{transformer}
use Rattle.call_translation.specs.Scopes.{ScopeTree}
use Rattle.transformers.specs.Given.{Callees}
use Rattle.transformers.specs.Statement.{list_transformer, at_list}

-- dummies and variables of blocks
abbrev pub is_seen : Option Place → Bool
is_seen None = false
is_seen (Some (Local g o)) = false
is_seen (Some (Dummy m)) = true
is_seen (Some (Block b o)) = true
is_seen (Some (Constant n)) = false

abbrev pub is_visible_to_callers : List SymbolTree → ℕ → Bool
is_visible_to_callers ss c = is_seen (place_at ss c)

abbrev pub stays_in : List SymbolTree → Var → Bool
stays_in ss v = not (is_visible_to_callers ss (number v))

abbrev pub hidden_vars : List SymbolTree → System → List Var
hidden_vars ss s = filter (stays_in ss) (row_vars s.rows)

-- of a module whose body has this transformer: locals are projected away
abbrev pub summary_of : List SymbolTree → Transformer → Transformer
summary_of ss t = transformer (filter (is_visible_to_callers ss) t.cells) t.foreign (project t.system (hidden_vars ss t.system)).system

abbrev pub transformers_of : StmtTrees → ScopeTree → Callees → Results Transformer
transformers_of body m cs = record {
  at = at_list body m cs true;
  summary = summary_of m.symbols (list_transformer body m cs true);
}
