-- READ and WRITE of a module: at each statement, and as its callers see it.
use Rattle.std.specs.Prelude.{true, List}
use Rattle.f77_ast.specs.Trees.{StmtTrees}
use Rattle.f77_ast.specs.declared.variable.Unit.{Unit as BlockUnit}
use Rattle.f77_ast.specs.declared.results.At.{At}
use Rattle.f77_ast.specs.declared.results.Results.{Results}
use Rattle.transformers.specs.transformer_algebra.declared.transformer.Transformer.{Transformer}
use Rattle.transformers.specs.call_translation.Scopes.{ScopeTree}
use Rattle.transformers.specs.Lists.{transformer_at}
use Rattle.region_translation.specs.region_sets.declared.region.Region.{Region}
use Rattle.region_translation.specs.call_equations.Sides.{changed_cells}
use Rattle.array_regions.specs.Loops.{Found}
use Rattle.array_regions.specs.Calls.{Called, Callees, call_set}
use Rattle.array_regions.specs.Statement.{list_set, at_list}
use Rattle.array_regions.specs.Entry.{summary_of}

abbrev pub regions_of : StmtTrees → ScopeTree → Found → Called → Results (List Region)
regions_of body m t c = record { at = at_list body m t c; summary = summary_of m (list_set true body m t c) }

-- what the CALLs of a module access, from the transformers of its statements and the summaries of what it calls
abbrev pub calls_of : ScopeTree → List BlockUnit → List (At Transformer) → Callees → Called
calls_of m untracked own cs = call_set m (changed_cells own) untracked cs

-- from these and those
abbrev pub regions_with : StmtTrees → ScopeTree → List BlockUnit → List (At Transformer) → Callees → Results (List Region)
regions_with body m untracked own cs = regions_of body m (transformer_at own) (calls_of m untracked own cs)
