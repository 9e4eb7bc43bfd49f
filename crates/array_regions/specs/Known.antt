-- What is known around a statement.
use Rattle.f77_ast.specs.Summaries.{summary_in}
use Rattle.transformers.specs.call_translation.Scopes.{ScopeTree, scope_tree}
use Rattle.transformers.specs.Given.{ResultsFit}
use Rattle.transformers.specs.Lists.{transformer_at}
use Rattle.array_regions.specs.declared.context.RegionContext.{RegionContext}
use Rattle.array_regions.specs.Loops.{Found}
use Rattle.array_regions.specs.Calls.{Called, CalleesFit, call_set}

abbrev pub scope_in : RegionContext → ScopeTree
scope_in k = scope_tree k.scope.now.symbols.now k.scope.now.tracked.now

abbrev pub found_in : RegionContext → Found
found_in k = transformer_at k.own.now.at

abbrev pub called_in : RegionContext → Called
called_in k = call_set (scope_in k) k.changed.now k.view.now.graph.now.untracked (summary_in k.callees.now)

pub record KnownFits (k : RegionContext) : Type 0 where
  pub own : ResultsFit k.own.now.at
  pub callees : CalleesFit (summary_in k.callees.now)
