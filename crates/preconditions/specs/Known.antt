-- What is known around a statement.
use Rattle.transformers.specs.call_translation.Scopes.{ScopeTree, scope_tree}
use Rattle.transformers.specs.Given.{ResultsFit}
use Rattle.transformers.specs.Lists.{transformer_at}
use Rattle.preconditions.specs.declared.statement.PreconditionContext.{PreconditionContext}
use Rattle.preconditions.specs.Statement.{PreconditionList}

abbrev pub scope_in : PreconditionContext → ScopeTree
scope_in k = scope_tree k.scope.now.symbols.now k.scope.now.tracked.now

-- the transformer of the statement of each number
abbrev pub found_in : PreconditionContext → PreconditionList
found_in k = transformer_at k.own.now

abbrev pub KnownFits : PreconditionContext → Type 0
KnownFits k = ResultsFit k.own.now
