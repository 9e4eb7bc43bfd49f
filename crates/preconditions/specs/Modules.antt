-- What holds in a module where each statement begins, and where it is entered.
use Rattle.std.specs.Prelude.{true}
use Rattle.affine_systems.specs.declared.row.System.{System}
use Rattle.f77_ast.specs.Trees.{StmtTrees}
use Rattle.f77_ast.specs.declared.results.Results.{Results}
use Rattle.transformers.specs.call_translation.Scopes.{ScopeTree}
use Rattle.preconditions.specs.Statement.{PreconditionList, at_list}

abbrev pub preconditions_of : StmtTrees → ScopeTree → PreconditionList → System → Results System
preconditions_of body m t entry = record { at = at_list true body m t entry; summary = entry }
