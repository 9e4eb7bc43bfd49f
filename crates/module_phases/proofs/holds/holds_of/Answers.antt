use Rattle.std.proofs.Common.{◌≡◌, subst}
use Rattle.std.specs.Prelude.{IfOk}
use Rattle.f77_ast.specs.PlainStmt.{stmt_trees}
use Rattle.preconditions.specs.call_translation.Scopes.{ScopeTree}
use Rattle.preconditions.specs.transformers.Lists.{transformer_at}
use Rattle.preconditions.specs.Modules.{preconditions_of}
use Rattle.module_phases.proofs.ScopeLaws.{scope-same}
use Rattle.module_phases.proofs.holds.holds_of.Goals as goal

pub returns-clause-defined : goal.returns-clause-defined
returns-clause-defined c =
    let v = c.args.view.now in
    subst (λ (s : ScopeTree). IfOk c.preconditions.result (λ r. r ≡ preconditions_of (stmt_trees v.«module».now.body) s (transformer_at c.args.own.now.at) c.args.entry.now)) (scope-same v.«module».now v.symbols.now v.graph.now.untracked) c.preconditions.ensures.defined
