use Rattle.std.proofs.Common.{◌≡◌, subst}
use Rattle.std.specs.Prelude.{IfOk}
use Rattle.f77_ast.specs.PlainStmt.{stmt_trees}
use Rattle.f77_ast.specs.Summaries.{summary_in}
use Rattle.preconditions.specs.call_translation.Scopes.{ScopeTree}
use Rattle.preconditions.specs.transformers.Modules.{transformers_of}
use Rattle.module_phases.proofs.ScopeLaws.{scope-same}
use Rattle.module_phases.proofs.found.own_of.Goals as goal

pub returns-clause-defined : goal.returns-clause-defined
returns-clause-defined c =
    let v = c.args.view.now in
    subst (λ (s : ScopeTree). IfOk c.transformers.result (λ r. r ≡ transformers_of (stmt_trees v.«module».now.body) s (summary_in c.args.callees.now))) (scope-same v.«module».now v.symbols.now v.graph.now.untracked) c.transformers.ensures.defined
