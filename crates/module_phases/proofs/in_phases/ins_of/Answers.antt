use Rattle.std.proofs.Common.{◌≡◌, subst}
use Rattle.std.specs.Prelude.{IfOk}
use Rattle.f77_ast.specs.PlainStmt.{stmt_trees}
use Rattle.f77_ast.specs.Summaries.{summary_in}
use Rattle.preconditions.specs.call_translation.Scopes.{ScopeTree}
use Rattle.module_phases.proofs.ScopeLaws.{scope-same}
use Rattle.in_out_regions.specs.Modules.{ins_with}
use Rattle.module_phases.proofs.in_phases.ins_of.Goals as goal

pub returns-clause-defined : goal.returns-clause-defined
returns-clause-defined c =
    let f = c.args.known.now.analysis.found in
    let u = c.args.graph.now.untracked in
    subst (λ (s : ScopeTree). IfOk c.in_regions.result (λ r. r ≡ ins_with (stmt_trees f.«module».now.body) s u f.own.at c.args.known.now.regions.at (summary_in c.args.callees.now))) (scope-same f.«module».now f.symbols.now u) c.in_regions.ensures.defined
