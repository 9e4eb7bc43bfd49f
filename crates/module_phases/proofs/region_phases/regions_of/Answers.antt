use Rattle.std.proofs.Common.{◌≡◌, subst}
use Rattle.std.specs.Prelude.{IfOk}
use Rattle.f77_ast.specs.PlainStmt.{stmt_trees}
use Rattle.f77_ast.specs.Summaries.{summary_in}
use Rattle.preconditions.specs.call_translation.Scopes.{ScopeTree}
use Rattle.module_phases.proofs.ScopeLaws.{scope-same}
use Rattle.in_out_regions.specs.array_regions.Modules.{regions_with}
use Rattle.module_phases.proofs.region_phases.regions_of.Goals as goal

pub returns-clause-defined : goal.returns-clause-defined
returns-clause-defined c =
    let f = c.args.analysis.now.found in
    let u = c.args.graph.now.untracked in
    subst (λ (s : ScopeTree). IfOk c.regions.result (λ r. r ≡ regions_with (stmt_trees f.«module».now.body) s u f.own.at (summary_in c.args.callees.now))) (scope-same f.«module».now f.symbols.now u) c.regions.ensures.defined
