use Rattle.std.proofs.lemmas.Result.{on_ok_weaker}
use Rattle.f77_ast.specs.Plain.{expr_trees}
use Rattle.f77_ast.specs.Summaries.{summary_in, summary_tree}
use Rattle.array_regions.specs.Known.{scope_in}
use Rattle.array_regions.proofs.CallLaws.{with-summary}
use Rattle.array_regions.proofs.calls.push_summary.Goals as goal

pub returns-in-Some-clause-added : goal.returns-in-Some-clause-added
returns-in-Some-clause-added c =
    let k = c.args.known.now in
    on_ok_weaker c.push_callee.result
    (λ e. with-summary (scope_in k) k.changed.now k.view.now.graph.now.untracked c.args.name.now (expr_trees c.args.actuals.now) (summary_in k.callees.now c.args.name.now) c.args.out.now (summary_tree c.in-Some.callee.now) c.push_callee.new.out c.in-Some.ensures e)
    c.push_callee.ensures.added
