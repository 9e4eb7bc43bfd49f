use Rattle.std.proofs.Common.{◌≡◌, List, Some}
use Rattle.std.proofs.lemmas.Result.{IfOk-weaker}
use Rattle.f77_ast.specs.Plain.{expr_trees}
use Rattle.f77_ast.specs.Summaries.{summary_in as callees_in, summary_tree}
use Rattle.array_regions.specs.region_sets.declared.region.Region.{Region}
use Rattle.array_regions.specs.Known.{scope_in}
use Rattle.in_out_regions.specs.Calls.{summary_in, call_in}
use Rattle.in_out_regions.proofs.CallLaws.{with-summary}
use Rattle.in_out_regions.proofs.calls.call_in.Goals as goal

pub returns-in-Some-clause-defined : goal.returns-in-Some-clause-defined
returns-in-Some-clause-defined c =
    let k = c.args.known.now.around.now in
    let u = k.view.now.graph.now.untracked in
    let cs = callees_in k.callees.now in
    let es = expr_trees c.args.actuals.now in
    let s = summary_tree c.in-Some.callee.now in
    IfOk-weaker c.summary_in.result (λ (rs : List Region). rs ≡ summary_in (scope_in k) k.changed.now u c.args.name.now es (Some s)) (λ (rs : List Region). rs ≡ call_in (scope_in k) k.changed.now u cs c.args.name.now es)
    (λ rs e. with-summary (scope_in k) k.changed.now u cs c.args.name.now es s rs c.in-Some.ensures e) c.summary_in.ensures.defined
