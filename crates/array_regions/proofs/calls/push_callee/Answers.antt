use Rattle.std.proofs.lemmas.Result.{on_ok_weaker}
use Rattle.f77_ast.specs.Plain.{expr_trees}
use Rattle.array_regions.specs.Known.{scope_in}
use Rattle.array_regions.proofs.CallLaws.{callee-handed}
use Rattle.array_regions.proofs.calls.push_callee.Goals as goal

pub returns-clause-added : goal.returns-clause-added
returns-clause-added c =
    let k = c.args.known.now in
    on_ok_weaker c.push_in_caller.result
    (λ e. callee-handed (scope_in k) k.changed.now k.view.now.graph.now.untracked c.args.name.now (expr_trees c.args.actuals.now) c.args.callee.now.symbols c.in_ok-tracked.tracked c.args.out.now c.push_in_caller.new.out c.as_slice.result.now c.args.callee.now.value c.as_slice.ensures c.in_ok-tracked.ensures e)
    c.push_in_caller.ensures.added
