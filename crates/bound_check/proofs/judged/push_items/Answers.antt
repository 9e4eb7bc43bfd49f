use Rattle.std.proofs.Common.{◌≡◌, ◌+◌, [], ◌++◌, drop, map, ap}
use Rattle.f77_ast.specs.Plain.{expr_tree, expr_trees}
use Rattle.bound_check.specs.Checked.{ChecksTree, both, items_judged, judged}
use Rattle.bound_check.specs.Views.{known_tree}
use Rattle.bound_check.proofs.Walks.{items-step, pushed}
use Rattle.bound_check.proofs.judged.push_items.Goals as goal

pub loop-e-preserved : goal.loop-e-preserved
loop-e-preserved c =
    let k = known_tree c.args.known.now in
    let rs = c.args.holds.now.rows in
    let es = c.as_slice-e-items.result.now in
    let i = c.loop-e.e-index in
    let e = c.e-item.result in
    let w = c.loop-e.written.items in
    let v = c.as_slice.result.now in
    let after = c.push_cell.new.cells.items in
    let old = c.loop-e.out in
    let new = c.push_judged.new.out in
    let one = judged k rs v (expr_tree e) in
    let rest = items_judged k rs after (expr_trees (drop (i + 1) es)) in
    let all = items_judged k rs [] (expr_trees es) in
    let step : items_judged k rs w (expr_trees (drop i es)) ≡ both one rest =
    items-step k rs es i e w v after c.named_cell.result c.loop-e-test.true c.e-item.is c.as_slice.ensures.value c.in_ok-push_cell.ensures c.named_cell.ensures in
    record {
      safe = pushed (map expr_tree old.safe) (map expr_tree new.safe) one.safe rest.safe (items_judged k rs w (expr_trees (drop i es))).safe (map expr_tree c.args.out.now.safe ++ all.safe)
          c.in_ok-push_judged.ensures.safe (ap (λ (x : ChecksTree). x.safe) step) c.loop-e.invariant.safe;
      others = pushed (map expr_tree old.others) (map expr_tree new.others) one.others rest.others (items_judged k rs w (expr_trees (drop i es))).others (map expr_tree c.args.out.now.others ++ all.others)
          c.in_ok-push_judged.ensures.others (ap (λ (x : ChecksTree). x.others) step) c.loop-e.invariant.others;
    }
