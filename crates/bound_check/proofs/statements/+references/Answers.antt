use Rattle.std.proofs.Common.{ℕ, ◌≤◌, true, length, ap, arith, ◌∙◌}
use Rattle.affine_systems.specs.declared.row.System.{System}
use Rattle.f77_ast.specs.Plain.{expr_tree}
use Rattle.f77_ast.specs.PlainStmt.{arm_trees, stmt_tree, what_tree}
use Rattle.f77_ast.specs.Shapes.{walk_arms}
use Rattle.f77_ast.proofs.PlainlyStmt.{what_tree-do, what_tree-logical_if}
use Rattle.bound_check.specs.Checked.{the_references}
use Rattle.bound_check.specs.Views.{checks_tree, known_tree, seen_tree}
use Rattle.bound_check.proofs.Walks.{arm-step, arms-end, body-step, inner-step, list-end}
use Rattle.bound_check.proofs.statements.+references.Goals as goal

pub in_arms-loop-arm-preserved : goal.in_arms-loop-arm-preserved
in_arms-loop-arm-preserved t c =
    let k = known_tree c.args.known.now in
    let xs = c.as_slice-arm-items.result.now in
    arm-step k c.args.id c.args.holds.now.rows xs c.loop-arm.arm-index c.arm-item.result (walk_arms (the_references k) (arm_trees xs) c.args.id true)
    (seen_tree c.loop-arm.seen) (seen_tree c.in_ok-seen.seen) (seen_tree c.own_alone-test.result) (seen_tree c.in_ok-body.body) (seen_tree c.in_ok-both.both) (checks_tree c.in_ok-in_test.field-0)
    c.loop-arm-test.true c.arm-item.is (ap (λ (s : System). s.rows) c.requires.same) c.in_ok-in_test.ensures c.own_alone-test.ensures (c.in_ok-body.ensures c.args.id) c.in_ok-both.ensures c.in_ok-seen.ensures c.loop-arm.invariant

pub in_arms-returns : goal.in_arms-returns
in_arms-returns t c =
    let past : length c.as_slice-arm-items.result.now ≤ c.loop-arm.arm-index = omega arith in
    arms-end (known_tree c.args.known.now) c.as_slice-arm-items.result.now c.args.arms.now c.loop-arm.arm-index c.args.id (seen_tree c.loop-arm.seen) past c.as_slice-arm-items.ensures c.loop-arm.invariant

pub in_list-returns : goal.in_list-returns
in_list-returns t c = λ (outer : ℕ).
    let past : length c.as_slice-s-items.result.now ≤ c.loop-s.s-index = omega arith in
    list-end (known_tree c.args.known.now) c.as_slice-s-items.result.now c.args.list.now c.loop-s.s-index outer (seen_tree c.loop-s.seen) past c.as_slice-s-items.ensures (c.loop-s.invariant outer)

pub in_stmt-returns-in-Inner : goal.in_stmt-returns-in-Inner
in_stmt-returns-in-Inner t c = λ (outer : ℕ).
    let s = c.args.s.now in
    let test = c.in-Inner.test.now in
    let inner = c.in-Inner.inner.now in
    inner-step (known_tree c.args.known.now) s.id s.label (what_tree s.what) (expr_tree test) (stmt_tree inner) outer c.args.lined
    c.in_ok-holds.holds.rows (checks_tree c.in_ok-own-in-Inner.own) (seen_tree c.in_ok-parts-in-Inner.parts) (seen_tree c.in_ok-statement-in-Inner.field-0)
    (ap what_tree c.in-Inner.ensures.within.1 ∙ what_tree-logical_if test c.in-Inner.ensures.within.0 inner.id inner.label inner.what) (ap (λ (x : System). x.rows) c.in_ok-holds.ensures.defined)
    c.in_ok-own-in-Inner.ensures (c.in_ok-parts-in-Inner.ensures s.id) c.in_ok-statement-in-Inner.ensures

pub in_stmt-returns-in-Body : goal.in_stmt-returns-in-Body
in_stmt-returns-in-Body t c = λ (outer : ℕ).
    let s = c.args.s.now in
    let l = c.in-Body.l.now in
    body-step (known_tree c.args.known.now) s.id s.label (what_tree s.what) l outer c.args.lined
    c.in_ok-holds.holds.rows (checks_tree c.in_ok-own-in-Body.own) (seen_tree c.in_ok-parts-in-Body.parts) (seen_tree c.in_ok-statement-in-Body.field-0)
    (ap what_tree c.in-Body.ensures.within ∙ what_tree-do l) (ap (λ (x : System). x.rows) c.in_ok-holds.ensures.defined)
    c.in_ok-own-in-Body.ensures (c.in_ok-parts-in-Body.ensures s.id) c.in_ok-statement-in-Body.ensures
