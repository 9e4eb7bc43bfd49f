use Rattle.std.proofs.Common.{◌≡◌, List, [], ◌∷◌, ◌++◌, IfOk, append_assoc, ap, refl, subst, arith, ◌<◌, ◌+◌, drop, ◌∙◌}
use Rattle.affine_systems.specs.declared.row.System.{System}
use denote.Param.Weighed.{most, w_this}
use Rattle.f77_ast.specs.declared.stmt.Stmt.{Stmt, size-Stmt}
use Rattle.f77_ast.specs.declared.stmt.Arm.{size-Arm}
use Rattle.f77_ast.specs.declared.stmt.Loop.{out-Loop}
use Rattle.f77_ast.specs.Plain.{expr_tree}
use Rattle.f77_ast.specs.PlainStmt.{stmt_tree, stmt_trees, what_tree, arm_tree, loop_tree, maybe_tree}
use Rattle.f77_ast.proofs.PlainlyStmt.{loop_tree-out}
use Rattle.f77_ast.specs.declared.results.At.{At}
use Rattle.transformers.specs.transformer_algebra.Loops.{after_loop}
use Rattle.transformers.specs.Jumps.{is_end}
use Rattle.transformers.specs.Statement.{at}
use Rattle.transformers.specs.WhileParts.{arm_while}
use Rattle.transformers.proofs.WhileSteps.{arm_less}
use Rattle.preconditions.specs.Statement.{while_done, at_stmt, at_parts}
use Rattle.preconditions.specs.Known.{scope_in, found_in}
use Rattle.preconditions.proofs.WalkLaws.{all_pushed, same_added, arm_value, arm_end, arm_added, before_step, each_step, rest_is, loop_value, loop_added, whichever}
use Rattle.preconditions.proofs.WhileLaws.{only_ends, only_at, other_ends, other_at, goto_made, at_made}
use Rattle.preconditions.proofs.statement.+preconditions.Goals as goal

pub after-returns-clause-added : goal.after-returns-clause-added
after-returns-clause-added t c =
    let old = c.args.at.now in
    let here = at c.args.s.now.id c.args.p ∷ [] in
    let parts = at_parts (what_tree c.args.s.now.what) (scope_in c.args.known.now) (found_in c.args.known.now) c.args.p in
    let all : c.push_found.new.at ++ parts ≡ old ++ (here ++ parts) = ap (λ (xs : List (At System)). xs ++ parts) c.in_ok-push_found.ensures.added ∙ append_assoc old here parts in
    subst (λ (xs : List (At System)). IfOk c.after_what.result (λ _. c.after_what.new.at ≡ xs)) all c.after_what.ensures.added

pub at_each_the_same-loop-s-preserved : goal.at_each_the_same-loop-s-preserved
at_each_the_same-loop-s-preserved t c =
    let m = scope_in c.args.known.now in
    let k = found_in c.args.known.now in
    let p = c.args.p.now in
    let ss = c.as_slice-s-items.result.now in
    let s = c.s-item.result in
    let old = c.loop-s.at in
    let here : c.after.new.at ≡ old ++ at_stmt (stmt_tree s) m k p = c.in_ok-after.ensures.added ∙ ap (λ (x : System). old ++ at_stmt (stmt_tree s) m k x) c.in_ok-same.ensures.defined in
    record {
      added = same_added m k p old c.after.new.at ss c.loop-s.s-index s c.loop-s-test.true c.s-item.is here ∙ c.loop-s.invariant.added;
      fits = c.in_ok-after.ensures.results_fit;
    }

pub after_arms-loop-arm-preserved : goal.after_arms-loop-arm-preserved
after_arms-loop-arm-preserved t c =
    let m = scope_in c.args.known.now in
    let k = found_in c.args.known.now in
    let xs = c.as_slice-arm-items.result.now in
    let i = c.loop-arm.arm-index in
    let a = c.arm-item.result in
    let p = c.loop-arm.before in
    let tests = c.in_ok-tests.tests in
    let yes = c.in_ok-tests.ensures.yes in
    let no = c.in_ok-tests.ensures.no in
    record {
      value = arm_value m p tests.no xs i a c.loop-arm-test.true c.arm-item.is no ∙ c.loop-arm.invariant.value;
      gives = c.in_ok-tests.ensures.fits.1;
      ends = arm_end m k p tests.yes c.in_ok-end.end tests.no c.loop-arm.ends.items c.push.new.self.items xs i a c.loop-arm-test.true c.arm-item.is yes c.in_ok-end.ensures.defined no c.in_ok-push.ensures.items ∙ c.loop-arm.invariant.ends;
      ends_fit = all_pushed c.loop-arm.ends.items c.push.new.self.items c.in_ok-end.end c.in_ok-push.ensures.items c.loop-arm.invariant.ends_fit c.in_ok-end.ensures.fits;
      added = arm_added m k p tests.yes tests.no c.loop-arm.at c.after_arm_list.new.at xs i a c.loop-arm-test.true c.arm-item.is yes no c.in_ok-end.ensures.added ∙ c.loop-arm.invariant.added;
      fits = c.in_ok-end.ensures.results_fit;
    }

pub before_last-loop-place-preserved : goal.before_last-loop-place-preserved
before_last-loop-place-preserved t c =
    let m = scope_in c.args.known.now in
    let k = found_in c.args.known.now in
    let ss = c.as_slice-statements.result.now in
    let i = c.loop-place.place in
    let s = c.index-statements-place.result in
    let p = c.loop-place.holds in
    let b = c.in_ok-before.before in
    let e = c.in_ok-end.end in
    let h = c.unless_last-holds.result in
    let last : c.is_end.result ≡ is_end (stmt_trees (drop (i + 1) ss)) = c.is_end.ensures ∙ ap (λ (ys : List Stmt). is_end (stmt_trees ys)) (rest_is ss (i + 1)) in
    record {
      value = before_step m k ss i s p b e h c.is_end.result c.loop-place-test.true c.index-statements-place.is last c.in_ok-before.ensures.defined c.in_ok-end.ensures.defined c.unless_last-holds.ensures.defined ∙ c.loop-place.invariant.value;
      gives = c.unless_last-holds.ensures.fits;
      added = each_step m k ss i s p b e h c.is_end.result c.loop-place.at c.after.new.at c.loop-place-test.true c.index-statements-place.is last c.in_ok-before.ensures.defined c.in_ok-end.ensures.defined c.unless_last-holds.ensures.defined c.in_ok-end.ensures.added ∙ c.loop-place.invariant.added;
      fits = c.in_ok-end.ensures.results_fit;
    }

pub after_while-returns-clause-defined : goal.after_while-returns-clause-defined
after_while-returns-clause-defined t c =
    let m = scope_in c.args.known.now in
    let k = found_in c.args.known.now in
    let a = c.args.arm.now in
    let p = c.args.p.now in
    subst (λ (x : System). IfOk c.while_done.result (λ q. q ≡ while_done (arm_while (arm_tree a)) m p x))
    (goto_made a m k p c.in_ok-each.each c.in_ok-tests.tests.yes c.in_ok-end.end c.in_ok-each.ensures.defined c.in_ok-tests.ensures.yes c.in_ok-end.ensures.defined)
    c.while_done.ensures.defined

pub after_while-returns-clause-added : goal.after_while-returns-clause-added
after_while-returns-clause-added t c =
    whichever c.while_done.result
    (at_made c.args.id c.args.arm.now (scope_in c.args.known.now) (found_in c.args.known.now) c.args.p.now c.in_ok-each.each c.in_ok-tests.tests.yes c.args.at.now c.push_found.new.at c.last_begins.new.at
    c.in_ok-each.ensures.defined c.in_ok-tests.ensures.yes c.in_ok-push_found.ensures.added c.in_ok-end.ensures.added)

pub after_arm_list-returns-in-None-clause-defined : goal.after_arm_list-returns-in-None-clause-defined
after_arm_list-returns-in-None-clause-defined t c =
    subst (λ (x : System). IfOk c.after_list.result (λ q. q ≡ x))
    (other_ends (stmt_trees c.args.list.now) (scope_in c.args.known.now) (found_in c.args.known.now) c.args.p c.in-None.ensures.defined)
    c.after_list.ensures.defined

pub after_arm_list-returns-in-None-clause-added : goal.after_arm_list-returns-in-None-clause-added
after_arm_list-returns-in-None-clause-added t c =
    subst (λ (xs : List (At System)). IfOk c.after_list.result (λ _. c.after_list.new.at ≡ c.args.at.now ++ xs))
    (other_at (stmt_trees c.args.list.now) (scope_in c.args.known.now) (found_in c.args.known.now) c.args.p c.in-None.ensures.defined)
    c.after_list.ensures.added

pub after_arm_list-returns-in-Some-clause-defined : goal.after_arm_list-returns-in-Some-clause-defined
after_arm_list-returns-in-Some-clause-defined t c =
    subst (λ (x : System). IfOk c.after_while.result (λ q. q ≡ x))
    (only_ends c.in-Some.w c.args.list.now (scope_in c.args.known.now) (found_in c.args.known.now) c.args.p c.in-Some.ensures.within c.in-Some.ensures.defined)
    c.after_while.ensures.defined

pub after_arm_list-returns-in-Some-clause-added : goal.after_arm_list-returns-in-Some-clause-added
after_arm_list-returns-in-Some-clause-added t c =
    subst (λ (xs : List (At System)). IfOk c.after_while.result (λ _. c.after_while.new.at ≡ c.args.at.now ++ xs))
    (only_at c.in-Some.w c.args.list.now (scope_in c.args.known.now) (found_in c.args.known.now) c.args.p c.in-Some.ensures.within c.in-Some.ensures.defined)
    c.after_while.ensures.added

pub after_arm_list-after_while-requires : goal.after_arm_list-after_while-requires
after_arm_list-after_while-requires t c =
    let k : size-Arm c.in-Some.w.arm.now < most ((w_this).weight Stmt size-Stmt) c.args.list.now = arm_less c.args.list.now c.in-Some.ensures.within.0 c.in-Some.w.arm.now c.in-Some.ensures.within.1 c.in-Some.ensures.within.2.1 in
    (omega (arith, c.decreases, k), (c.requires.known, (c.requires.before, c.requires.found)))

pub after_do-returns-clause-defined : goal.after_do-returns-clause-defined
after_do-returns-clause-defined t c =
    let l = c.args.l.now in
    let o = out-Loop l in
    let p = c.args.p.now in
    let parts = c.in_ok-parts.parts in
    let once = c.in_ok-once.once in
    let end = c.in_ok-end.end in
    subst (λ (x : System). IfOk c.after_loop.result (λ q. q ≡ x))
    (loop_value (loop_tree l) (scope_in c.args.known.now) (found_in c.args.known.now) p c.in_ok-each.each end (after_loop parts once p end) o.index (expr_tree o.first) (expr_tree o.last) (maybe_tree o.step) (stmt_trees o.body) c.in_ok-body.body once parts (loop_tree-out l) c.in_ok-body.ensures.defined c.in_ok-parts.ensures.defined c.in_ok-once.ensures.defined c.in_ok-each.ensures.defined c.in_ok-end.ensures.defined refl)
    c.after_loop.ensures.defined

pub after_do-returns-clause-added : goal.after_do-returns-clause-added
after_do-returns-clause-added t c =
    let l = c.args.l.now in
    let o = out-Loop l in
    whichever c.after_loop.result
    (loop_added (loop_tree l) (scope_in c.args.known.now) (found_in c.args.known.now) c.args.p.now c.in_ok-each.each o.index (expr_tree o.first) (expr_tree o.last) (maybe_tree o.step) (stmt_trees o.body) c.in_ok-body.body c.in_ok-once.once c.in_ok-parts.parts c.args.at.now c.after_list.new.at (loop_tree-out l) c.in_ok-body.ensures.defined c.in_ok-parts.ensures.defined c.in_ok-once.ensures.defined c.in_ok-each.ensures.defined c.in_ok-end.ensures.added)
