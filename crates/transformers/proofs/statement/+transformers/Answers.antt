use Rattle.std.proofs.Common.{◌≡◌, false, IfOk, [], ◌∷◌, ◌++◌, append_assoc, ap, sym, subst, arith, ◌<◌, ◌∙◌}
use Rattle.affine_systems.specs.Given.{Fits}
use Rattle.f77_ast.specs.declared.stmt.Arm.{out-Arm, size-Arm}
use Rattle.f77_ast.specs.declared.stmt.Stmt.{Stmt, size-Stmt}
use Rattle.f77_ast.specs.PlainStmt.{stmt_trees, what_tree}
use denote.Param.Weighed.{most, w_this}
use Rattle.call_translation.specs.transformer_algebra.declared.transformer.Transformer.{Transformer}
use Rattle.transformers.specs.Given.{ResultsFit}
use Rattle.transformers.specs.Statement.{scope_in, callees_in, at, at_parts, at_list}
use Rattle.transformers.proofs.StatementLaws.{fits-other}
use Rattle.transformers.proofs.WhileLaws.{only_does, only_found, other_does, value_made, found_made}
use Rattle.transformers.proofs.WhileSteps.{arm_less}
use Rattle.transformers.proofs.statement.+transformers.Goals as goal
use Rattle.fx_lists.proofs.Lists.{filled}

pub stmt_transformer-returns-clause-added : goal.stmt_transformer-returns-clause-added
stmt_transformer-returns-clause-added t c =
    let xs = c.args.at.now in
    let ys = at_parts (what_tree c.args.s.now.what) (scope_in c.args.known.now) (callees_in c.args.known.now) in
    let n = c.args.s.now.id in
    let behind : c.what_transformer.new.at ≡ (xs ++ at n c.identity_transformer.result ∷ []) ++ ys = c.in_ok-whole.ensures.added ∙ ap (λ zs. zs ++ ys) c.in_ok-push_result.ensures.added in
    c.set.ensures ∙ filled xs ys c.what_transformer.new.at (at n c.identity_transformer.result) (at n c.in_ok-value.value) c.len-place.result behind c.len-place.ensures
    ∙ ap (λ v. xs ++ at n v ∷ ys) (c.in_ok-value.ensures ∙ c.in_ok-whole.ensures.defined)

pub stmt_transformer-returns-clause-results_fit : goal.stmt_transformer-returns-clause-results_fit
stmt_transformer-returns-clause-results_fit t c =
    let xs = c.args.at.now in
    let ys = at_parts (what_tree c.args.s.now.what) (scope_in c.args.known.now) (callees_in c.args.known.now) in
    let n = c.args.s.now.id in
    let behind : c.what_transformer.new.at ≡ (xs ++ at n c.identity_transformer.result ∷ []) ++ ys = c.in_ok-whole.ensures.added ∙ ap (λ zs. zs ++ ys) c.in_ok-push_result.ensures.added in
    let all = filled xs ys c.what_transformer.new.at (at n c.identity_transformer.result) (at n c.in_ok-value.value) c.len-place.result behind c.len-place.ensures in
    let moved : ResultsFit (xs ++ at n c.identity_transformer.result ∷ ys) = subst ResultsFit (behind ∙ append_assoc xs (at n c.identity_transformer.result ∷ []) ys) c.in_ok-whole.ensures.results_fit in
    let new : Fits c.in_ok-value.value.system = subst (λ (x : Transformer). Fits x.system) (sym c.in_ok-value.ensures) c.in_ok-whole.ensures.fits in
    subst ResultsFit (sym (c.set.ensures ∙ all)) (fits-other xs ys (at n c.identity_transformer.result) (at n c.in_ok-value.value) moved new)

-- ---- a DO WHILE

pub while_transformer-returns-clause-defined : goal.while_transformer-returns-clause-defined
while_transformer-returns-clause-defined t c =
    value_made c.args.arm.now (scope_in c.args.known.now) (callees_in c.args.known.now) c.as_slice-2.result.now c.in_ok-whole.whole
    (c.as_slice-2.ensures.value ∙ c.in_ok-all.ensures.defined) c.in_ok-whole.ensures.defined

pub while_transformer-returns-clause-added : goal.while_transformer-returns-clause-added
while_transformer-returns-clause-added t c =
    let m = scope_in c.args.known.now in
    let cs = callees_in c.args.known.now in
    let a = c.args.arm.now in
    let xs = c.args.at.now in
    let ys = at_list (stmt_trees (out-Arm a).body) m cs false in
    let n = c.args.id in
    let behind : c.each_transformer.new.at ≡ (xs ++ at n c.identity_transformer.result ∷ []) ++ ys = c.in_ok-all.ensures.added ∙ ap (λ zs. zs ++ ys) c.in_ok-push_result.ensures.added in
    c.set.ensures ∙ filled xs ys c.each_transformer.new.at (at n c.identity_transformer.result) (at n c.in_ok-value.value) c.len-place.result behind c.len-place.ensures
    ∙ ap (λ zs. xs ++ zs) (found_made n a m cs c.as_slice.result.now c.in_ok-value.value (c.as_slice.ensures.value ∙ c.in_ok-all.ensures.defined) c.in_ok-value.ensures.defined)

pub while_transformer-returns-clause-results_fit : goal.while_transformer-returns-clause-results_fit
while_transformer-returns-clause-results_fit t c =
    let m = scope_in c.args.known.now in
    let cs = callees_in c.args.known.now in
    let xs = c.args.at.now in
    let ys = at_list (stmt_trees (out-Arm c.args.arm.now).body) m cs false in
    let n = c.args.id in
    let behind : c.each_transformer.new.at ≡ (xs ++ at n c.identity_transformer.result ∷ []) ++ ys = c.in_ok-all.ensures.added ∙ ap (λ zs. zs ++ ys) c.in_ok-push_result.ensures.added in
    let all = filled xs ys c.each_transformer.new.at (at n c.identity_transformer.result) (at n c.in_ok-value.value) c.len-place.result behind c.len-place.ensures in
    let moved : ResultsFit (xs ++ at n c.identity_transformer.result ∷ ys) = subst ResultsFit (behind ∙ append_assoc xs (at n c.identity_transformer.result ∷ []) ys) c.in_ok-all.ensures.results_fit in
    subst ResultsFit (sym (c.set.ensures ∙ all)) (fits-other xs ys (at n c.identity_transformer.result) (at n c.in_ok-value.value) moved c.in_ok-value.ensures.fits)

pub arm_list_transformer-returns-in-None-clause-defined : goal.arm_list_transformer-returns-in-None-clause-defined
arm_list_transformer-returns-in-None-clause-defined t c =
    subst (λ (x : Transformer). IfOk c.with_list.result (λ v. v ≡ x))
    (other_does (stmt_trees c.args.list.now) (scope_in c.args.known.now) (callees_in c.args.known.now) c.in-None.ensures.defined)
    c.with_list.ensures.defined

pub arm_list_transformer-returns-in-Some-clause-defined : goal.arm_list_transformer-returns-in-Some-clause-defined
arm_list_transformer-returns-in-Some-clause-defined t c =
    subst (λ (x : Transformer). IfOk c.while_transformer.result (λ v. v ≡ x))
    (only_does c.in-Some.w c.args.list.now (scope_in c.args.known.now) (callees_in c.args.known.now) c.in-Some.ensures.within c.in-Some.ensures.defined)
    c.while_transformer.ensures.defined

pub arm_list_transformer-returns-in-Some-clause-added : goal.arm_list_transformer-returns-in-Some-clause-added
arm_list_transformer-returns-in-Some-clause-added t c =
    subst (λ xs. IfOk c.while_transformer.result (λ _. c.while_transformer.new.at ≡ c.args.at.now ++ xs))
    (only_found c.in-Some.w c.args.list.now (scope_in c.args.known.now) (callees_in c.args.known.now) c.in-Some.ensures.within c.in-Some.ensures.defined)
    c.while_transformer.ensures.added

pub arm_list_transformer-while_transformer-requires : goal.arm_list_transformer-while_transformer-requires
arm_list_transformer-while_transformer-requires t c =
    let k : size-Arm c.in-Some.w.arm.now < most ((w_this).weight Stmt size-Stmt) c.args.list.now = arm_less c.args.list.now c.in-Some.ensures.within.0 c.in-Some.w.arm.now c.in-Some.ensures.within.1 c.in-Some.ensures.within.2.1 in
    (omega (arith, c.decreases, k), (c.requires.callees, c.requires.results))
