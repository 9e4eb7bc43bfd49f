-- Effects depend on the modules that CALLs name alone.
use Rattle.std.proofs.Common.{◌≡◌, ℕ, List, ◌∷◌, ◌++◌, refl, ap, ◌∙◌}
use Rattle.f77_ast.specs.Trees.{StmtTree, WhatTree, ArmTree, ArmTrees, ElseTree, LoopTree, StmtTrees}
use Rattle.f77_ast.specs.Trees as tree
use Rattle.f77_ast.specs.Symbols.{SymbolTree}
use Rattle.f77_ast.specs.declared.effect_set.EffectSet.{EffectSet}
use Rattle.f77_ast.specs.Effects.{unite, no_effect}
use Rattle.in_out_regions.specs.effects.Statement.{proper_of}
use Rattle.in_out_regions.specs.effects.Callee.{call_effect}
use Rattle.in_out_regions.specs.effects.List.{Callees, stmt_effect, with_parts, with_list, with_arms, with_arm, with_else, with_loop, at, at_stmt, at_parts, at_list, at_arms, at_arm, at_else, at_loop}
use Rattle.in_out_regions.specs.effects.Modules.{summary_of, cumulated_of}
use Rattle.call_graph.specs.CallsIn.{CallAt, Each, stmt_calls, what_calls, list_calls, arms_calls, arm_calls, else_calls, loop_calls}
use Rattle.laws_analyses.proofs.Statements.Placing.{each_parts}

module _ (ss : List SymbolTree) (cs ds : Callees) where
  abbrev Same : CallAt → Type 0
  Same c = cs c.callee ≡ ds c.callee

  mutual
    stmt_same : (s : StmtTree) → Each Same (stmt_calls s) → stmt_effect s cs ss ≡ stmt_effect s ds ss
    stmt_same (tree.stmt n label w) h = what_same w n (proper_of w ss) h

    what_same : (w : WhatTree) (n : ℕ) (e : EffectSet) → Each Same (what_calls w n) → with_parts w cs ss e ≡ with_parts w ds ss e
    what_same (tree.assign a b) n e h = refl
    what_same (tree.block_if arms other) n e h =
        let r = each_parts Same (arms_calls arms) (else_calls other) h in
        ap (with_else other cs ss) (arms_same arms e r.0) ∙ else_same other (with_arms arms ds ss e) r.1
    what_same (tree.logical_if test s) n e h = ap (unite e) (stmt_same s h)
    what_same (tree.do_loop l) n e h = loop_same l e h
    what_same (tree.call x es) n e h = ap (λ o. unite e (call_effect o x es ss)) h.0
    what_same (tree.goto l) n e h = refl
    what_same tree.continue n e h = refl
    what_same tree.return n e h = refl
    what_same (tree.stop text) n e h = refl
    what_same (tree.print es) n e h = refl
    what_same (tree.read es) n e h = refl

    list_same : (t : StmtTrees) (e : EffectSet) → Each Same (list_calls t) → with_list t cs ss e ≡ with_list t ds ss e
    list_same tree.no_stmts e h = refl
    list_same (tree.more_stmts s rest) e h =
        let r = each_parts Same (stmt_calls s) (list_calls rest) h in
        ap (λ z. with_list rest cs ss (unite e z)) (stmt_same s r.0) ∙ list_same rest (unite e (stmt_effect s ds ss)) r.1

    arms_same : (arms : ArmTrees) (e : EffectSet) → Each Same (arms_calls arms) → with_arms arms cs ss e ≡ with_arms arms ds ss e
    arms_same tree.no_arms e h = refl
    arms_same (tree.more_arms a rest) e h =
        let r = each_parts Same (arm_calls a) (arms_calls rest) h in
        ap (with_arms rest cs ss) (arm_same a e r.0) ∙ arms_same rest (with_arm a ds ss e) r.1

    arm_same : (a : ArmTree) (e : EffectSet) → Each Same (arm_calls a) → with_arm a cs ss e ≡ with_arm a ds ss e
    arm_same (tree.arm test body) e h = list_same body e h

    else_same : (other : ElseTree) (e : EffectSet) → Each Same (else_calls other) → with_else other cs ss e ≡ with_else other ds ss e
    else_same tree.no_else e h = refl
    else_same (tree.otherwise body) e h = list_same body e h

    loop_same : (l : LoopTree) (e : EffectSet) → Each Same (loop_calls l) → with_loop l cs ss e ≡ with_loop l ds ss e
    loop_same (tree.loop index first last step body) e h = list_same body e h

  mutual
    at_stmt_same : (s : StmtTree) → Each Same (stmt_calls s) → at_stmt s cs ss ≡ at_stmt s ds ss
    at_stmt_same (tree.stmt n label w) h = λ i. at n (what_same w n (proper_of w ss) h i) ∷ at_parts_same w n h i

    at_parts_same : (w : WhatTree) (n : ℕ) → Each Same (what_calls w n) → at_parts w cs ss ≡ at_parts w ds ss
    at_parts_same (tree.assign a b) n h = refl
    at_parts_same (tree.block_if arms other) n h = let r = each_parts Same (arms_calls arms) (else_calls other) h in λ i. at_arms_same arms r.0 i ++ at_else_same other r.1 i
    at_parts_same (tree.logical_if test s) n h = at_stmt_same s h
    at_parts_same (tree.do_loop l) n h = at_loop_same l h
    at_parts_same (tree.call x es) n h = refl
    at_parts_same (tree.goto l) n h = refl
    at_parts_same tree.continue n h = refl
    at_parts_same tree.return n h = refl
    at_parts_same (tree.stop text) n h = refl
    at_parts_same (tree.print es) n h = refl
    at_parts_same (tree.read es) n h = refl

    at_list_same : (t : StmtTrees) → Each Same (list_calls t) → at_list t cs ss ≡ at_list t ds ss
    at_list_same tree.no_stmts h = refl
    at_list_same (tree.more_stmts s rest) h = let r = each_parts Same (stmt_calls s) (list_calls rest) h in λ i. at_stmt_same s r.0 i ++ at_list_same rest r.1 i

    at_arms_same : (arms : ArmTrees) → Each Same (arms_calls arms) → at_arms arms cs ss ≡ at_arms arms ds ss
    at_arms_same tree.no_arms h = refl
    at_arms_same (tree.more_arms a rest) h = let r = each_parts Same (arm_calls a) (arms_calls rest) h in λ i. at_arm_same a r.0 i ++ at_arms_same rest r.1 i

    at_arm_same : (a : ArmTree) → Each Same (arm_calls a) → at_arm a cs ss ≡ at_arm a ds ss
    at_arm_same (tree.arm test body) h = at_list_same body h

    at_else_same : (other : ElseTree) → Each Same (else_calls other) → at_else other cs ss ≡ at_else other ds ss
    at_else_same tree.no_else h = refl
    at_else_same (tree.otherwise body) h = at_list_same body h

    at_loop_same : (l : LoopTree) → Each Same (loop_calls l) → at_loop l cs ss ≡ at_loop l ds ss
    at_loop_same (tree.loop index first last step body) h = at_list_same body h

  pub same_effects : (body : StmtTrees) → Each Same (list_calls body) → cumulated_of body cs ss ≡ cumulated_of body ds ss
  same_effects body h = λ i. record { at = at_list_same body h i; summary = summary_of (list_same body no_effect h i) ss }
