-- The transformers of a module depend on what is known of the modules that it calls alone.
use Rattle.std.proofs.Common.{◌≡◌, ℕ, Bool, true, false, List, ◌∷◌, ◌++◌, refl, ap, ◌∙◌}
use Rattle.std.specs.Prelude.{◌&&◌}
use Rattle.affine_systems.specs.declared.row.System.{System}
use Rattle.affine_systems.specs.Calls.{meet}
use Rattle.f77_ast.specs.Trees.{StmtTree, WhatTree, ArmTree, ArmTrees, ElseTree, LoopTree, StmtTrees}
use Rattle.f77_ast.specs.Trees as tree
use Rattle.f77_ast.specs.declared.results.At.{At}
use Rattle.f77_ast.specs.declared.results.Results.{Results}
use Rattle.affine_forms.specs.Conditions.{no_rows, condition_of}
use Rattle.preconditions.specs.transformer_algebra.declared.transformer.Transformer.{Transformer}
use Rattle.preconditions.specs.call_translation.Scopes.{ScopeTree}
use Rattle.preconditions.specs.call_translation.Summary.{call_transformer}
use Rattle.preconditions.specs.transformers.Given.{Callees}
use Rattle.preconditions.specs.transformers.Jumps.{is_end}
use Rattle.preconditions.specs.transformers.Lists.{list_of}
use Rattle.preconditions.specs.transformers.Loops.{loop_parts}
use Rattle.preconditions.specs.transformers.Whiles.{while_in, while_or}
use Rattle.preconditions.specs.transformers.Statement.{parts_do, where_holds, if_does, choice, without_arm, without_arms, stmt_transformer, what_transformer, each_transformer, arm_transformers, arm_transformer, inner_transformers, inner_of_stmt, inner_of_what, inner_of_arms, inner_of_arm, else_transformer, body_transformer, list_transformer, at, at_stmt, at_parts, at_list, at_arms, at_arm, at_else, at_loop}
use Rattle.preconditions.specs.transformers.Modules.{summary_of, transformers_of}
use Rattle.call_graph.specs.CallsIn.{CallAt, Each, stmt_calls, what_calls, list_calls, arms_calls, arm_calls, else_calls, loop_calls}
use Rattle.laws_analyses.proofs.Statements.Placing.{each_parts}
use Rattle.fx_lists.proofs.Lists.{added, joined}

module _ (m : ScopeTree) (cs ds : Callees) where
  -- the same is known of what a CALL calls
  abbrev pub Same : CallAt → Type 0
  Same c = cs c.callee ≡ ds c.callee

  mutual
    stmt_same : (s : StmtTree) (last : Bool) → Each Same (stmt_calls s) → stmt_transformer s m cs last ≡ stmt_transformer s m ds last
    stmt_same (tree.stmt n label w) last h = what_same w n last h

    what_same : (w : WhatTree) (n : ℕ) (last : Bool) → Each Same (what_calls w n) → what_transformer w m cs last ≡ what_transformer w m ds last
    what_same (tree.assign a b) n last h = refl
    what_same (tree.block_if arms other) n last h =
        let r = each_parts Same (arms_calls arms) (else_calls other) h in
        ap (λ ts. choice ts (without_arms arms m no_rows) (else_transformer other m cs)) (arms_same arms no_rows r.0)
        ∙ ap (λ t. choice (arm_transformers arms m ds no_rows) (without_arms arms m no_rows) t) (else_same other r.1)
    what_same (tree.logical_if e s) n last h = ap (λ t. if_does m e t) (stmt_same s _ h)
    what_same (tree.do_loop l) n last h = ap (λ t. parts_do (loop_parts m l t)) (body_same l h)
    what_same (tree.call x es) n last h = ap (λ o. call_transformer m o es) h.0
    what_same (tree.goto l) n last h = refl
    what_same tree.continue n last h = refl
    what_same tree.return n last h = refl
    what_same (tree.stop text) n last h = refl
    what_same (tree.print es) n last h = refl
    what_same (tree.read es) n last h = refl

    each_same : (t : StmtTrees) (whole : Bool) → Each Same (list_calls t) → each_transformer t m cs whole ≡ each_transformer t m ds whole
    each_same tree.no_stmts whole h = refl
    each_same (tree.more_stmts s rest) whole h =
        let r = each_parts Same (stmt_calls s) (list_calls rest) h in
        added (stmt_transformer s m cs (whole && is_end rest)) (stmt_transformer s m ds (whole && is_end rest)) (each_transformer rest m cs whole) (each_transformer rest m ds whole)
        (stmt_same s (whole && is_end rest) r.0) (each_same rest whole r.1)

    arms_same : (arms : ArmTrees) (before : System) → Each Same (arms_calls arms) → arm_transformers arms m cs before ≡ arm_transformers arms m ds before
    arms_same tree.no_arms before h = refl
    arms_same (tree.more_arms a rest) before h =
        let r = each_parts Same (arm_calls a) (arms_calls rest) h in
        added (arm_transformer a m cs before) (arm_transformer a m ds before) (arm_transformers rest m cs (without_arm a m before)) (arm_transformers rest m ds (without_arm a m before))
        (arm_same a before r.0) (arms_same rest (without_arm a m before) r.1)

    arm_same : (a : ArmTree) (before : System) → Each Same (arm_calls a) → arm_transformer a m cs before ≡ arm_transformer a m ds before
    arm_same (tree.arm e body) before h =
        ap (λ t. where_holds (meet before (condition_of m.scalars e).yes) t)
        (ap (λ ts. while_or (while_in body) m ts (list_of false body (each_transformer body m cs false))) (inner_same body h)
        ∙ ap (λ ts. while_or (while_in body) m (inner_transformers body m ds) (list_of false body ts)) (each_same body false h))

    -- those of the labelled block IF of a DO WHILE
    inner_same : (t : StmtTrees) → Each Same (list_calls t) → inner_transformers t m cs ≡ inner_transformers t m ds
    inner_same tree.no_stmts h = refl
    inner_same (tree.more_stmts s rest) h = inner_stmt s (each_parts Same (stmt_calls s) (list_calls rest) h).0

    inner_stmt : (s : StmtTree) → Each Same (stmt_calls s) → inner_of_stmt s m cs ≡ inner_of_stmt s m ds
    inner_stmt (tree.stmt n label w) h = inner_what w n h

    inner_what : (w : WhatTree) (n : ℕ) → Each Same (what_calls w n) → inner_of_what w m cs ≡ inner_of_what w m ds
    inner_what (tree.assign a b) n h = refl
    inner_what (tree.block_if arms other) n h = inner_arms arms (each_parts Same (arms_calls arms) (else_calls other) h).0
    inner_what (tree.logical_if e s) n h = refl
    inner_what (tree.do_loop l) n h = refl
    inner_what (tree.call x es) n h = refl
    inner_what (tree.goto l) n h = refl
    inner_what tree.continue n h = refl
    inner_what tree.return n h = refl
    inner_what (tree.stop text) n h = refl
    inner_what (tree.print es) n h = refl
    inner_what (tree.read es) n h = refl

    inner_arms : (arms : ArmTrees) → Each Same (arms_calls arms) → inner_of_arms arms m cs ≡ inner_of_arms arms m ds
    inner_arms tree.no_arms h = refl
    inner_arms (tree.more_arms a rest) h = inner_arm a (each_parts Same (arm_calls a) (arms_calls rest) h).0

    inner_arm : (a : ArmTree) → Each Same (arm_calls a) → inner_of_arm a m cs ≡ inner_of_arm a m ds
    inner_arm (tree.arm e body) h = each_same body false h

    else_same : (other : ElseTree) → Each Same (else_calls other) → else_transformer other m cs ≡ else_transformer other m ds
    else_same tree.no_else h = refl
    else_same (tree.otherwise body) h = ap (λ ts. list_of false body ts) (each_same body false h)

    body_same : (l : LoopTree) → Each Same (loop_calls l) → body_transformer l m cs ≡ body_transformer l m ds
    body_same (tree.loop index first last step body) h = ap (λ ts. list_of false body ts) (each_same body false h)

  mutual
    at_stmt_same : (s : StmtTree) (last : Bool) → Each Same (stmt_calls s) → at_stmt s m cs last ≡ at_stmt s m ds last
    at_stmt_same (tree.stmt n label w) last h =
        added (at n (what_transformer w m cs last)) (at n (what_transformer w m ds last)) (at_parts w m cs) (at_parts w m ds) (ap (λ t. at n t) (what_same w n last h)) (at_parts_same w n h)

    at_parts_same : (w : WhatTree) (n : ℕ) → Each Same (what_calls w n) → at_parts w m cs ≡ at_parts w m ds
    at_parts_same (tree.assign a b) n h = refl
    at_parts_same (tree.block_if arms other) n h =
        let r = each_parts Same (arms_calls arms) (else_calls other) h in
        joined (at_arms arms m cs) (at_else other m cs) (at_arms arms m ds) (at_else other m ds) (at_arms_same arms r.0) (at_else_same other r.1)
    at_parts_same (tree.logical_if e s) n h = at_stmt_same s _ h
    at_parts_same (tree.do_loop l) n h = at_loop_same l h
    at_parts_same (tree.call x es) n h = refl
    at_parts_same (tree.goto l) n h = refl
    at_parts_same tree.continue n h = refl
    at_parts_same tree.return n h = refl
    at_parts_same (tree.stop text) n h = refl
    at_parts_same (tree.print es) n h = refl
    at_parts_same (tree.read es) n h = refl

    at_list_same : (t : StmtTrees) (whole : Bool) → Each Same (list_calls t) → at_list t m cs whole ≡ at_list t m ds whole
    at_list_same tree.no_stmts whole h = refl
    at_list_same (tree.more_stmts s rest) whole h =
        let r = each_parts Same (stmt_calls s) (list_calls rest) h in
        joined (at_stmt s m cs (whole && is_end rest)) (at_list rest m cs whole) (at_stmt s m ds (whole && is_end rest)) (at_list rest m ds whole)
        (at_stmt_same s (whole && is_end rest) r.0) (at_list_same rest whole r.1)

    at_arms_same : (arms : ArmTrees) → Each Same (arms_calls arms) → at_arms arms m cs ≡ at_arms arms m ds
    at_arms_same tree.no_arms h = refl
    at_arms_same (tree.more_arms a rest) h =
        let r = each_parts Same (arm_calls a) (arms_calls rest) h in
        joined (at_arm a m cs) (at_arms rest m cs) (at_arm a m ds) (at_arms rest m ds) (at_arm_same a r.0) (at_arms_same rest r.1)

    at_arm_same : (a : ArmTree) → Each Same (arm_calls a) → at_arm a m cs ≡ at_arm a m ds
    at_arm_same (tree.arm e body) h = at_list_same body false h

    at_else_same : (other : ElseTree) → Each Same (else_calls other) → at_else other m cs ≡ at_else other m ds
    at_else_same tree.no_else h = refl
    at_else_same (tree.otherwise body) h = at_list_same body false h

    at_loop_same : (l : LoopTree) → Each Same (loop_calls l) → at_loop l m cs ≡ at_loop l m ds
    at_loop_same (tree.loop index first last step body) h = at_list_same body false h

  abbrev made : List (At Transformer) → Transformer → Results Transformer
  made at t = record { at = at; summary = summary_of m.symbols t }

  pub same_transformers : (body : StmtTrees) → Each Same (list_calls body) → transformers_of body m cs ≡ transformers_of body m ds
  same_transformers body h =
      ap (λ a. made a (list_transformer body m cs true)) (at_list_same body true h) ∙ ap (λ ts. made (at_list body m ds true) (list_of true body ts)) (each_same body true h)
