-- The variables of what holds where statements begin and after them: tracked cells before the statement.
use Rattle.std.proofs.Common.{ℕ, Bool, false, List, [], ◌∷◌, ◌++◌, Option, Some, None}
use Rattle.std.specs.Prelude.{if◌then◌else◌}
use Rattle.affine_systems.specs.declared.row.System.{System}
use Rattle.affine_systems.proofs.Basics.{if_cases}
use Rattle.hull_projection.specs.Clean.{clean}
use Rattle.hull_projection.specs.Hull.{hull}
use Rattle.f77_ast.specs.Trees.{ExprTree, StmtTree, WhatTree, ArmTree, ArmTrees, ElseTree, LoopTree, StmtTrees}
use Rattle.f77_ast.specs.Trees as tree
use Rattle.f77_ast.specs.declared.results.At.{At}
use Rattle.affine_forms.specs.Conditions.{condition_of}
use Rattle.preconditions.specs.transformer_algebra.Transformers.{iterate, apply}
use Rattle.preconditions.specs.call_translation.Scopes.{ScopeTree}
use Rattle.preconditions.specs.transformers.Jumps.{is_end, unstructured}
use Rattle.preconditions.specs.transformers.Lists.{number_of, each_at, list_at}
use Rattle.preconditions.specs.transformers.Whiles.{WhileTree, while_in}
use Rattle.preconditions.specs.Statement.{PreconditionList, hull_from, some_holds, if_true, if_false, parts_of, each_iteration, done, throughout, while_iteration_of, while_begins, while_ends, while_found, past_arm, past_arms, after, after_what, after_each, after_arms, after_arm, at_goto, goto_of_stmt, goto_of_what, goto_of_arms, goto_of_arm, before_last, after_else, after_loop_of, at_stmt, at_parts, at_each, at_all, at_arms, at_arm, at_else, at_loop, at_list}
use Rattle.laws_lines.specs.Variables.{IsCellOf}
use Rattle.laws_lines.proofs.SystemVars.{IsNeat, clean_neat, meet_neat}
use Rattle.laws_lines.proofs.HullVars.{hull_neat}
use Rattle.laws_lines.proofs.FormVars.{infeasible_neat}
use Rattle.laws_lines.proofs.RuleVars.{IsDone, AreDone, apply_neat, without_neat, iterate_done}
use Rattle.laws_lines.proofs.LoopVars.{IsLoopOf, iteration_neat, after_neat}
use Rattle.laws_lines.proofs.StatementVars.{AllAt, all_at-append, list_done, Scope, yes_neat, no_neat, while_iteration_done, parts_of_loop}

-- each of some systems
abbrev pub AreNeat : (ℕ → Type 0) → List System → Type 0
AreNeat ok [] = Unit {0}
AreNeat ok (s ∷ ss) = IsNeat (IsCellOf ok) s × AreNeat ok ss

neat-append : (ok : ℕ → Type 0) (rs ss : List System) → AreNeat ok rs → AreNeat ok ss → AreNeat ok (rs ++ ss)
neat-append ok [] ss h k = k
neat-append ok (r ∷ rs) ss h k = (h.0, neat-append ok rs ss h.1 k)

hulls_neat : (ok : ℕ → Type 0) (s : System) (ss : List System) → IsNeat (IsCellOf ok) s → AreNeat ok ss → IsNeat (IsCellOf ok) (hull_from s ss)
hulls_neat ok s [] h k = h
hulls_neat ok s (r ∷ rs) h k = hulls_neat ok (hull s r) rs (hull_neat (IsCellOf ok) s r h k.0) k.1

pub some_neat : (ok : ℕ → Type 0) (ss : List System) → AreNeat ok ss → IsNeat (IsCellOf ok) (some_holds ss)
some_neat ok [] h = infeasible_neat (IsCellOf ok)
some_neat ok (s ∷ ss) h = hulls_neat ok s ss h.0 h.1

module _ (ok : ℕ → Type 0) (m : ScopeTree) (a : Scope ok m) (t : PreconditionList) (fit : (n : ℕ) → IsDone ok (t n)) where
  abbrev Neat : System → Type 0
  Neat s = IsNeat (IsCellOf ok) s

  each_done : (ss : StmtTrees) → AreDone ok (each_at t ss)
  each_done tree.no_stmts = tt
  each_done (tree.more_stmts s rest) = (fit (number_of s), each_done rest)

  body_done : (whole : Bool) (body : StmtTrees) → IsDone ok (list_at t whole body)
  body_done whole body = list_done ok whole body (each_at t body) (each_done body)

  true_neat : (e : ExprTree) (p : System) → Neat p → Neat (if_true m e p)
  true_neat e p h = meet_neat (IsCellOf ok) p (condition_of m.scalars e).yes h (yes_neat ok m a e)

  false_neat : (e : ExprTree) (p : System) → Neat p → Neat (if_false m e p)
  false_neat e p h = meet_neat (IsCellOf ok) p (condition_of m.scalars e).no h (no_neat ok m a e)

  parts_are : (l : LoopTree) → IsLoopOf ok (parts_of l m t)
  parts_are (tree.loop index first last step body) = parts_of_loop ok m a (tree.loop index first last step body) (list_at t false body) (body_done false body)

  each_neat : (l : LoopTree) (p : System) → Neat p → Neat (each_iteration l m t p)
  each_neat l p h = iteration_neat ok (parts_of l m t) p (parts_are l) h

  done_neat : (l : LoopTree) (p q : System) → Neat p → Neat q → Neat (done l m t p q)
  done_neat l p q h k = after_neat ok (parts_of l m t) p q (parts_are l) h k

  throughout_neat : (whole : Bool) (body : StmtTrees) (p : System) → Neat p → Neat (throughout whole body t p)
  throughout_neat whole body p h = without_neat (IsCellOf ok) (list_at t whole body).cells p h

  -- ---- DO WHILE

  begins_neat : (o : Option WhileTree) (p : System) → Neat p → Neat (while_begins o m t p)
  begins_neat None p h = h
  begins_neat (Some w) p h =
      let i = while_iteration_of w m t in
      let held = apply (iterate i) p in
      clean_neat (IsCellOf ok) held (apply_neat ok (iterate i) p (iterate_done ok i (while_iteration_done ok m a w (each_at t w.body) (each_done w.body))) h)

  ends_neat : (o : Option WhileTree) (p q r : System) → Neat p → Neat q → Neat r → Neat (while_ends o m p q r)
  ends_neat None p q r h i k = k
  ends_neat (Some w) p q r h i k = hull_neat (IsCellOf ok) (if_false m w.test p) (if_false m w.test q) (false_neat w.test p h) (false_neat w.test q i)

  found_neat : (o : Option WhileTree) (as' bs : List (At System)) → AllAt (IsNeat (IsCellOf ok)) as' → AllAt (IsNeat (IsCellOf ok)) bs → AllAt (IsNeat (IsCellOf ok)) (while_found o as' bs)
  found_neat None as' bs h k = k
  found_neat (Some w) as' bs h k = h

  past_neat : (x : ArmTree) (p : System) → Neat p → Neat (past_arm x m p)
  past_neat (tree.arm e body) p h = false_neat e p h

  past_all_neat : (xs : ArmTrees) (p : System) → Neat p → Neat (past_arms xs m p)
  past_all_neat tree.no_arms p h = h
  past_all_neat (tree.more_arms x rest) p h = past_all_neat rest (past_arm x m p) (past_neat x p h)

  -- ---- after a normal end

  mutual
    after_stmt : (s : StmtTree) (p : System) → Neat p → Neat (after s m t p)
    after_stmt (tree.stmt n label w) p h = after_form w n p h

    after_form : (w : WhatTree) (n : ℕ) (p : System) → Neat p → Neat (after_what w n m t p)
    after_form (tree.assign x e) n p h = apply_neat ok (t n) p (fit n) h
    after_form (tree.block_if arms other) n p h =
        let q = past_arms arms m p in
        some_neat ok (after_arms arms m t p ++ after_else other m t q ∷ [])
        (neat-append ok (after_arms arms m t p) (after_else other m t q ∷ []) (after_all_arms arms p h) (after_other other q (past_all_neat arms p h), tt))
    after_form (tree.logical_if e s) n p h =
        some_neat ok (after s m t (if_true m e p) ∷ if_false m e p ∷ []) (after_stmt s (if_true m e p) (true_neat e p h), (false_neat e p h, tt))
    after_form (tree.do_loop l) n p h = after_do l p h
    after_form (tree.call x es) n p h = apply_neat ok (t n) p (fit n) h
    after_form (tree.goto l) n p h = apply_neat ok (t n) p (fit n) h
    after_form tree.continue n p h = apply_neat ok (t n) p (fit n) h
    after_form tree.return n p h = apply_neat ok (t n) p (fit n) h
    after_form (tree.stop text) n p h = apply_neat ok (t n) p (fit n) h
    after_form (tree.print es) n p h = apply_neat ok (t n) p (fit n) h
    after_form (tree.read es) n p h = apply_neat ok (t n) p (fit n) h

    after_stmts : (ss : StmtTrees) (p : System) → Neat p → Neat (after_each ss m t p)
    after_stmts tree.no_stmts p h = h
    after_stmts (tree.more_stmts s rest) p h = after_stmts rest (after s m t p) (after_stmt s p h)

    after_all_arms : (xs : ArmTrees) (p : System) → Neat p → AreNeat ok (after_arms xs m t p)
    after_all_arms tree.no_arms p h = tt
    after_all_arms (tree.more_arms x rest) p h = (after_one_arm x p h, after_all_arms rest (past_arm x m p) (past_neat x p h))

    after_one_arm : (x : ArmTree) (p : System) → Neat p → Neat (after_arm x m t p)
    after_one_arm (tree.arm e body) p h =
        let q = if_true m e p in
        let k = true_neat e p h in
        let b = while_begins (while_in body) m t q in
        ends_neat (while_in body) q (at_goto body m t b) (if unstructured false body then throughout false body t q else after_each body m t q) k
        (goto_neat body b (begins_neat (while_in body) q k))
        (if_cases (IsNeat (IsCellOf ok)) (unstructured false body) (throughout false body t q) (after_each body m t q)
        (λ u. throughout_neat false body q k) (λ u. after_stmts body q k))

    goto_neat : (ss : StmtTrees) (p : System) → Neat p → Neat (at_goto ss m t p)
    goto_neat tree.no_stmts p h = h
    goto_neat (tree.more_stmts s rest) p h = goto_stmt s p h

    goto_stmt : (s : StmtTree) (p : System) → Neat p → Neat (goto_of_stmt s m t p)
    goto_stmt (tree.stmt n label w) p h = goto_what w p h

    goto_what : (w : WhatTree) (p : System) → Neat p → Neat (goto_of_what w m t p)
    goto_what (tree.assign x e) p h = h
    goto_what (tree.block_if arms other) p h = goto_arms arms p h
    goto_what (tree.logical_if e s) p h = h
    goto_what (tree.do_loop l) p h = h
    goto_what (tree.call x es) p h = h
    goto_what (tree.goto l) p h = h
    goto_what tree.continue p h = h
    goto_what tree.return p h = h
    goto_what (tree.stop text) p h = h
    goto_what (tree.print es) p h = h
    goto_what (tree.read es) p h = h

    goto_arms : (xs : ArmTrees) (p : System) → Neat p → Neat (goto_of_arms xs m t p)
    goto_arms tree.no_arms p h = h
    goto_arms (tree.more_arms x rest) p h = goto_arm x p h

    goto_arm : (x : ArmTree) (p : System) → Neat p → Neat (goto_of_arm x m t p)
    goto_arm (tree.arm e body) p h =
        let q = if_true m e p in
        let k = true_neat e p h in
        if_cases (IsNeat (IsCellOf ok)) (unstructured false body) (throughout false body t q) (before_last body m t q)
        (λ u. throughout_neat false body q k) (λ u. last_neat body q k)

    last_neat : (ss : StmtTrees) (p : System) → Neat p → Neat (before_last ss m t p)
    last_neat tree.no_stmts p h = h
    last_neat (tree.more_stmts s rest) p h =
        if_cases (IsNeat (IsCellOf ok)) (is_end rest) p (before_last rest m t (after s m t p)) (λ u. h) (λ u. last_neat rest (after s m t p) (after_stmt s p h))

    after_other : (x : ElseTree) (p : System) → Neat p → Neat (after_else x m t p)
    after_other tree.no_else p h = h
    after_other (tree.otherwise body) p h =
        if_cases (IsNeat (IsCellOf ok)) (unstructured false body) (throughout false body t p) (after_each body m t p) (λ e. throughout_neat false body p h) (λ e. after_stmts body p h)

    after_do : (l : LoopTree) (p : System) → Neat p → Neat (after_loop_of l m t p)
    after_do (tree.loop index first last step body) p h =
        let l = tree.loop index first last step body in
        let q = each_iteration l m t p in
        let k = each_neat l p h in
        done_neat l p (if unstructured false body then throughout false body t q else after_each body m t q) h
        (if_cases (IsNeat (IsCellOf ok)) (unstructured false body) (throughout false body t q) (after_each body m t q) (λ e. throughout_neat false body q k) (λ e. after_stmts body q k))

  -- ---- where each statement begins

  mutual
    at_one : (s : StmtTree) (p : System) → Neat p → AllAt (IsNeat (IsCellOf ok)) (at_stmt s m t p)
    at_one (tree.stmt n label w) p h = (h, at_inside w p h)

    at_inside : (w : WhatTree) (p : System) → Neat p → AllAt (IsNeat (IsCellOf ok)) (at_parts w m t p)
    at_inside (tree.assign x e) p h = tt
    at_inside (tree.block_if arms other) p h =
        all_at-append (IsNeat (IsCellOf ok)) (at_arms arms m t p) (at_else other m t (past_arms arms m p)) (at_all_arms arms p h) (at_other other (past_arms arms m p) (past_all_neat arms p h))
    at_inside (tree.logical_if e s) p h = at_one s (if_true m e p) (true_neat e p h)
    at_inside (tree.do_loop l) p h = at_do l p h
    at_inside (tree.call x es) p h = tt
    at_inside (tree.goto l) p h = tt
    at_inside tree.continue p h = tt
    at_inside tree.return p h = tt
    at_inside (tree.stop text) p h = tt
    at_inside (tree.print es) p h = tt
    at_inside (tree.read es) p h = tt

    at_stmts : (ss : StmtTrees) (p : System) → Neat p → AllAt (IsNeat (IsCellOf ok)) (at_each ss m t p)
    at_stmts tree.no_stmts p h = tt
    at_stmts (tree.more_stmts s rest) p h = all_at-append (IsNeat (IsCellOf ok)) (at_stmt s m t p) (at_each rest m t (after s m t p)) (at_one s p h) (at_stmts rest (after s m t p) (after_stmt s p h))

    at_same : (ss : StmtTrees) (p : System) → Neat p → AllAt (IsNeat (IsCellOf ok)) (at_all ss m t p)
    at_same tree.no_stmts p h = tt
    at_same (tree.more_stmts s rest) p h = all_at-append (IsNeat (IsCellOf ok)) (at_stmt s m t p) (at_all rest m t p) (at_one s p h) (at_same rest p h)

    at_all_arms : (xs : ArmTrees) (p : System) → Neat p → AllAt (IsNeat (IsCellOf ok)) (at_arms xs m t p)
    at_all_arms tree.no_arms p h = tt
    at_all_arms (tree.more_arms x rest) p h = all_at-append (IsNeat (IsCellOf ok)) (at_arm x m t p) (at_arms rest m t (past_arm x m p)) (at_one_arm x p h) (at_all_arms rest (past_arm x m p) (past_neat x p h))

    at_one_arm : (x : ArmTree) (p : System) → Neat p → AllAt (IsNeat (IsCellOf ok)) (at_arm x m t p)
    at_one_arm (tree.arm e body) p h =
        let q = if_true m e p in
        let k = true_neat e p h in
        let b = while_begins (while_in body) m t q in
        found_neat (while_in body) (at_all body m t b) (if unstructured false body then at_all body m t (throughout false body t q) else at_each body m t q)
        (at_same body b (begins_neat (while_in body) q k))
        (if_cases (AllAt (IsNeat (IsCellOf ok))) (unstructured false body) (at_all body m t (throughout false body t q)) (at_each body m t q)
        (λ u. at_same body (throughout false body t q) (throughout_neat false body q k)) (λ u. at_stmts body q k))

    at_other : (x : ElseTree) (p : System) → Neat p → AllAt (IsNeat (IsCellOf ok)) (at_else x m t p)
    at_other tree.no_else p h = tt
    at_other (tree.otherwise body) p h =
        if_cases (AllAt (IsNeat (IsCellOf ok))) (unstructured false body) (at_all body m t (throughout false body t p)) (at_each body m t p)
        (λ e. at_same body (throughout false body t p) (throughout_neat false body p h)) (λ e. at_stmts body p h)

    at_do : (l : LoopTree) (p : System) → Neat p → AllAt (IsNeat (IsCellOf ok)) (at_loop l m t p)
    at_do (tree.loop index first last step body) p h =
        let l = tree.loop index first last step body in
        let q = each_iteration l m t p in
        let k = each_neat l p h in
        if_cases (AllAt (IsNeat (IsCellOf ok))) (unstructured false body) (at_all body m t (throughout false body t q)) (at_each body m t q)
        (λ e. at_same body (throughout false body t q) (throughout_neat false body q k)) (λ e. at_stmts body q k)

  pub at_list_neat : (whole : Bool) (body : StmtTrees) (p : System) → IsNeat (IsCellOf ok) p → AllAt (IsNeat (IsCellOf ok)) (at_list whole body m t p)
  at_list_neat whole body p h =
      if_cases (AllAt (IsNeat (IsCellOf ok))) (unstructured whole body) (at_all body m t (throughout whole body t p)) (at_each body m t p)
      (λ e. at_same body (throughout whole body t p) (throughout_neat whole body p h)) (λ e. at_stmts body p h)
