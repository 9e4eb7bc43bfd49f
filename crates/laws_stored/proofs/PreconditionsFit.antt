-- What holds where statements begin is a system that calls take.
use Rattle.std.proofs.Common.{ℕ, suc, Bool, true, false, List, [], ◌∷◌, ◌++◌, Option, Some, None, ℤ, refl}
use Rattle.std.specs.Prelude.{if◌then◌else◌, map}
use Rattle.affine_systems.specs.declared.row.Row.{Row}
use Rattle.affine_systems.specs.declared.row.System.{System}
use Rattle.affine_systems.specs.declared.row.Var.TheVariants.{Cell}
use Rattle.affine_systems.specs.Given.{Fits}
use Rattle.affine_systems.proofs.Basics.{if_cases}
use Rattle.hull_projection.specs.Hull.{hull}
use Rattle.hull_projection.specs.Variables.{with_rows}
use Rattle.hull_projection.proofs.CleanLaws.{clean_fits}
use Rattle.hull_projection.proofs.ProjectLaws.{project_fits}
use Rattle.preconditions.specs.transformer_algebra.Renaming.{renamed_by, rename_all, push_rows}
use Rattle.preconditions.specs.transformer_algebra.Fresh.{above_rows}
use Rattle.affine_systems.specs.Rows.{renamed_row}
use Rattle.f77_ast.specs.Trees.{ExprTree, StmtTree, WhatTree, ArmTree, ArmTrees, ElseTree, LoopTree, StmtTrees}
use Rattle.f77_ast.specs.Trees as tree
use Rattle.f77_ast.specs.declared.symbol.InitialRun.{InitialRun}
use Rattle.f77_ast.specs.Symbols.{SymbolTree}
use Rattle.f77_ast.specs.declared.results.At.{At}
use Rattle.affine_forms.specs.Scalars.{is_cell}
use Rattle.affine_forms.specs.Conditions.{condition_of}
use Rattle.preconditions.specs.transformer_algebra.declared.transformer.Transformer.{Transformer}
use Rattle.preconditions.specs.transformer_algebra.declared.loop_parts.LoopParts.{LoopParts}
use Rattle.preconditions.specs.transformer_algebra.Transformers.{apply, iterate}
use Rattle.preconditions.specs.transformer_algebra.Loops.{start, next, stays, if_stays, unguard, inside, beyond_last, index_form, iteration, before_iterations, iteration_by, at_iteration, end_by, after_loop}
use Rattle.preconditions.specs.call_translation.Scopes.{ScopeTree}
use Rattle.preconditions.specs.call_translation.Variables.{auxiliaries_in}
use Rattle.preconditions.specs.call_translation.Sites.{HoldingSite}
use Rattle.preconditions.specs.call_translation.SiteEntry.{rows_from, names_from, site_entry}
use Rattle.preconditions.specs.transformers.Jumps.{is_end, unstructured}
use Rattle.preconditions.specs.transformers.Lists.{list_at}
use Rattle.preconditions.specs.transformers.Whiles.{WhileTree, while_in}
use Rattle.preconditions.specs.Statement.{PreconditionList, hull_from, some_holds, if_true, if_false, parts_of, each_iteration, done, throughout, while_iteration_of, while_begins, while_ends, while_found, past_arm, past_arms, after, after_what, after_each, after_arms, after_arm, at_goto, goto_of_stmt, goto_of_what, goto_of_arms, goto_of_arm, before_last, after_else, after_loop_of, at_stmt, at_parts, at_each, at_all, at_arms, at_arm, at_else, at_loop, at_list}
use Rattle.preconditions.specs.Entry.{begins_with, initial_row, initial_from, entry_of}
use Rattle.base_values.specs.Naming.{Each}
use Rattle.laws_stored.proofs.Tidied.{AreAscending, ascending-append, push_fit, of_rows_fit, meet_fit, rename_fit, renamed_rows}
use Rattle.laws_stored.proofs.Hulls.{hull_fit}
use Rattle.laws_stored.proofs.RulesFit.{condition_fits, infeasible_fit, apply_fits, without_fits, within_ascending, beyond_ascending}
use Rattle.laws_stored.proofs.Lists.{each-append}

-- ---- hulls of several

hulls_from_fit : (s : System) (ss : List System) → Fits s → Each Fits ss → Fits (hull_from s ss)
hulls_from_fit s [] h k = h
hulls_from_fit s (r ∷ rs) h k = hulls_from_fit (hull s r) rs (hull_fit s r h k.0) k.1

some_fits : (ss : List System) → Each Fits ss → Fits (some_holds ss)
some_fits [] h = infeasible_fit
some_fits (s ∷ ss) h = hulls_from_fit s ss h.0 h.1

-- ---- DO

stays_fits : (l : LoopParts) (t : Transformer) (s : System) (rs : List Row) → Fits s → AreAscending rs → Fits (if_stays l t s rs)
stays_fits l t s rs h g = if_cases Fits (stays t.cells l.last) (push_rows s rs) s (λ e. push_fit s rs h g) (λ e. h)

iteration_fits : (l : LoopParts) (t : Transformer) (s : System) → Fits s → Fits (at_iteration l t s)
iteration_fits l t s h = go l.step
  where
    go : (n : Option ℤ) → Fits (iteration_by n l t s)
    go None = without_fits t.cells s h
    go (Some n) =
        let held = apply (iterate t) (before_iterations l s) in
        clean_fits (if_stays l t held (inside l (Cell l.index))) (stays_fits l t held (inside l (Cell l.index)) (apply_fits (iterate t) (before_iterations l s)) (within_ascending l.step (index_form l (Cell l.index)) l.last))

loop_end_fits : (l : LoopParts) (t : Transformer) (s q : System) → Fits s → Fits (after_loop l t s q)
loop_end_fits l t s q h = go l.step
  where
    go : (n : Option ℤ) → Fits (end_by n l t s q)
    go None = without_fits t.cells s h
    go (Some n) =
        let none = apply (start l) (push_rows s (unguard l)) in
        let last = apply (next l) q in
        hull_fit none (if_stays l t last (beyond_last l (Cell l.index))) (apply_fits (start l) (push_rows s (unguard l)))
        (stays_fits l t last (beyond_last l (Cell l.index)) (apply_fits (next l) q) (beyond_ascending l.step (index_form l (Cell l.index)) l.last))

-- ---- statements

module _ (m : ScopeTree) (t : PreconditionList) where
  true_fits : (e : ExprTree) (p : System) → Fits p → Fits (if_true m e p)
  true_fits e p h = meet_fit p (condition_of m.scalars e).yes h (condition_fits m.scalars e).0

  false_fits : (e : ExprTree) (p : System) → Fits p → Fits (if_false m e p)
  false_fits e p h = meet_fit p (condition_of m.scalars e).no h (condition_fits m.scalars e).1

  each_fits : (l : LoopTree) (p : System) → Fits p → Fits (each_iteration l m t p)
  each_fits l p h = iteration_fits (parts_of l m t) (iteration (parts_of l m t)) p h

  done_fits : (l : LoopTree) (p q : System) → Fits p → Fits (done l m t p q)
  done_fits l p q h = loop_end_fits (parts_of l m t) (iteration (parts_of l m t)) p q h

  throughout_fits : (whole : Bool) (body : StmtTrees) (p : System) → Fits p → Fits (throughout whole body t p)
  throughout_fits whole body p h = without_fits (list_at t whole body).cells p h

  -- ---- DO WHILE

  begins_fits : (o : Option WhileTree) (p : System) → Fits p → Fits (while_begins o m t p)
  begins_fits None p h = h
  begins_fits (Some w) p h = let i = iterate (while_iteration_of w m t) in clean_fits (apply i p) (apply_fits i p)

  ends_fits : (o : Option WhileTree) (p q r : System) → Fits p → Fits q → Fits r → Fits (while_ends o m p q r)
  ends_fits None p q r h i k = k
  ends_fits (Some w) p q r h i k = hull_fit (if_false m w.test p) (if_false m w.test q) (false_fits w.test p h) (false_fits w.test q i)

  found_fits : (o : Option WhileTree) (as' bs : List (At System)) → Each (λ (a : At System). Fits a.value) as' → Each (λ (a : At System). Fits a.value) bs
      → Each (λ (a : At System). Fits a.value) (while_found o as' bs)
  found_fits None as' bs h k = k
  found_fits (Some w) as' bs h k = h

  past_fits : (x : ArmTree) (p : System) → Fits p → Fits (past_arm x m p)
  past_fits (tree.arm e body) p h = false_fits e p h

  past_all_fit : (xs : ArmTrees) (p : System) → Fits p → Fits (past_arms xs m p)
  past_all_fit tree.no_arms p h = h
  past_all_fit (tree.more_arms x rest) p h = past_all_fit rest (past_arm x m p) (past_fits x p h)

  -- ---- after a normal end

  mutual
    after_stmt : (s : StmtTree) (p : System) → Fits p → Fits (after s m t p)
    after_stmt (tree.stmt n label w) p h = after_form w n p h

    after_form : (w : WhatTree) (n : ℕ) (p : System) → Fits p → Fits (after_what w n m t p)
    after_form (tree.assign x e) n p h = apply_fits (t n) p
    after_form (tree.block_if arms other) n p h =
        let q = past_arms arms m p in
        some_fits (after_arms arms m t p ++ after_else other m t q ∷ [])
        (each-append Fits (after_arms arms m t p) (after_else other m t q ∷ []) (after_all_arms arms p h) (after_other other q (past_all_fit arms p h), tt))
    after_form (tree.logical_if e s) n p h =
        some_fits (after s m t (if_true m e p) ∷ if_false m e p ∷ []) (after_stmt s (if_true m e p) (true_fits e p h), (false_fits e p h, tt))
    after_form (tree.do_loop l) n p h = after_do l p h
    after_form (tree.call x es) n p h = apply_fits (t n) p
    after_form (tree.goto l) n p h = apply_fits (t n) p
    after_form tree.continue n p h = apply_fits (t n) p
    after_form tree.return n p h = apply_fits (t n) p
    after_form (tree.stop text) n p h = apply_fits (t n) p
    after_form (tree.print es) n p h = apply_fits (t n) p
    after_form (tree.read es) n p h = apply_fits (t n) p

    after_stmts : (ss : StmtTrees) (p : System) → Fits p → Fits (after_each ss m t p)
    after_stmts tree.no_stmts p h = h
    after_stmts (tree.more_stmts s rest) p h = after_stmts rest (after s m t p) (after_stmt s p h)

    after_all_arms : (xs : ArmTrees) (p : System) → Fits p → Each Fits (after_arms xs m t p)
    after_all_arms tree.no_arms p h = tt
    after_all_arms (tree.more_arms x rest) p h = (after_one_arm x p h, after_all_arms rest (past_arm x m p) (past_fits x p h))

    after_one_arm : (x : ArmTree) (p : System) → Fits p → Fits (after_arm x m t p)
    after_one_arm (tree.arm e body) p h =
        let q = if_true m e p in
        let k = true_fits e p h in
        let b = while_begins (while_in body) m t q in
        ends_fits (while_in body) q (at_goto body m t b) (if unstructured false body then throughout false body t q else after_each body m t q) k
        (goto_fits body b (begins_fits (while_in body) q k))
        (if_cases Fits (unstructured false body) (throughout false body t q) (after_each body m t q) (λ u. throughout_fits false body q k) (λ u. after_stmts body q k))

    goto_fits : (ss : StmtTrees) (p : System) → Fits p → Fits (at_goto ss m t p)
    goto_fits tree.no_stmts p h = h
    goto_fits (tree.more_stmts s rest) p h = goto_stmt s p h

    goto_stmt : (s : StmtTree) (p : System) → Fits p → Fits (goto_of_stmt s m t p)
    goto_stmt (tree.stmt n label w) p h = goto_what w p h

    goto_what : (w : WhatTree) (p : System) → Fits p → Fits (goto_of_what w m t p)
    goto_what (tree.assign x e) p h = h
    goto_what (tree.block_if arms other) p h = goto_arms arms p h
    goto_what (tree.logical_if e s) p h = h
    goto_what (tree.do_loop l) p h = h
    goto_what (tree.call x es) p h = h
    goto_what (tree.goto l) p h = h
    goto_what tree.continue p h = h
    goto_what tree.return p h = h
    goto_what (tree.stop text) p h = h
    goto_what (tree.print es) p h = h
    goto_what (tree.read es) p h = h

    goto_arms : (xs : ArmTrees) (p : System) → Fits p → Fits (goto_of_arms xs m t p)
    goto_arms tree.no_arms p h = h
    goto_arms (tree.more_arms x rest) p h = goto_arm x p h

    goto_arm : (x : ArmTree) (p : System) → Fits p → Fits (goto_of_arm x m t p)
    goto_arm (tree.arm e body) p h =
        let q = if_true m e p in
        let k = true_fits e p h in
        if_cases Fits (unstructured false body) (throughout false body t q) (before_last body m t q) (λ u. throughout_fits false body q k) (λ u. last_fits body q k)

    last_fits : (ss : StmtTrees) (p : System) → Fits p → Fits (before_last ss m t p)
    last_fits tree.no_stmts p h = h
    last_fits (tree.more_stmts s rest) p h = if_cases Fits (is_end rest) p (before_last rest m t (after s m t p)) (λ u. h) (λ u. last_fits rest (after s m t p) (after_stmt s p h))

    after_other : (x : ElseTree) (p : System) → Fits p → Fits (after_else x m t p)
    after_other tree.no_else p h = h
    after_other (tree.otherwise body) p h =
        if_cases Fits (unstructured false body) (throughout false body t p) (after_each body m t p) (λ e. throughout_fits false body p h) (λ e. after_stmts body p h)

    after_do : (l : LoopTree) (p : System) → Fits p → Fits (after_loop_of l m t p)
    after_do (tree.loop index first last step body) p h =
        let l = tree.loop index first last step body in
        let q = each_iteration l m t p in
        done_fits l p (if unstructured false body then throughout false body t q else after_each body m t q) h

  -- ---- where each statement begins

  abbrev F : At System → Type 0
  F a = Fits a.value

  mutual
    at_one : (s : StmtTree) (p : System) → Fits p → Each F (at_stmt s m t p)
    at_one (tree.stmt n label w) p h = (h, at_inside w p h)

    at_inside : (w : WhatTree) (p : System) → Fits p → Each F (at_parts w m t p)
    at_inside (tree.assign x e) p h = tt
    at_inside (tree.block_if arms other) p h =
        each-append F (at_arms arms m t p) (at_else other m t (past_arms arms m p)) (at_all_arms arms p h) (at_other other (past_arms arms m p) (past_all_fit arms p h))
    at_inside (tree.logical_if e s) p h = at_one s (if_true m e p) (true_fits e p h)
    at_inside (tree.do_loop l) p h = at_do l p h
    at_inside (tree.call x es) p h = tt
    at_inside (tree.goto l) p h = tt
    at_inside tree.continue p h = tt
    at_inside tree.return p h = tt
    at_inside (tree.stop text) p h = tt
    at_inside (tree.print es) p h = tt
    at_inside (tree.read es) p h = tt

    at_stmts : (ss : StmtTrees) (p : System) → Fits p → Each F (at_each ss m t p)
    at_stmts tree.no_stmts p h = tt
    at_stmts (tree.more_stmts s rest) p h = each-append F (at_stmt s m t p) (at_each rest m t (after s m t p)) (at_one s p h) (at_stmts rest (after s m t p) (after_stmt s p h))

    at_same : (ss : StmtTrees) (p : System) → Fits p → Each F (at_all ss m t p)
    at_same tree.no_stmts p h = tt
    at_same (tree.more_stmts s rest) p h = each-append F (at_stmt s m t p) (at_all rest m t p) (at_one s p h) (at_same rest p h)

    at_all_arms : (xs : ArmTrees) (p : System) → Fits p → Each F (at_arms xs m t p)
    at_all_arms tree.no_arms p h = tt
    at_all_arms (tree.more_arms x rest) p h = each-append F (at_arm x m t p) (at_arms rest m t (past_arm x m p)) (at_one_arm x p h) (at_all_arms rest (past_arm x m p) (past_fits x p h))

    at_one_arm : (x : ArmTree) (p : System) → Fits p → Each F (at_arm x m t p)
    at_one_arm (tree.arm e body) p h =
        let q = if_true m e p in
        let k = true_fits e p h in
        let b = while_begins (while_in body) m t q in
        found_fits (while_in body) (at_all body m t b) (if unstructured false body then at_all body m t (throughout false body t q) else at_each body m t q)
        (at_same body b (begins_fits (while_in body) q k))
        (if_cases (Each F) (unstructured false body) (at_all body m t (throughout false body t q)) (at_each body m t q)
        (λ u. at_same body (throughout false body t q) (throughout_fits false body q k)) (λ u. at_stmts body q k))

    at_other : (x : ElseTree) (p : System) → Fits p → Each F (at_else x m t p)
    at_other tree.no_else p h = tt
    at_other (tree.otherwise body) p h =
        if_cases (Each F) (unstructured false body) (at_all body m t (throughout false body t p)) (at_each body m t p)
        (λ e. at_same body (throughout false body t p) (throughout_fits false body p h)) (λ e. at_stmts body p h)

    at_do : (l : LoopTree) (p : System) → Fits p → Each F (at_loop l m t p)
    at_do (tree.loop index first last step body) p h =
        let l = tree.loop index first last step body in
        let q = each_iteration l m t p in
        let k = each_fits l p h in
        if_cases (Each F) (unstructured false body) (at_all body m t (throughout false body t q)) (at_each body m t q)
        (λ e. at_same body (throughout false body t q) (throughout_fits false body q k)) (λ e. at_stmts body q k)

  pub at_list_fits : (whole : Bool) (body : StmtTrees) (p : System) → Fits p → Each F (at_list whole body m t p)
  at_list_fits whole body p h =
      if_cases (Each F) (unstructured whole body) (at_all body m t (throughout whole body t p)) (at_each body m t p)
      (λ e. at_same body (throughout whole body t p) (throughout_fits whole body p h)) (λ e. at_stmts body p h)

-- ---- entries

site_fits : (m : ScopeTree) (c : HoldingSite) → Fits (site_entry m c)
site_fits m c =
    let rs = rows_from c 1 m.symbols in
    let ns = names_from m c (above_rows 0 c.value.rows) (with_rows (with_rows [] c.value.rows) rs) in
    let named = map (renamed_row (renamed_by ns)) rs in
    project_fits (push_rows (rename_all ns c.value) named) (auxiliaries_in ns) (push_fit (rename_all ns c.value) named (rename_fit ns c.value) (renamed_rows (renamed_by ns) rs))

sites_fit : (m : ScopeTree) (cs : List HoldingSite) → Each Fits (map (site_entry m) cs)
sites_fit m [] = tt
sites_fit m (c ∷ cs) = (site_fits m c, sites_fit m cs)

begins_ascending : (n : ℕ) (rs : List InitialRun) → AreAscending (begins_with n rs)
begins_ascending n [] = tt
begins_ascending n (r ∷ rs) = ((refl, tt, tt), tt)

initial_ascending : (flags : List Bool) (n : ℕ) (ss : List SymbolTree) → AreAscending (initial_from flags n ss)
initial_ascending flags n [] = tt
initial_ascending flags n (s ∷ ss) =
    ascending-append (initial_row n (is_cell flags n) s) (initial_from flags (suc n) ss)
    (if_cases AreAscending (is_cell flags n) (begins_with n s.initial) [] (λ e. begins_ascending n s.initial) (λ e. tt)) (initial_ascending flags (suc n) ss)

pub entry_fits : (main : Bool) (m : ScopeTree) (cs : List HoldingSite) → Fits (entry_of main m cs)
entry_fits true m cs = of_rows_fit (initial_from m.tracked 1 m.symbols) (initial_ascending m.tracked 1 m.symbols)
entry_fits false m cs = some_fits (map (site_entry m) cs) (sites_fit m cs)
