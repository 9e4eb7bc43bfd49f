-- READ and WRITE depend on what the CALLs of a module access, and so on the modules that they name alone.
use Rattle.std.proofs.Common.{◌≡◌, ℕ, true, false, List, ◌∷◌, ◌++◌, refl, ap}
use Rattle.f77_ast.specs.Trees.{StmtTree, WhatTree, ArmTree, ArmTrees, ElseTree, LoopTree, StmtTrees}
use Rattle.f77_ast.specs.Trees as tree
use Rattle.f77_ast.specs.declared.variable.Unit.{Unit as BlockUnit}
use Rattle.f77_ast.specs.declared.results.At.{At}
use Rattle.f77_ast.specs.declared.results.Results.{Results}
use Rattle.preconditions.specs.transformer_algebra.declared.transformer.Transformer.{Transformer}
use Rattle.preconditions.specs.call_translation.Scopes.{ScopeTree}
use Rattle.preconditions.specs.transformers.Lists.{transformer_at}
use Rattle.preconditions.specs.transformers.Statement.{at}
use Rattle.in_out_regions.specs.region_sets.declared.region.Region.{Region}
use Rattle.in_out_regions.specs.region_sets.Lists.{accesses_at, list_regions}
use Rattle.in_out_regions.specs.region_sets.Sets.{unite_all}
use Rattle.in_out_regions.specs.call_equations.Sides.{changed_cells}
use Rattle.in_out_regions.specs.array_regions.declared.arms.Reached.{Reached}
use Rattle.in_out_regions.specs.array_regions.Arms.{always, into_arm, past_arm, past_arms, all_met, tests_reads, if_set}
use Rattle.in_out_regions.specs.array_regions.Loops.{Found, do_set}
use Rattle.in_out_regions.specs.array_regions.Calls.{Called, Callees, actuals_reads, summary_in_caller}
use Rattle.in_out_regions.specs.array_regions.Entry.{summary_of}
use Rattle.in_out_regions.specs.array_regions.Statement.{stmt_set, what_set, arm_sets, arm_set, else_set, body_set, at_stmt, at_parts, at_list, at_arms, at_arm, at_else, at_loop}
use Rattle.in_out_regions.specs.array_regions.Modules.{regions_of, calls_of, regions_with}
use Rattle.call_graph.specs.CallsIn.{CallAt, Each, stmt_calls, what_calls, list_calls, arms_calls, arm_calls, else_calls, loop_calls}
use Rattle.laws_analyses.proofs.Statements.Placing.{each_parts}
use Rattle.laws_database.specs.ResultCallees.{SameCallees}
use Rattle.call_graph.proofs.EachLaws.{each_more}

module _ (m : ScopeTree) (t : Found) (c d : Called) where
  abbrev Same : CallAt → Type 0
  Same a = c a.callee a.actuals ≡ d a.callee a.actuals

  mutual
    stmt_same : (s : StmtTree) → Each Same (stmt_calls s) → stmt_set s m t c ≡ stmt_set s m t d
    stmt_same (tree.stmt n label w) h = what_same w n h

    what_same : (w : WhatTree) (n : ℕ) → Each Same (what_calls w n) → what_set w m t c ≡ what_set w m t d
    what_same (tree.assign a b) n h = refl
    what_same (tree.block_if arms other) n h =
        let r = each_parts Same (arms_calls arms) (else_calls other) h in
        λ i. unite_all (tests_reads arms m always ++ (arms_same arms always r.0 i ++ else_same other (past_arms arms m always) r.1 i))
    what_same (tree.logical_if e s) n h = ap (if_set m e) (stmt_same s h)
    what_same (tree.do_loop l) n h = body_same l h
    what_same (tree.call x es) n h = h.0
    what_same (tree.goto l) n h = refl
    what_same tree.continue n h = refl
    what_same tree.return n h = refl
    what_same (tree.stop text) n h = refl
    what_same (tree.print es) n h = refl
    what_same (tree.read es) n h = refl

    arms_same : (arms : ArmTrees) (w : Reached) → Each Same (arms_calls arms) → arm_sets arms m t c w ≡ arm_sets arms m t d w
    arms_same tree.no_arms w h = refl
    arms_same (tree.more_arms a rest) w h = let r = each_parts Same (arm_calls a) (arms_calls rest) h in λ i. arm_same a (into_arm a m w) r.0 i ++ arms_same rest (past_arm a m w) r.1 i

    arm_same : (a : ArmTree) (w : Reached) → Each Same (arm_calls a) → arm_set a m t c w ≡ arm_set a m t d w
    arm_same (tree.arm e body) w h = ap (λ z. all_met w (list_regions t (accesses_at z) false body)) (at_list_same body h)

    else_same : (other : ElseTree) (w : Reached) → Each Same (else_calls other) → else_set other m t c w ≡ else_set other m t d w
    else_same tree.no_else w h = refl
    else_same (tree.otherwise body) w h = ap (λ z. all_met w (list_regions t (accesses_at z) false body)) (at_list_same body h)

    body_same : (l : LoopTree) → Each Same (loop_calls l) → body_set l m t c ≡ body_set l m t d
    body_same (tree.loop index first last step body) h = ap (λ z. do_set (tree.loop index first last step body) m t (list_regions t (accesses_at z) false body)) (at_list_same body h)

    at_stmt_same : (s : StmtTree) → Each Same (stmt_calls s) → at_stmt s m t c ≡ at_stmt s m t d
    at_stmt_same (tree.stmt n label w) h = λ i. at n (what_same w n h i) ∷ at_parts_same w n h i

    at_parts_same : (w : WhatTree) (n : ℕ) → Each Same (what_calls w n) → at_parts w m t c ≡ at_parts w m t d
    at_parts_same (tree.assign a b) n h = refl
    at_parts_same (tree.block_if arms other) n h = let r = each_parts Same (arms_calls arms) (else_calls other) h in λ i. at_arms_same arms r.0 i ++ at_else_same other r.1 i
    at_parts_same (tree.logical_if e s) n h = at_stmt_same s h
    at_parts_same (tree.do_loop l) n h = at_loop_same l h
    at_parts_same (tree.call x es) n h = refl
    at_parts_same (tree.goto l) n h = refl
    at_parts_same tree.continue n h = refl
    at_parts_same tree.return n h = refl
    at_parts_same (tree.stop text) n h = refl
    at_parts_same (tree.print es) n h = refl
    at_parts_same (tree.read es) n h = refl

    at_list_same : (b : StmtTrees) → Each Same (list_calls b) → at_list b m t c ≡ at_list b m t d
    at_list_same tree.no_stmts h = refl
    at_list_same (tree.more_stmts s rest) h = let r = each_parts Same (stmt_calls s) (list_calls rest) h in λ i. at_stmt_same s r.0 i ++ at_list_same rest r.1 i

    at_arms_same : (arms : ArmTrees) → Each Same (arms_calls arms) → at_arms arms m t c ≡ at_arms arms m t d
    at_arms_same tree.no_arms h = refl
    at_arms_same (tree.more_arms a rest) h = let r = each_parts Same (arm_calls a) (arms_calls rest) h in λ i. at_arm_same a r.0 i ++ at_arms_same rest r.1 i

    at_arm_same : (a : ArmTree) → Each Same (arm_calls a) → at_arm a m t c ≡ at_arm a m t d
    at_arm_same (tree.arm e body) h = at_list_same body h

    at_else_same : (other : ElseTree) → Each Same (else_calls other) → at_else other m t c ≡ at_else other m t d
    at_else_same tree.no_else h = refl
    at_else_same (tree.otherwise body) h = at_list_same body h

    at_loop_same : (l : LoopTree) → Each Same (loop_calls l) → at_loop l m t c ≡ at_loop l m t d
    at_loop_same (tree.loop index first last step body) h = at_list_same body h

  same_called : (body : StmtTrees) → Each Same (list_calls body) → regions_of body m t c ≡ regions_of body m t d
  same_called body h = ap (λ z. let found : Results (List Region) = record { at = z; summary = summary_of m (list_regions t (accesses_at z) true body) } in found) (at_list_same body h)

pub same_regions : (body : StmtTrees) (m : ScopeTree) (u : List BlockUnit) (own : List (At Transformer)) (cs ds : Callees) → SameCallees body cs ds → regions_with body m u own cs ≡ regions_with body m u own ds
same_regions body m u own cs ds h =
    same_called m (transformer_at own) (calls_of m u own cs) (calls_of m u own ds) body
    (each_more (λ (a : CallAt). cs a.callee ≡ ds a.callee) (λ (a : CallAt). calls_of m u own cs a.callee a.actuals ≡ calls_of m u own ds a.callee a.actuals) (list_calls body)
    (λ a e. ap (λ o. unite_all (actuals_reads a.actuals m ++ summary_in_caller m (changed_cells own) u a.callee a.actuals o)) e) h)
