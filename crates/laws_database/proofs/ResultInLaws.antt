-- IN regions depend on what the CALLs of a module read first, and so on the modules that they name alone.
use Rattle.std.proofs.Common.{◌≡◌, ℕ, true, false, List, ◌∷◌, ◌++◌, refl, ap}
use Rattle.f77_ast.specs.Trees.{StmtTree, WhatTree, ArmTree, ArmTrees, ElseTree, LoopTree, StmtTrees}
use Rattle.f77_ast.specs.Trees as tree
use Rattle.f77_ast.specs.declared.variable.Unit.{Unit as BlockUnit}
use Rattle.f77_ast.specs.declared.results.At.{At}
use Rattle.f77_ast.specs.declared.results.Results.{Results}
use Rattle.preconditions.specs.transformer_algebra.declared.transformer.Transformer.{Transformer}
use Rattle.preconditions.specs.call_translation.Scopes.{ScopeTree}
use Rattle.preconditions.specs.transformers.Lists.{transformer_at}
use Rattle.preconditions.specs.transformers.Statement.{at}
use Rattle.in_out_regions.specs.region_sets.declared.region.Region.{Region}
use Rattle.in_out_regions.specs.region_sets.Sets.{unite_all}
use Rattle.in_out_regions.specs.call_equations.Sides.{changed_cells}
use Rattle.in_out_regions.specs.array_regions.declared.arms.Reached.{Reached}
use Rattle.in_out_regions.specs.array_regions.Arms.{always, into_arm, past_arm, past_arms, all_met, tests_reads}
use Rattle.in_out_regions.specs.array_regions.Loops.{Found}
use Rattle.in_out_regions.specs.array_regions.Calls.{Called, Callees}
use Rattle.in_out_regions.specs.Kinds.{all_in}
use Rattle.in_out_regions.specs.Known.{KnownTree}
use Rattle.in_out_regions.specs.Calls.{summary_in, call_in}
use Rattle.in_out_regions.specs.Statement.{list_of, alone, if_in, do_of, what_in, arms_in, arm_in, else_in, at_stmt, at_parts, at_list, at_arms, at_arm, at_else, at_loop}
use Rattle.in_out_regions.specs.Modules.{summary_of, ins_of, ins_with}
use Rattle.call_graph.specs.CallsIn.{CallAt, Each, stmt_calls, what_calls, list_calls, arms_calls, arm_calls, else_calls, loop_calls}
use Rattle.laws_analyses.proofs.Statements.Placing.{each_parts}
use Rattle.laws_database.specs.ResultCallees.{SameCallees}
use Rattle.call_graph.proofs.EachLaws.{each_more}

module _ (m : ScopeTree) (t : Found) (accesses : List (At (List Region))) (c d : Called) where
  abbrev Same : CallAt → Type 0
  Same a = c a.callee a.actuals ≡ d a.callee a.actuals

  abbrev k : KnownTree
  k = record { scope = m; does = t; accesses = accesses; called = c }

  abbrev j : KnownTree
  j = record { scope = m; does = t; accesses = accesses; called = d }

  mutual
    what_same : (w : WhatTree) (n : ℕ) → Each Same (what_calls w n) → what_in n w k ≡ what_in n w j
    what_same (tree.assign a b) n h = refl
    what_same (tree.block_if arms other) n h =
        let r = each_parts Same (arms_calls arms) (else_calls other) h in
        λ i. unite_all (all_in (tests_reads arms m always) ++ (arms_same arms always r.0 i ++ else_same other (past_arms arms m always) r.1 i))
    what_same (tree.logical_if e (tree.stmt i label w)) n h = ap (λ rs. if_in m e (alone k i rs)) (what_same w i h)
    what_same (tree.do_loop l) n h = loop_same l h
    what_same (tree.call x es) n h = h.0
    what_same (tree.goto l) n h = refl
    what_same tree.continue n h = refl
    what_same tree.return n h = refl
    what_same (tree.stop text) n h = refl
    what_same (tree.print es) n h = refl
    what_same (tree.read es) n h = refl

    arms_same : (arms : ArmTrees) (w : Reached) → Each Same (arms_calls arms) → arms_in arms k w ≡ arms_in arms j w
    arms_same tree.no_arms w h = refl
    arms_same (tree.more_arms a rest) w h = let r = each_parts Same (arm_calls a) (arms_calls rest) h in λ i. arm_same a (into_arm a m w) r.0 i ++ arms_same rest (past_arm a m w) r.1 i

    arm_same : (a : ArmTree) (w : Reached) → Each Same (arm_calls a) → arm_in a k w ≡ arm_in a j w
    arm_same (tree.arm e body) w h = ap (λ z. all_met w (list_of false body k z)) (at_list_same body h)

    else_same : (other : ElseTree) (w : Reached) → Each Same (else_calls other) → else_in other k w ≡ else_in other j w
    else_same tree.no_else w h = refl
    else_same (tree.otherwise body) w h = ap (λ z. all_met w (list_of false body k z)) (at_list_same body h)

    loop_same : (l : LoopTree) → Each Same (loop_calls l) → do_of l k (at_loop l k) ≡ do_of l j (at_loop l j)
    loop_same (tree.loop index first last step body) h = ap (do_of (tree.loop index first last step body) k) (at_list_same body h)

    at_stmt_same : (s : StmtTree) → Each Same (stmt_calls s) → at_stmt s k ≡ at_stmt s j
    at_stmt_same (tree.stmt n label w) h = λ i. at n (what_same w n h i) ∷ at_parts_same w n h i

    at_parts_same : (w : WhatTree) (n : ℕ) → Each Same (what_calls w n) → at_parts w k ≡ at_parts w j
    at_parts_same (tree.assign a b) n h = refl
    at_parts_same (tree.block_if arms other) n h = let r = each_parts Same (arms_calls arms) (else_calls other) h in λ i. at_arms_same arms r.0 i ++ at_else_same other r.1 i
    at_parts_same (tree.logical_if e s) n h = at_stmt_same s h
    at_parts_same (tree.do_loop l) n h = at_loop_same l h
    at_parts_same (tree.call x es) n h = refl
    at_parts_same (tree.goto l) n h = refl
    at_parts_same tree.continue n h = refl
    at_parts_same tree.return n h = refl
    at_parts_same (tree.stop text) n h = refl
    at_parts_same (tree.print es) n h = refl
    at_parts_same (tree.read es) n h = refl

    at_list_same : (b : StmtTrees) → Each Same (list_calls b) → at_list b k ≡ at_list b j
    at_list_same tree.no_stmts h = refl
    at_list_same (tree.more_stmts s rest) h = let r = each_parts Same (stmt_calls s) (list_calls rest) h in λ i. at_stmt_same s r.0 i ++ at_list_same rest r.1 i

    at_arms_same : (arms : ArmTrees) → Each Same (arms_calls arms) → at_arms arms k ≡ at_arms arms j
    at_arms_same tree.no_arms h = refl
    at_arms_same (tree.more_arms a rest) h = let r = each_parts Same (arm_calls a) (arms_calls rest) h in λ i. at_arm_same a r.0 i ++ at_arms_same rest r.1 i

    at_arm_same : (a : ArmTree) → Each Same (arm_calls a) → at_arm a k ≡ at_arm a j
    at_arm_same (tree.arm e body) h = at_list_same body h

    at_else_same : (other : ElseTree) → Each Same (else_calls other) → at_else other k ≡ at_else other j
    at_else_same tree.no_else h = refl
    at_else_same (tree.otherwise body) h = at_list_same body h

    at_loop_same : (l : LoopTree) → Each Same (loop_calls l) → at_loop l k ≡ at_loop l j
    at_loop_same (tree.loop index first last step body) h = at_list_same body h

  same_called : (body : StmtTrees) → Each Same (list_calls body) → ins_of body k ≡ ins_of body j
  same_called body h = ap (λ z. let found : Results (List Region) = record { at = z; summary = summary_of m (list_of true body k z) } in found) (at_list_same body h)

pub same_ins : (body : StmtTrees) (m : ScopeTree) (u : List BlockUnit) (own : List (At Transformer)) (accesses : List (At (List Region))) (cs ds : Callees) → SameCallees body cs ds →
    ins_with body m u own accesses cs ≡ ins_with body m u own accesses ds
same_ins body m u own accesses cs ds h =
    same_called m (transformer_at own) accesses (call_in m (changed_cells own) u cs) (call_in m (changed_cells own) u ds) body
    (each_more (λ (a : CallAt). cs a.callee ≡ ds a.callee) (λ (a : CallAt). call_in m (changed_cells own) u cs a.callee a.actuals ≡ call_in m (changed_cells own) u ds a.callee a.actuals) (list_calls body)
    (λ a e. ap (summary_in m (changed_cells own) u a.callee a.actuals) e) h)
