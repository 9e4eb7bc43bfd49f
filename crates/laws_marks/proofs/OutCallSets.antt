-- The READ and WRITE regions of a CALL are those that its callee's are to the caller, by the number of the statement.
use Rattle.std.proofs.Common.{◌≡◌, ℕ, List, Some, ap}
use Rattle.f77_ast.specs.Trees.{ExprTrees, StmtTree, WhatTree, ArmTree, ArmTrees, ElseTree, LoopTree, StmtTrees}
use Rattle.f77_ast.specs.Trees as tree
use Rattle.f77_ast.specs.declared.results.At.{At}
use Rattle.preconditions.specs.transformers.Lists.{value_at}
use Rattle.preconditions.specs.transformers.Statement.{at}
use Rattle.in_out_regions.specs.region_sets.declared.region.Region.{Region}
use Rattle.in_out_regions.specs.region_sets.Lists.{or_none, set_at}
use Rattle.preconditions.specs.call_translation.Scopes.{ScopeTree}
use Rattle.in_out_regions.specs.array_regions.Calls.{Called}
use Rattle.in_out_regions.specs.array_regions.Loops.{Found}
use Rattle.in_out_regions.specs.array_regions.Statement.{what_set, at_stmt, at_parts, at_list, at_arms, at_arm, at_else, at_loop}
use Rattle.call_graph.specs.CallsIn.{CallAt, Each, stmt_calls, what_calls, list_calls, arms_calls, arm_calls, else_calls, loop_calls}
use Rattle.laws_analyses.specs.Statements.Laws.{HaveOwnNumbers}
use Rattle.laws_analyses.proofs.Statements.MainResults.{each_found_at}
use Rattle.laws_analyses.proofs.Statements.Placing.{each_parts}
use Rattle.call_graph.proofs.EachLaws.{each_joined}

module _ (m : ScopeTree) (t : Found) (c : Called) (P : At (List Region) → Type 0) (Q : CallAt → Type 0) (f : (n : ℕ) (x : List ℕ) (es : ExprTrees) → P (at n (c x es)) → Q (record { number = n; callee = x; actuals = es })) where
  mutual
    stmt_sets : (s : StmtTree) → Each P (at_stmt s m t c) → Each Q (stmt_calls s)
    stmt_sets (tree.stmt n label w) h = what_sets w n h

    what_sets : (w : WhatTree) (n : ℕ) → P (at n (what_set w m t c)) × Each P (at_parts w m t c) → Each Q (what_calls w n)
    what_sets (tree.assign a b) n h = tt
    what_sets (tree.block_if arms other) n h = (let q = each_parts P (at_arms arms m t c) (at_else other m t c) h.1 in each_joined Q (arms_calls arms) (else_calls other) (arms_sets arms q.0) (else_sets other q.1))
    what_sets (tree.logical_if e s) n h = stmt_sets s h.1
    what_sets (tree.do_loop l) n h = loop_sets l h.1
    what_sets (tree.call x es) n h = (f n x es h.0, tt)
    what_sets (tree.goto l) n h = tt
    what_sets tree.continue n h = tt
    what_sets tree.return n h = tt
    what_sets (tree.stop text) n h = tt
    what_sets (tree.print es) n h = tt
    what_sets (tree.read es) n h = tt

    list_sets : (ss : StmtTrees) → Each P (at_list ss m t c) → Each Q (list_calls ss)
    list_sets tree.no_stmts h = tt
    list_sets (tree.more_stmts s rest) h = (let q = each_parts P (at_stmt s m t c) (at_list rest m t c) h in each_joined Q (stmt_calls s) (list_calls rest) (stmt_sets s q.0) (list_sets rest q.1))

    arms_sets : (arms : ArmTrees) → Each P (at_arms arms m t c) → Each Q (arms_calls arms)
    arms_sets tree.no_arms h = tt
    arms_sets (tree.more_arms a rest) h = (let q = each_parts P (at_arm a m t c) (at_arms rest m t c) h in each_joined Q (arm_calls a) (arms_calls rest) (arm_sets a q.0) (arms_sets rest q.1))

    arm_sets : (a : ArmTree) → Each P (at_arm a m t c) → Each Q (arm_calls a)
    arm_sets (tree.arm e body) h = list_sets body h

    else_sets : (other : ElseTree) → Each P (at_else other m t c) → Each Q (else_calls other)
    else_sets tree.no_else h = tt
    else_sets (tree.otherwise body) h = list_sets body h

    loop_sets : (l : LoopTree) → Each P (at_loop l m t c) → Each Q (loop_calls l)
    loop_sets (tree.loop index first last step body) h = list_sets body h

-- of each CALL
pub call_sets : (m : ScopeTree) (t : Found) (c : Called) (body : StmtTrees) → HaveOwnNumbers (at_list body m t c) → Each (λ (a : CallAt). set_at (at_list body m t c) a.number ≡ c a.callee a.actuals) (list_calls body)
call_sets m t c body own =
    list_sets m t c (λ a. value_at (at_list body m t c) a.id ≡ Some a.value) (λ a. set_at (at_list body m t c) a.number ≡ c a.callee a.actuals) (λ n x es h. ap or_none h) body
    (each_found_at (λ a. value_at (at_list body m t c) a.id ≡ Some a.value) (at_list body m t c) own (λ a n e. e))
