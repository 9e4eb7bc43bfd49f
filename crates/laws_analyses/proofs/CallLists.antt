-- What holds of each CALL of a list of statements, as a list of CALLs.
use Rattle.std.proofs.Common.{ℕ, List}
use Rattle.f77_ast.specs.Trees.{ExprTrees, StmtTree, WhatTree, ArmTree, ArmTrees, ElseTree, LoopTree, StmtTrees}
use Rattle.f77_ast.specs.Trees as tree
use Rattle.laws_programs.specs.Storage.Calls.{EachCall, CallsOf, CallsIn, ArmCalls, OneArm, ElseCalls, LoopCalls}
use Rattle.call_graph.specs.CallsIn.{CallAt, Each, stmt_calls, what_calls, list_calls, arms_calls, arm_calls, else_calls, loop_calls}
use Rattle.call_graph.proofs.EachLaws.{each_joined}

module _ (C : ℕ → List ℕ → ExprTrees → Type 0) where
  abbrev pub Holds : CallAt → Type 0
  Holds c = C c.number c.callee c.actuals

  mutual
    pub each_in : (t : StmtTrees) → EachCall C t → Each Holds (list_calls t)
    each_in tree.no_stmts h = tt
    each_in (tree.more_stmts s rest) h = each_joined Holds (stmt_calls s) (list_calls rest) (each_of s h.0) (each_in rest h.1)

    each_of : (s : StmtTree) → CallsOf C s → Each Holds (stmt_calls s)
    each_of (tree.stmt n label w) h = each_what w n h

    each_what : (w : WhatTree) (n : ℕ) → CallsIn C n w → Each Holds (what_calls w n)
    each_what (tree.assign a b) n h = tt
    each_what (tree.block_if arms other) n h = each_joined Holds (arms_calls arms) (else_calls other) (each_arms arms h.0) (each_else other h.1)
    each_what (tree.logical_if e s) n h = each_of s h
    each_what (tree.do_loop l) n h = each_loop l h
    each_what (tree.call x es) n h = (h, tt)
    each_what (tree.goto l) n h = tt
    each_what tree.continue n h = tt
    each_what tree.return n h = tt
    each_what (tree.stop text) n h = tt
    each_what (tree.print es) n h = tt
    each_what (tree.read es) n h = tt

    each_arms : (arms : ArmTrees) → ArmCalls C arms → Each Holds (arms_calls arms)
    each_arms tree.no_arms h = tt
    each_arms (tree.more_arms a rest) h = each_joined Holds (arm_calls a) (arms_calls rest) (each_arm a h.0) (each_arms rest h.1)

    each_arm : (a : ArmTree) → OneArm C a → Each Holds (arm_calls a)
    each_arm (tree.arm test body) h = each_in body h

    each_else : (other : ElseTree) → ElseCalls C other → Each Holds (else_calls other)
    each_else tree.no_else h = tt
    each_else (tree.otherwise body) h = each_in body h

    each_loop : (l : LoopTree) → LoopCalls C l → Each Holds (loop_calls l)
    each_loop (tree.loop index first last step body) h = each_in body h
