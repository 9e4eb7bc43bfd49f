-- What holds of each DO of a list, and of the statements in it.
use Rattle.std.proofs.Common.{ℕ, List, ◌++◌}
use Rattle.f77_ast.specs.Trees.{StmtTree, WhatTree, ArmTree, ArmTrees, ElseTree, LoopTree, StmtTrees}
use Rattle.f77_ast.specs.Trees as tree
use Rattle.f77_ast.specs.declared.results.At.{At}
use Rattle.preconditions.specs.transformers.Statement.{at}
use Rattle.call_graph.specs.CallsIn.{Each}
use Rattle.laws_analyses.proofs.Statements.Placing.{each_parts}
use Rattle.laws_marks.proofs.ConflictWhats.{stmt_whats, part_whats, list_whats, arms_whats, arm_whats, else_whats, loop_whats}
use Rattle.call_graph.proofs.EachLaws.{each_joined}

-- of a statement, if it is a DO
abbrev pub OfDo : (ℕ → LoopTree → Type 0) → ℕ → WhatTree → Type 0
OfDo Q n (tree.assign a b) = Unit {0}
OfDo Q n (tree.block_if arms other) = Unit {0}
OfDo Q n (tree.logical_if e s) = Unit {0}
OfDo Q n (tree.do_loop l) = Q n l
OfDo Q n (tree.call x es) = Unit {0}
OfDo Q n (tree.goto l) = Unit {0}
OfDo Q n tree.continue = Unit {0}
OfDo Q n tree.return = Unit {0}
OfDo Q n (tree.stop text) = Unit {0}
OfDo Q n (tree.print es) = Unit {0}
OfDo Q n (tree.read es) = Unit {0}

abbrev pub DoIs : (ℕ → LoopTree → Type 0) → At WhatTree → Type 0
DoIs Q a = OfDo Q a.id a.value

-- P: of each statement
module _ (P : At WhatTree → Type 0) (Q : ℕ → LoopTree → Type 0) (one : (n : ℕ) (l : LoopTree) → P (at n (tree.do_loop l)) → Each P (loop_whats l) → Q n l) where
  mutual
    stmt_dos : (s : StmtTree) → Each P (stmt_whats s) → Each (DoIs Q) (stmt_whats s)
    stmt_dos (tree.stmt n label w) h = (here n w h.0 h.1, what_dos w h.1)

    here : (n : ℕ) (w : WhatTree) → P (at n w) → Each P (part_whats w) → OfDo Q n w
    here n (tree.assign a b) p h = tt
    here n (tree.block_if arms other) p h = tt
    here n (tree.logical_if e s) p h = tt
    here n (tree.do_loop l) p h = one n l p h
    here n (tree.call x es) p h = tt
    here n (tree.goto l) p h = tt
    here n tree.continue p h = tt
    here n tree.return p h = tt
    here n (tree.stop text) p h = tt
    here n (tree.print es) p h = tt
    here n (tree.read es) p h = tt

    what_dos : (w : WhatTree) → Each P (part_whats w) → Each (DoIs Q) (part_whats w)
    what_dos (tree.assign a b) h = tt
    what_dos (tree.block_if arms other) h = (let q = each_parts P (arms_whats arms) (else_whats other) h in each_joined (DoIs Q) (arms_whats arms) (else_whats other) (arms_dos arms q.0) (else_dos other q.1))
    what_dos (tree.logical_if e s) h = stmt_dos s h
    what_dos (tree.do_loop l) h = loop_dos l h
    what_dos (tree.call x es) h = tt
    what_dos (tree.goto l) h = tt
    what_dos tree.continue h = tt
    what_dos tree.return h = tt
    what_dos (tree.stop text) h = tt
    what_dos (tree.print es) h = tt
    what_dos (tree.read es) h = tt

    loop_dos : (l : LoopTree) → Each P (loop_whats l) → Each (DoIs Q) (loop_whats l)
    loop_dos (tree.loop index first last step body) h = list_dos body h

    arms_dos : (arms : ArmTrees) → Each P (arms_whats arms) → Each (DoIs Q) (arms_whats arms)
    arms_dos tree.no_arms h = tt
    arms_dos (tree.more_arms a rest) h = (let q = each_parts P (arm_whats a) (arms_whats rest) h in each_joined (DoIs Q) (arm_whats a) (arms_whats rest) (arm_dos a q.0) (arms_dos rest q.1))

    arm_dos : (a : ArmTree) → Each P (arm_whats a) → Each (DoIs Q) (arm_whats a)
    arm_dos (tree.arm test body) h = list_dos body h

    else_dos : (other : ElseTree) → Each P (else_whats other) → Each (DoIs Q) (else_whats other)
    else_dos tree.no_else h = tt
    else_dos (tree.otherwise body) h = list_dos body h

    pub list_dos : (ss : StmtTrees) → Each P (list_whats ss) → Each (DoIs Q) (list_whats ss)
    list_dos tree.no_stmts h = tt
    list_dos (tree.more_stmts s rest) h = (let q = each_parts P (stmt_whats s) (list_whats rest) h in each_joined (DoIs Q) (stmt_whats s) (list_whats rest) (stmt_dos s q.0) (list_dos rest q.1))
