-- The CALLs of a list are among its statements.
use Rattle.std.proofs.Common.{◌≡◌, ℕ, zero, suc, List, [], ◌∷◌, ◌++◌, Some, refl}
use Rattle.std.specs.Prelude.{slice_get}
use Rattle.f77_ast.specs.Trees.{StmtTree, WhatTree, ArmTree, ArmTrees, ElseTree, LoopTree, StmtTrees}
use Rattle.f77_ast.specs.Trees as tree
use Rattle.call_graph.specs.CallsIn.{CallAt, Each, stmt_calls, what_calls, list_calls, arms_calls, arm_calls, else_calls, loop_calls}
use Rattle.f77_ast.specs.StatementNumbers.{stmt_numbers, part_numbers, list_numbers, arms_numbers, arm_numbers, else_numbers, loop_numbers}
use Rattle.call_graph.proofs.EachLaws.{each_more, each_joined}

abbrev pub Stands : List ℕ → CallAt → Type 0
Stands ns c = (i : ℕ) × (slice_get ns i ≡ Some c.number)

one_more : (n : ℕ) (ns : List ℕ) (c : CallAt) → Stands ns c → Stands (n ∷ ns) c
one_more n ns c h = (suc h.0, h.1)

in_front : (ms ns : List ℕ) (c : CallAt) → Stands ms c → Stands (ms ++ ns) c
in_front [] ns c (i, e) = cc
in_front (m ∷ ms) ns c (zero, e) = (zero, e)
in_front (m ∷ ms) ns c (suc i, e) = let r = in_front ms ns c (i, e) in (suc r.0, r.1)

in_back : (ms ns : List ℕ) (c : CallAt) → Stands ns c → Stands (ms ++ ns) c
in_back [] ns c h = h
in_back (m ∷ ms) ns c h = one_more m (ms ++ ns) c (in_back ms ns c h)

both : (ms ns : List ℕ) (xs ys : List CallAt) → Each (Stands ms) xs → Each (Stands ns) ys → Each (Stands (ms ++ ns)) (xs ++ ys)
both ms ns xs ys h k = each_joined (Stands (ms ++ ns)) xs ys (each_more (Stands ms) (Stands (ms ++ ns)) xs (in_front ms ns) h) (each_more (Stands ns) (Stands (ms ++ ns)) ys (in_back ms ns) k)

mutual
  pub list_stands : (t : StmtTrees) → Each (Stands (list_numbers t)) (list_calls t)
  list_stands tree.no_stmts = tt
  list_stands (tree.more_stmts s rest) = both (stmt_numbers s) (list_numbers rest) (stmt_calls s) (list_calls rest) (stmt_stands s) (list_stands rest)

  stmt_stands : (s : StmtTree) → Each (Stands (stmt_numbers s)) (stmt_calls s)
  stmt_stands (tree.stmt n label w) = what_stands w n

  what_stands : (w : WhatTree) (n : ℕ) → Each (Stands (n ∷ part_numbers w)) (what_calls w n)
  what_stands (tree.assign a b) n = tt
  what_stands (tree.block_if arms other) n =
      each_more (Stands (arms_numbers arms ++ else_numbers other)) (Stands (n ∷ (arms_numbers arms ++ else_numbers other))) (arms_calls arms ++ else_calls other) (one_more n (arms_numbers arms ++ else_numbers other))
      (both (arms_numbers arms) (else_numbers other) (arms_calls arms) (else_calls other) (arms_stand arms) (else_stands other))
  what_stands (tree.logical_if e s) n = each_more (Stands (stmt_numbers s)) (Stands (n ∷ stmt_numbers s)) (stmt_calls s) (one_more n (stmt_numbers s)) (stmt_stands s)
  what_stands (tree.do_loop l) n = each_more (Stands (loop_numbers l)) (Stands (n ∷ loop_numbers l)) (loop_calls l) (one_more n (loop_numbers l)) (loop_stands l)
  what_stands (tree.call x es) n = ((zero, refl), tt)
  what_stands (tree.goto l) n = tt
  what_stands tree.continue n = tt
  what_stands tree.return n = tt
  what_stands (tree.stop text) n = tt
  what_stands (tree.print es) n = tt
  what_stands (tree.read es) n = tt

  arms_stand : (arms : ArmTrees) → Each (Stands (arms_numbers arms)) (arms_calls arms)
  arms_stand tree.no_arms = tt
  arms_stand (tree.more_arms a rest) = both (arm_numbers a) (arms_numbers rest) (arm_calls a) (arms_calls rest) (arm_stands a) (arms_stand rest)

  arm_stands : (a : ArmTree) → Each (Stands (arm_numbers a)) (arm_calls a)
  arm_stands (tree.arm e body) = list_stands body

  else_stands : (other : ElseTree) → Each (Stands (else_numbers other)) (else_calls other)
  else_stands tree.no_else = tt
  else_stands (tree.otherwise body) = list_stands body

  loop_stands : (l : LoopTree) → Each (Stands (loop_numbers l)) (loop_calls l)
  loop_stands (tree.loop index first last step body) = list_stands body
