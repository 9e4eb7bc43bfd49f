-- Each CALL with a result is among the CALLs of its name.
use Rattle.std.proofs.Common.{◌≡◌, ℕ, List, [], ◌++◌, Some, sym, subst}
use Rattle.std.specs.Prelude.{if◌then◌else◌}
use Rattle.std.proofs.lemmas.Slice.Eq.{bytes_eq-Decides}
use Rattle.affine_systems.specs.declared.row.System.{System}
use Rattle.f77_ast.specs.Trees.{StmtTree, WhatTree, ArmTree, ArmTrees, ElseTree, LoopTree, StmtTrees}
use Rattle.f77_ast.specs.Trees as tree
use Rattle.preconditions.specs.transformer_algebra.Laws.{In, here}
use Rattle.preconditions.specs.call_translation.Sites.{HoldingSite}
use Rattle.module_phases.specs.ScalarPhases.{Caller, site, stmt_sites, what_sites, list_sites, arms_sites, arm_sites, else_sites, loop_sites}
use Rattle.call_graph.specs.CallsIn.{CallAt, Each, stmt_calls, what_calls, list_calls, arms_calls, arm_calls, else_calls, loop_calls}
use Rattle.call_graph.proofs.EachLaws.{each_more, each_joined}
use Rattle.preconditions.proofs.TransformerAlgebra.Members.{in_left, in_right}

module _ (c : Caller) (x : List ℕ) where
  -- a CALL of the name, with what holds before it, is one of these
  abbrev pub Sited : List HoldingSite → CallAt → Type 0
  Sited ss k = (P : System) → k.callee ≡ x → c.holds k.number ≡ Some P → In (record { caller = c.scope; actuals = k.actuals; value = P }) ss

  both : (ss us : List HoldingSite) (xs ys : List CallAt) → Each (Sited ss) xs → Each (Sited us) ys → Each (Sited (ss ++ us)) (xs ++ ys)
  both ss us xs ys h k =
      each_joined (Sited (ss ++ us)) xs ys
      (each_more (Sited ss) (Sited (ss ++ us)) xs (λ a f P e q. in_left (record { caller = c.scope; actuals = a.actuals; value = P }) ss us (f P e q)) h)
      (each_more (Sited us) (Sited (ss ++ us)) ys (λ a f P e q. in_right (record { caller = c.scope; actuals = a.actuals; value = P }) ss us (f P e q)) k)

  mutual
    pub list_sited : (t : StmtTrees) → Each (Sited (list_sites t c x)) (list_calls t)
    list_sited tree.no_stmts = tt
    list_sited (tree.more_stmts s rest) = both (stmt_sites s c x) (list_sites rest c x) (stmt_calls s) (list_calls rest) (stmt_sited s) (list_sited rest)

    stmt_sited : (s : StmtTree) → Each (Sited (stmt_sites s c x)) (stmt_calls s)
    stmt_sited (tree.stmt n label w) = what_sited w n

    what_sited : (w : WhatTree) (n : ℕ) → Each (Sited (what_sites w n c x)) (what_calls w n)
    what_sited (tree.assign a b) n = tt
    what_sited (tree.block_if arms other) n = both (arms_sites arms c x) (else_sites other c x) (arms_calls arms) (else_calls other) (arms_sited arms) (else_sited other)
    what_sited (tree.logical_if e s) n = stmt_sited s
    what_sited (tree.do_loop l) n = loop_sited l
    what_sited (tree.call y es) n = (
      (λ P e q. subst (λ b. In (record { caller = c.scope; actuals = es; value = P }) (if b then site c.scope es (c.holds n) else [])) (sym ((bytes_eq-Decides y x).1 e))
          (subst (λ o. In (record { caller = c.scope; actuals = es; value = P }) (site c.scope es o)) (sym q) here)),
      tt,
    )
    what_sited (tree.goto l) n = tt
    what_sited tree.continue n = tt
    what_sited tree.return n = tt
    what_sited (tree.stop text) n = tt
    what_sited (tree.print es) n = tt
    what_sited (tree.read es) n = tt

    arms_sited : (arms : ArmTrees) → Each (Sited (arms_sites arms c x)) (arms_calls arms)
    arms_sited tree.no_arms = tt
    arms_sited (tree.more_arms a rest) = both (arm_sites a c x) (arms_sites rest c x) (arm_calls a) (arms_calls rest) (arm_sited a) (arms_sited rest)

    arm_sited : (a : ArmTree) → Each (Sited (arm_sites a c x)) (arm_calls a)
    arm_sited (tree.arm e body) = list_sited body

    else_sited : (other : ElseTree) → Each (Sited (else_sites other c x)) (else_calls other)
    else_sited tree.no_else = tt
    else_sited (tree.otherwise body) = list_sited body

    loop_sited : (l : LoopTree) → Each (Sited (loop_sites l c x)) (loop_calls l)
    loop_sited (tree.loop index first last step body) = list_sited body
