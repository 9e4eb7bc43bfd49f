-- CALLs of modules that link fit the modules that they name.
use Rattle.std.proofs.Common.{inl, ℕ, List, [], ◌∷◌, refl}
use Rattle.f77_ast.specs.Trees.{ExprTrees, StmtTree, StmtTrees, WhatTree, ArmTree, ArmTrees, ElseTree, LoopTree}
use Rattle.f77_ast.specs.Trees as tree
use Rattle.f77_ast.specs.Symbols.{SymbolTree}
use Rattle.call_graph.specs.declared.calls.Called.{Called}
use Rattle.call_graph.specs.Actuals.{actuals_of}
use Rattle.call_graph.specs.Calls.{with_list, with_stmt, with_what, with_arms, with_arm, with_else, with_loop}
use Rattle.laws_programs.specs.Effects.Trees.{AskedOfCall, StmtFits, WhatFits, ListFits, ArmsFit, ArmFits, ElseFits, LoopFits}
use Rattle.laws_programs.specs.Effects.Tables.{anything}
use Rattle.laws_programs.proofs.Effects.Members.{In, in_left, in_right}

module _ (ss : List SymbolTree) where
  -- ---- CALLs so far stay

  mutual
    kept_list : (body : StmtTrees) (cs : List Called) (c : Called) → In c cs → In c (with_list body ss cs)
    kept_list tree.no_stmts cs c h = h
    kept_list (tree.more_stmts s rest) cs c h = kept_list rest (with_stmt s ss cs) c (kept_stmt s cs c h)

    kept_stmt : (s : StmtTree) (cs : List Called) (c : Called) → In c cs → In c (with_stmt s ss cs)
    kept_stmt (tree.stmt n label w) cs c h = kept_what w n cs c h

    kept_what : (w : WhatTree) (n : ℕ) (cs : List Called) (c : Called) → In c cs → In c (with_what w n ss cs)
    kept_what (tree.assign a b) n cs c h = h
    kept_what (tree.block_if arms other) n cs c h = kept_else other (with_arms arms ss cs) c (kept_arms arms cs c h)
    kept_what (tree.logical_if e s) n cs c h = kept_stmt s cs c h
    kept_what (tree.do_loop l) n cs c h = kept_loop l cs c h
    kept_what (tree.call x es) n cs c h = in_left c cs (record { at = n; callee = x; actuals = actuals_of es ss } ∷ []) h
    kept_what (tree.goto l) n cs c h = h
    kept_what tree.continue n cs c h = h
    kept_what tree.return n cs c h = h
    kept_what (tree.stop text) n cs c h = h
    kept_what (tree.print es) n cs c h = h
    kept_what (tree.read es) n cs c h = h

    kept_arms : (arms : ArmTrees) (cs : List Called) (c : Called) → In c cs → In c (with_arms arms ss cs)
    kept_arms tree.no_arms cs c h = h
    kept_arms (tree.more_arms a rest) cs c h = kept_arms rest (with_arm a ss cs) c (kept_arm a cs c h)

    kept_arm : (a : ArmTree) (cs : List Called) (c : Called) → In c cs → In c (with_arm a ss cs)
    kept_arm (tree.arm test body) cs c h = kept_list body cs c h

    kept_else : (other : ElseTree) (cs : List Called) (c : Called) → In c cs → In c (with_else other ss cs)
    kept_else tree.no_else cs c h = h
    kept_else (tree.otherwise body) cs c h = kept_list body cs c h

    kept_loop : (l : LoopTree) (cs : List Called) (c : Called) → In c cs → In c (with_loop l ss cs)
    kept_loop (tree.loop index first last step body) cs c h = kept_list body cs c h

  -- ---- what is asked of each CALL

  module _ (Q : AskedOfCall) (P : Called → Type 0) (asked : (x : List ℕ) (es : ExprTrees) (n : ℕ) → P (record { at = n; callee = x; actuals = actuals_of es ss }) → Q x es) where
    mutual
      pub list_asked : (body : StmtTrees) (cs : List Called) → ListFits body ss anything → ((c : Called) → In c (with_list body ss cs) → P c) → ListFits body ss Q
      list_asked tree.no_stmts cs h all = tt
      list_asked (tree.more_stmts s rest) cs h all = (stmt_asked s cs h.0 (λ c i. all c (kept_list rest (with_stmt s ss cs) c i)), list_asked rest (with_stmt s ss cs) h.1 all)

      stmt_asked : (s : StmtTree) (cs : List Called) → StmtFits s ss anything → ((c : Called) → In c (with_stmt s ss cs) → P c) → StmtFits s ss Q
      stmt_asked (tree.stmt n label w) cs h all = (h.0, what_asked w n cs h.1 all)

      what_asked : (w : WhatTree) (n : ℕ) (cs : List Called) → WhatFits w ss anything → ((c : Called) → In c (with_what w n ss cs) → P c) → WhatFits w ss Q
      what_asked (tree.assign a b) n cs h all = h
      what_asked (tree.block_if arms other) n cs h all = (arms_asked arms cs h.0 (λ c i. all c (kept_else other (with_arms arms ss cs) c i)), else_asked other (with_arms arms ss cs) h.1 all)
      what_asked (tree.logical_if e s) n cs h all = (h.0, stmt_asked s cs h.1 all)
      what_asked (tree.do_loop l) n cs h all = loop_asked l cs h all
      what_asked (tree.call x es) n cs h all =
          let c : Called = record { at = n; callee = x; actuals = actuals_of es ss } in
          (h.0, asked x es n (all c (in_right c cs (c ∷ []) (inl refl))))
      what_asked (tree.goto l) n cs h all = tt
      what_asked tree.continue n cs h all = tt
      what_asked tree.return n cs h all = tt
      what_asked (tree.stop text) n cs h all = tt
      what_asked (tree.print es) n cs h all = h
      what_asked (tree.read es) n cs h all = h

      arms_asked : (arms : ArmTrees) (cs : List Called) → ArmsFit arms ss anything → ((c : Called) → In c (with_arms arms ss cs) → P c) → ArmsFit arms ss Q
      arms_asked tree.no_arms cs h all = tt
      arms_asked (tree.more_arms a rest) cs h all = (arm_asked a cs h.0 (λ c i. all c (kept_arms rest (with_arm a ss cs) c i)), arms_asked rest (with_arm a ss cs) h.1 all)

      arm_asked : (a : ArmTree) (cs : List Called) → ArmFits a ss anything → ((c : Called) → In c (with_arm a ss cs) → P c) → ArmFits a ss Q
      arm_asked (tree.arm test body) cs h all = (h.0, list_asked body cs h.1 all)

      else_asked : (other : ElseTree) (cs : List Called) → ElseFits other ss anything → ((c : Called) → In c (with_else other ss cs) → P c) → ElseFits other ss Q
      else_asked tree.no_else cs h all = tt
      else_asked (tree.otherwise body) cs h all = list_asked body cs h all

      loop_asked : (l : LoopTree) (cs : List Called) → LoopFits l ss anything → ((c : Called) → In c (with_loop l ss cs) → P c) → LoopFits l ss Q
      loop_asked (tree.loop index first last step body) cs h all = (h.0, h.1, h.2, h.3, list_asked body cs h.4 all)
