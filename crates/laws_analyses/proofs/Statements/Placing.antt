-- Results that are found by the numbers of statements are the defined ones, statement by statement.
use Rattle.std.proofs.Common.{◌≡◌, ℕ, suc, ◌<◌, List, [], ◌∷◌, ◌++◌, ◌||◌, ◌&&◌, Option, Some, None, Bool, true, false, ap, ◌∙◌, subst}
use Rattle.std.specs.Prelude.{if◌then◌else◌}
use Rattle.std.proofs.lemmas.Bool.{or_parts, not-false}
use Rattle.affine_systems.specs.declared.row.System.{System}
use Rattle.f77_ast.specs.Trees.{ExprTree, ExprTrees, StmtTree, WhatTree, ArmTree, ArmTrees, ElseTree, LoopTree, StmtTrees}
use Rattle.f77_ast.specs.Trees as tree
use Rattle.f77_ast.specs.declared.results.At.{At}
use Rattle.preconditions.specs.transformer_algebra.declared.transformer.Transformer.{Transformer}
use Rattle.preconditions.specs.call_translation.Scopes.{ScopeTree}
use Rattle.preconditions.specs.transformers.Given.{Callees}
use Rattle.preconditions.specs.transformers.Jumps.{stmt_has, parts_have, list_has, arms_have, arm_has, else_has, loop_has, is_end, unstructured}
use Rattle.preconditions.specs.transformers.Whiles.{WhileTree, while_in}
use Rattle.preconditions.specs.transformers.Statement as transformers
use Rattle.preconditions.specs.Statement as preconditions
use Rattle.preconditions.specs.Statement.{if_true, past_arm, past_arms, each_iteration, throughout, while_begins, while_found, after}
use Rattle.laws_analyses.specs.Statements.Targets.{has_targets, lacks_targets}
use Rattle.laws_analyses.specs.Statements.Placed.{Found, Either, PlacedOr, PlacedAt, Placed, PlacedParts, PlacedEach, PlacedAll, PlacedArms, PlacedArm, PlacedElse, PlacedLoop, PlacedList}
use Rattle.call_graph.specs.CallsIn.{CallAt, Each, stmt_calls, what_calls, list_calls, arms_calls, arm_calls, else_calls, loop_calls}

pub each_parts : {T : Type 0} (P : T → Type 0) (xs ys : List T) → Each P (xs ++ ys) → Each P xs × Each P ys
each_parts P [] ys h = (tt, h)
each_parts P (x ∷ xs) ys h = let q = each_parts P xs ys h.1 in ((h.0, q.0), q.1)

pick : {T : Type 0} (P : T → Type 0) (c : Bool) (xs ys : List T) (A B : Type 0) → (Each P xs → A) → (Each P ys → B) → Each P (if c then xs else ys) → Either c A B
pick P true xs ys A B f g h = f h
pick P false xs ys A B f g h = g h

pick_while : (P : At System → Type 0) (o : Option WhileTree) (xs ys : List (At System)) (A B : Type 0) → (Each P xs → A) → (Each P ys → B) → Each P (while_found o xs ys) → PlacedOr o A B
pick_while P None xs ys A B f g h = g h
pick_while P (Some w) xs ys A B f g h = f h

module _ (r : Found) (covers : List ℕ → ExprTrees → System → Type 0) (m : ScopeTree) (cs : Callees) (scalar : List ℕ → Bool) where
  -- a result at a statement is what is found by its number
  abbrev pub FoundT : At Transformer → Type 0
  FoundT a = (0 < a.id) × (r.transformer a.id ≡ a.value)

  abbrev pub FoundP : At System → Type 0
  FoundP a = r.pre a.id ≡ a.value

  -- a CALL has what it owes, where what is found holds
  abbrev pub Owed : CallAt → Type 0
  Owed c = covers c.callee c.actuals (r.pre c.number)

  abbrev pub bad : WhatTree → Bool
  bad w = lacks_targets scalar w

  placed_at : (n : ℕ) (w : WhatTree) (last : Bool) (p : System) → 0 < n → r.transformer n ≡ transformers.what_transformer w m cs last → r.pre n ≡ p → bad w ≡ false → PlacedAt r covers m cs scalar n w last p
  placed_at n w last p h t q k = record { numbered = h; pre = q; transformer = t; targets = not-false (has_targets scalar w) k }

  mutual
    pub placed : (s : StmtTree) (last : Bool) (p : System) → stmt_has bad s ≡ false → Each FoundT (transformers.at_stmt s m cs last) → Each FoundP (preconditions.at_stmt s m r.transformer p) → Each Owed (stmt_calls s) → Placed r covers m cs scalar s last p
    placed (tree.stmt n label w) last p k ht hp hc =
        let o = or_parts (bad w) (parts_have bad w) k in
        (placed_at n w last p ht.0.0 ht.0.1 hp.0 o.0, placed_parts w n p hp.0 o.1 ht.1 hp.1 hc)

    placed_parts : (w : WhatTree) (n : ℕ) (p : System) → r.pre n ≡ p → parts_have bad w ≡ false → Each FoundT (transformers.at_parts w m cs) → Each FoundP (preconditions.at_parts w m r.transformer p) → Each Owed (what_calls w n) → PlacedParts r covers m cs scalar w p
    placed_parts (tree.assign a b) n p e k ht hp hc = tt
    placed_parts (tree.block_if arms other) n p e k ht hp hc =
        let o = or_parts (arms_have bad arms) (else_has bad other) k in
        let t = each_parts FoundT (transformers.at_arms arms m cs) (transformers.at_else other m cs) ht in
        let q = each_parts FoundP (preconditions.at_arms arms m r.transformer p) (preconditions.at_else other m r.transformer (past_arms arms m p)) hp in
        let c = each_parts Owed (arms_calls arms) (else_calls other) hc in
        (placed_arms arms p o.0 t.0 q.0 c.0, placed_else other (past_arms arms m p) o.1 t.1 q.1 c.1)
    placed_parts (tree.logical_if f s) n p e k ht hp hc = placed s false (if_true m f p) k ht hp hc
    placed_parts (tree.do_loop l) n p e k ht hp hc = placed_loop l p k ht hp hc
    placed_parts (tree.call x es) n p e k ht hp hc = subst (λ q. covers x es q) e hc.0
    placed_parts (tree.goto l) n p e k ht hp hc = tt
    placed_parts tree.continue n p e k ht hp hc = tt
    placed_parts tree.return n p e k ht hp hc = tt
    placed_parts (tree.stop text) n p e k ht hp hc = tt
    placed_parts (tree.print es) n p e k ht hp hc = tt
    placed_parts (tree.read es) n p e k ht hp hc = tt

    pub placed_each : (ss : StmtTrees) (whole : Bool) (p : System) → list_has bad ss ≡ false → Each FoundT (transformers.at_list ss m cs whole) → Each FoundP (preconditions.at_each ss m r.transformer p) → Each Owed (list_calls ss) → PlacedEach r covers m cs scalar ss whole p
    placed_each tree.no_stmts whole p k ht hp hc = tt
    placed_each (tree.more_stmts s rest) whole p k ht hp hc =
        let o = or_parts (stmt_has bad s) (list_has bad rest) k in
        let t = each_parts FoundT (transformers.at_stmt s m cs (whole && is_end rest)) (transformers.at_list rest m cs whole) ht in
        let q = each_parts FoundP (preconditions.at_stmt s m r.transformer p) (preconditions.at_each rest m r.transformer (after s m r.transformer p)) hp in
        let c = each_parts Owed (stmt_calls s) (list_calls rest) hc in
        (placed s (whole && is_end rest) p o.0 t.0 q.0 c.0, placed_each rest whole (after s m r.transformer p) o.1 t.1 q.1 c.1)

    pub placed_all : (ss : StmtTrees) (whole : Bool) (p : System) → list_has bad ss ≡ false → Each FoundT (transformers.at_list ss m cs whole) → Each FoundP (preconditions.at_all ss m r.transformer p) → Each Owed (list_calls ss) → PlacedAll r covers m cs scalar ss whole p
    placed_all tree.no_stmts whole p k ht hp hc = tt
    placed_all (tree.more_stmts s rest) whole p k ht hp hc =
        let o = or_parts (stmt_has bad s) (list_has bad rest) k in
        let t = each_parts FoundT (transformers.at_stmt s m cs (whole && is_end rest)) (transformers.at_list rest m cs whole) ht in
        let q = each_parts FoundP (preconditions.at_stmt s m r.transformer p) (preconditions.at_all rest m r.transformer p) hp in
        let c = each_parts Owed (stmt_calls s) (list_calls rest) hc in
        (placed s (whole && is_end rest) p o.0 t.0 q.0 c.0, placed_all rest whole p o.1 t.1 q.1 c.1)

    placed_arms : (arms : ArmTrees) (p : System) → arms_have bad arms ≡ false → Each FoundT (transformers.at_arms arms m cs) → Each FoundP (preconditions.at_arms arms m r.transformer p) → Each Owed (arms_calls arms) → PlacedArms r covers m cs scalar arms p
    placed_arms tree.no_arms p k ht hp hc = tt
    placed_arms (tree.more_arms a rest) p k ht hp hc =
        let o = or_parts (arm_has bad a) (arms_have bad rest) k in
        let t = each_parts FoundT (transformers.at_arm a m cs) (transformers.at_arms rest m cs) ht in
        let q = each_parts FoundP (preconditions.at_arm a m r.transformer p) (preconditions.at_arms rest m r.transformer (past_arm a m p)) hp in
        let c = each_parts Owed (arm_calls a) (arms_calls rest) hc in
        (placed_arm a p o.0 t.0 q.0 c.0, placed_arms rest (past_arm a m p) o.1 t.1 q.1 c.1)

    placed_arm : (a : ArmTree) (p : System) → arm_has bad a ≡ false → Each FoundT (transformers.at_arm a m cs) → Each FoundP (preconditions.at_arm a m r.transformer p) → Each Owed (arm_calls a) → PlacedArm r covers m cs scalar a p
    placed_arm (tree.arm e body) p k ht hp hc =
        let begins = while_begins (while_in body) m r.transformer (if_true m e p) in
        pick_while FoundP (while_in body) (preconditions.at_all body m r.transformer begins) (preconditions.at_list false body m r.transformer (if_true m e p)) _ _
        (λ h. placed_all body false begins k ht h hc)
        (λ q. pick FoundP (unstructured false body) (preconditions.at_all body m r.transformer (throughout false body r.transformer (if_true m e p))) (preconditions.at_each body m r.transformer (if_true m e p)) _ _
        (λ h. placed_all body false (throughout false body r.transformer (if_true m e p)) k ht h hc) (λ h. placed_each body false (if_true m e p) k ht h hc) q)
        hp

    placed_else : (other : ElseTree) (p : System) → else_has bad other ≡ false → Each FoundT (transformers.at_else other m cs) → Each FoundP (preconditions.at_else other m r.transformer p) → Each Owed (else_calls other) → PlacedElse r covers m cs scalar other p
    placed_else tree.no_else p k ht hp hc = tt
    placed_else (tree.otherwise body) p k ht hp hc =
        pick FoundP (unstructured false body) (preconditions.at_all body m r.transformer (throughout false body r.transformer p)) (preconditions.at_each body m r.transformer p) _ _
        (λ h. placed_all body false (throughout false body r.transformer p) k ht h hc) (λ h. placed_each body false p k ht h hc) hp

    placed_loop : (l : LoopTree) (p : System) → loop_has bad l ≡ false → Each FoundT (transformers.at_loop l m cs) → Each FoundP (preconditions.at_loop l m r.transformer p) → Each Owed (loop_calls l) → PlacedLoop r covers m cs scalar l p
    placed_loop (tree.loop index first last step body) p k ht hp hc =
        let l = tree.loop index first last step body in
        pick FoundP (unstructured false body) (preconditions.at_all body m r.transformer (throughout false body r.transformer (each_iteration l m r.transformer p))) (preconditions.at_each body m r.transformer (each_iteration l m r.transformer p)) _ _
        (λ h. placed_all body false (throughout false body r.transformer (each_iteration l m r.transformer p)) k ht h hc) (λ h. placed_each body false (each_iteration l m r.transformer p) k ht h hc) hp

  pub placed_list : (ss : StmtTrees) (whole : Bool) (p : System) → list_has bad ss ≡ false → Each FoundT (transformers.at_list ss m cs whole) → Each FoundP (preconditions.at_list whole ss m r.transformer p) → Each Owed (list_calls ss) → PlacedList r covers m cs scalar ss whole p
  placed_list ss whole p k ht hp hc =
      pick FoundP (unstructured whole ss) (preconditions.at_all ss m r.transformer (throughout whole ss r.transformer p)) (preconditions.at_each ss m r.transformer p) _ _
      (λ h. placed_all ss whole (throughout whole ss r.transformer p) k ht h hc) (λ h. placed_each ss whole p k ht h hc) hp
