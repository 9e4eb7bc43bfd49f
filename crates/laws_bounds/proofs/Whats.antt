-- The statements of a body, each with the number at which it has its lines, have its numbers in their order, and are all that it has.
use Rattle.std.proofs.Common.{◌≡◌, ℕ, zero, suc, ◌<◌, Bool, true, false, List, [], ◌∷◌, ◌++◌, map, Some, refl, sym, ap, ◌∙◌, subst}
use Rattle.std.specs.Prelude.{slice_get}
use Rattle.f77_ast.specs.Trees.{StmtTree, WhatTree, ArmTree, ArmTrees, ElseTree, LoopTree, StmtTrees}
use Rattle.f77_ast.specs.Trees as tree
use Rattle.f77_ast.specs.StatementNumbers.{stmt_numbers, part_numbers, list_numbers, arms_numbers, arm_numbers, else_numbers, loop_numbers, HasNumbers}
use Rattle.f77_ast.specs.declared.results.At.{At}
use Rattle.preconditions.specs.transformer_algebra.Laws.{In, here, there}
use Rattle.preconditions.proofs.TransformerAlgebra.Members.{in_left, in_right}
use Rattle.call_graph.specs.CallsIn.{Each}
use Rattle.call_graph.proofs.EachLaws.{each_more, each_joined}
use Rattle.laws_marks.proofs.ConflictWhats.{stmt_whats, part_whats, list_whats, arms_whats, arm_whats, else_whats, loop_whats}
use Rattle.laws_bounds.specs.Lines.{Statement, line_of, body_all, stmt_all, what_all, list_all, arms_all, arm_all, else_all, loop_all}

-- ---- what the walk finds is a statement of the body

abbrev pub IsStatement : List Statement → At WhatTree → Type 0
IsStatement ss a = (l : ℕ) × In (record { number = a.id; line = l; what = a.value }) ss

module _ (xs ys : List Statement) (as' bs : List (At WhatTree)) (h : Each (IsStatement xs) as') (k : Each (IsStatement ys) bs) where
  both_found : Each (IsStatement (xs ++ ys)) (as' ++ bs)
  both_found =
      each_joined (IsStatement (xs ++ ys)) as' bs
      (each_more (IsStatement xs) (IsStatement (xs ++ ys)) as' (λ a i. (i.0, in_left (record { number = a.id; line = i.0; what = a.value }) xs ys i.1)) h)
      (each_more (IsStatement ys) (IsStatement (xs ++ ys)) bs (λ a i. (i.0, in_right (record { number = a.id; line = i.0; what = a.value }) xs ys i.1)) k)

mutual
  stmt_found : (around : ℕ) (lined : Bool) (s : StmtTree) → Each (IsStatement (stmt_all around lined s)) (stmt_whats s)
  stmt_found around lined (tree.stmt n label w) =
      let l = line_of around lined n in
      ((l, here), each_more (IsStatement (what_all l w)) (IsStatement (record { number = n; line = l; what = w } ∷ what_all l w)) (part_whats w) (λ a i. (i.0, there i.1)) (what_found l w))

  what_found : (l : ℕ) (w : WhatTree) → Each (IsStatement (what_all l w)) (part_whats w)
  what_found l (tree.assign a b) = tt
  what_found l (tree.block_if arms other) = both_found (arms_all l arms) (else_all l other) (arms_whats arms) (else_whats other) (arms_found l arms) (else_found l other)
  what_found l (tree.logical_if e s) = stmt_found l false s
  what_found l (tree.do_loop b) = loop_found l b
  what_found l (tree.call x es) = tt
  what_found l (tree.goto t) = tt
  what_found l tree.continue = tt
  what_found l tree.return = tt
  what_found l (tree.stop text) = tt
  what_found l (tree.print es) = tt
  what_found l (tree.read es) = tt

  pub list_found : (l : ℕ) (list : StmtTrees) → Each (IsStatement (list_all l list)) (list_whats list)
  list_found l tree.no_stmts = tt
  list_found l (tree.more_stmts s rest) = both_found (stmt_all l true s) (list_all l rest) (stmt_whats s) (list_whats rest) (stmt_found l true s) (list_found l rest)

  arms_found : (l : ℕ) (arms : ArmTrees) → Each (IsStatement (arms_all l arms)) (arms_whats arms)
  arms_found l tree.no_arms = tt
  arms_found l (tree.more_arms a rest) = both_found (arm_all l a) (arms_all l rest) (arm_whats a) (arms_whats rest) (arm_found l a) (arms_found l rest)

  arm_found : (l : ℕ) (a : ArmTree) → Each (IsStatement (arm_all l a)) (arm_whats a)
  arm_found l (tree.arm test body) = list_found l body

  else_found : (l : ℕ) (other : ElseTree) → Each (IsStatement (else_all l other)) (else_whats other)
  else_found l tree.no_else = tt
  else_found l (tree.otherwise body) = list_found l body

  loop_found : (l : ℕ) (b : LoopTree) → Each (IsStatement (loop_all l b)) (loop_whats b)
  loop_found l (tree.loop index first last step body) = list_found l body

-- ---- numbers

map_both : (xs ys : List Statement) (ns ms : List ℕ) → map (λ (s : Statement). s.number) xs ≡ ns → map (λ (s : Statement). s.number) ys ≡ ms → map (λ (s : Statement). s.number) (xs ++ ys) ≡ ns ++ ms
map_both [] ys ns ms h k = ap (λ (l : List ℕ). l ++ map (λ (s : Statement). s.number) ys) h ∙ ap (λ (l : List ℕ). ns ++ l) k
map_both (x ∷ xs) ys ns ms h k =
    ap (λ (l : List ℕ). x.number ∷ l) (map_both xs ys (map (λ (s : Statement). s.number) xs) ms refl k) ∙ ap (λ (l : List ℕ). l ++ ms) h

abbrev Numbered : List Statement → List ℕ → Type 0
Numbered ss ns = map (λ (s : Statement). s.number) ss ≡ ns

mutual
  stmt_numbered : (around : ℕ) (lined : Bool) (s : StmtTree) → Numbered (stmt_all around lined s) (stmt_numbers s)
  stmt_numbered around lined (tree.stmt n label w) = ap (λ (l : List ℕ). n ∷ l) (what_numbered (line_of around lined n) w)

  what_numbered : (l : ℕ) (w : WhatTree) → Numbered (what_all l w) (part_numbers w)
  what_numbered l (tree.assign a b) = refl
  what_numbered l (tree.block_if arms other) = map_both (arms_all l arms) (else_all l other) (arms_numbers arms) (else_numbers other) (arms_numbered l arms) (else_numbered l other)
  what_numbered l (tree.logical_if e s) = stmt_numbered l false s
  what_numbered l (tree.do_loop b) = loop_numbered l b
  what_numbered l (tree.call x es) = refl
  what_numbered l (tree.goto t) = refl
  what_numbered l tree.continue = refl
  what_numbered l tree.return = refl
  what_numbered l (tree.stop text) = refl
  what_numbered l (tree.print es) = refl
  what_numbered l (tree.read es) = refl

  list_numbered : (l : ℕ) (list : StmtTrees) → Numbered (list_all l list) (list_numbers list)
  list_numbered l tree.no_stmts = refl
  list_numbered l (tree.more_stmts s rest) = map_both (stmt_all l true s) (list_all l rest) (stmt_numbers s) (list_numbers rest) (stmt_numbered l true s) (list_numbered l rest)

  arms_numbered : (l : ℕ) (arms : ArmTrees) → Numbered (arms_all l arms) (arms_numbers arms)
  arms_numbered l tree.no_arms = refl
  arms_numbered l (tree.more_arms a rest) = map_both (arm_all l a) (arms_all l rest) (arm_numbers a) (arms_numbers rest) (arm_numbered l a) (arms_numbered l rest)

  arm_numbered : (l : ℕ) (a : ArmTree) → Numbered (arm_all l a) (arm_numbers a)
  arm_numbered l (tree.arm test body) = list_numbered l body

  else_numbered : (l : ℕ) (other : ElseTree) → Numbered (else_all l other) (else_numbers other)
  else_numbered l tree.no_else = refl
  else_numbered l (tree.otherwise body) = list_numbered l body

  loop_numbered : (l : ℕ) (b : LoopTree) → Numbered (loop_all l b) (loop_numbers b)
  loop_numbered l (tree.loop index first last step body) = list_numbered l body

-- ---- one statement for each number

record Place (ss : List Statement) (s : Statement) : Type 0 where
  place : ℕ
  there_is : slice_get ss place ≡ Some s
  number : slice_get (map (λ (t : Statement). t.number) ss) place ≡ Some s.number

place_in : (ss : List Statement) (s : Statement) → In s ss → Place ss s
place_in [] s i = elim i [ ]
place_in (t ∷ ss) s here = record { place = zero; there_is = refl; number = refl }
place_in (t ∷ ss) s (there i) = let p = place_in ss s i in record { place = suc p.place; there_is = p.there_is; number = p.number }

module _ (body : StmtTrees) (h : HasNumbers body) where
  numbered_at : (s : Statement) (p : Place (body_all body) s) → slice_get (list_numbers body) p.place ≡ Some s.number
  numbered_at s p = subst (λ (ns : List ℕ). slice_get ns p.place ≡ Some s.number) (list_numbered 0 body) p.number

  pub above : (s : Statement) → In s (body_all body) → 0 < s.number
  above s i = let p = place_in (body_all body) s i in h.above p.place s.number (numbered_at s p)

  pub one_statement : (s t : Statement) → In s (body_all body) → In t (body_all body) → s.number ≡ t.number → s ≡ t
  one_statement s t i j e =
      let p = place_in (body_all body) s i in
      let q = place_in (body_all body) t j in
      let same : p.place ≡ q.place = h.once p.place q.place t.number (numbered_at s p ∙ ap Some e) (numbered_at t q) in
      let both : Some s ≡ Some t = sym p.there_is ∙ (ap (slice_get (body_all body)) same ∙ q.there_is) in
      let one : s ≡ t = cc in one
