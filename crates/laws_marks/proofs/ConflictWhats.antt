-- The statements of a list and their parts, by their numbers, and which of them is the DO of a number.
use Rattle.std.proofs.Common.{◌≡◌, ℕ, List, [], ◌∷◌, ◌++◌, ◌||◌, Option, Some, None, Bool, true, false, refl, sym, ap, ◌∙◌, subst, nat_eq, true≢false}
use Rattle.std.specs.Prelude.{if◌then◌else◌}
use Rattle.std.proofs.lemmas.Bool.{or_parts, or_left, or_right}
use Rattle.f77_ast.specs.Trees.{StmtTree, WhatTree, ArmTree, ArmTrees, ElseTree, LoopTree, StmtTrees}
use Rattle.f77_ast.specs.Trees as tree
use Rattle.f77_ast.specs.Shapes.{walk_stmt, walk_what, walk_body, walk_arms, walk_arm, walk_else, walk_list}
use Rattle.f77_ast.specs.StatementNumbers.{stmt_numbers, part_numbers, list_numbers, arms_numbers, else_numbers, loop_numbers}
use Rattle.f77_ast.specs.declared.results.At.{At}
use Rattle.preconditions.specs.transformer_algebra.Cells.{has}
use Rattle.preconditions.specs.transformers.Statement.{at}
use Rattle.loop_marker.specs.dependence_test.Finding.{or_loop, the_loop, loop_in}
use Rattle.call_graph.specs.CallsIn.{Each}
use Rattle.laws_analyses.proofs.Regions.Standing.{Distinct, distinct_parts}
use Rattle.fx_lists.proofs.Numbers.{same_is as nat_same, nat_eq_same}
use Rattle.call_graph.proofs.EachLaws.{each_joined as each_join}
use Rattle.preconditions.proofs.TransformerAlgebra.HasLaws.{has_parts as none_parts, has_left, has_right}

-- ---- statements

abbrev mutual
  pub stmt_whats : StmtTree → List (At WhatTree)
  stmt_whats (tree.stmt n label w) = at n w ∷ part_whats w

  pub part_whats : WhatTree → List (At WhatTree)
  part_whats (tree.assign a b) = []
  part_whats (tree.block_if arms other) = arms_whats arms ++ else_whats other
  part_whats (tree.logical_if e s) = stmt_whats s
  part_whats (tree.do_loop l) = loop_whats l
  part_whats (tree.call x es) = []
  part_whats (tree.goto l) = []
  part_whats tree.continue = []
  part_whats tree.return = []
  part_whats (tree.stop text) = []
  part_whats (tree.print es) = []
  part_whats (tree.read es) = []

  pub list_whats : StmtTrees → List (At WhatTree)
  list_whats tree.no_stmts = []
  list_whats (tree.more_stmts s rest) = stmt_whats s ++ list_whats rest

  pub arms_whats : ArmTrees → List (At WhatTree)
  arms_whats tree.no_arms = []
  arms_whats (tree.more_arms a rest) = arm_whats a ++ arms_whats rest

  pub arm_whats : ArmTree → List (At WhatTree)
  arm_whats (tree.arm test body) = list_whats body

  pub else_whats : ElseTree → List (At WhatTree)
  else_whats tree.no_else = []
  else_whats (tree.otherwise body) = list_whats body

  pub loop_whats : LoopTree → List (At WhatTree)
  loop_whats (tree.loop index first last step body) = list_whats body

-- a DO, if it is one
abbrev pub as_loop : WhatTree → Option LoopTree
as_loop (tree.assign a b) = None
as_loop (tree.block_if arms other) = None
as_loop (tree.logical_if e s) = None
as_loop (tree.do_loop l) = Some l
as_loop (tree.call x es) = None
as_loop (tree.goto l) = None
as_loop tree.continue = None
as_loop tree.return = None
as_loop (tree.stop text) = None
as_loop (tree.print es) = None
as_loop (tree.read es) = None

-- ---- where a number is not found there is no DO with it

neither : (o q : Option LoopTree) → o ≡ None → q ≡ None → or_loop o q ≡ None
neither None q e f = f
neither (Some l) q e f = e

module _ (k : ℕ) where
  mutual
    no_stmt : (s : StmtTree) → has (stmt_numbers s) k ≡ false → walk_stmt (the_loop k) s ≡ None
    no_stmt (tree.stmt n label w) h = (let o = or_parts (nat_eq n k) (has (part_numbers w) k) h in no_what n label w o.0 o.1)

    no_what : (n : ℕ) (label : Option ℕ) (w : WhatTree) → nat_eq n k ≡ false → has (part_numbers w) k ≡ false → walk_what (the_loop k) n label w ≡ None
    no_what n label (tree.assign a b) e h = refl
    no_what n label (tree.block_if arms other) e h = (let o = none_parts (arms_numbers arms) (else_numbers other) k h in neither (walk_arms (the_loop k) arms) (walk_else (the_loop k) other) (no_arms arms o.0) (no_else other o.1))
    no_what n label (tree.logical_if test s) e h = no_stmt s h
    no_what n label (tree.do_loop l) e h = ap (λ b. if b then Some l else walk_body (the_loop k) l) e ∙ no_body l h
    no_what n label (tree.call x es) e h = refl
    no_what n label (tree.goto l) e h = refl
    no_what n label tree.continue e h = refl
    no_what n label tree.return e h = refl
    no_what n label (tree.stop text) e h = refl
    no_what n label (tree.print es) e h = refl
    no_what n label (tree.read es) e h = refl

    no_body : (l : LoopTree) → has (loop_numbers l) k ≡ false → walk_body (the_loop k) l ≡ None
    no_body (tree.loop index first last step body) h = no_list body h

    no_arms : (arms : ArmTrees) → has (arms_numbers arms) k ≡ false → walk_arms (the_loop k) arms ≡ None
    no_arms tree.no_arms h = refl
    no_arms (tree.more_arms (tree.arm test body) rest) h = (let o = none_parts (list_numbers body) (arms_numbers rest) k h in neither (walk_list (the_loop k) body) (walk_arms (the_loop k) rest) (no_list body o.0) (no_arms rest o.1))

    no_else : (other : ElseTree) → has (else_numbers other) k ≡ false → walk_else (the_loop k) other ≡ None
    no_else tree.no_else h = refl
    no_else (tree.otherwise body) h = no_list body h

    pub no_list : (ss : StmtTrees) → has (list_numbers ss) k ≡ false → walk_list (the_loop k) ss ≡ None
    no_list tree.no_stmts h = refl
    no_list (tree.more_stmts s rest) h = (let o = none_parts (stmt_numbers s) (list_numbers rest) k h in neither (walk_stmt (the_loop k) s) (walk_list (the_loop k) rest) (no_stmt s o.0) (no_list rest o.1))

-- ---- each statement is found by its number

left_only : (o q : Option LoopTree) → q ≡ None → or_loop o q ≡ o
left_only None q e = e
left_only (Some l) q e = refl

right_only : (o q : Option LoopTree) → o ≡ None → or_loop o q ≡ q
right_only None q e = refl
right_only (Some l) q e = absurd (some_none l e)
  where
    some_none : (l : LoopTree) → Some l ≡ None → ⊥
    some_none l e = cc

-- numbers of two lists that differ
apart_right : (ns ms : List ℕ) → Distinct (ns ++ ms) → (n : ℕ) → has ns n ≡ true → has ms n ≡ false
apart_right [] ms d n h = absurd (true≢false (sym h))
apart_right (a ∷ ns) ms d n h = go (nat_eq a n) refl h (λ q. apart_right ns ms d.1 n q)
  where
    go : (b : Bool) → nat_eq a n ≡ b → (b || has ns n) ≡ true → (has ns n ≡ true → has ms n ≡ false) → has ms n ≡ false
    go true e q f = subst (λ c. has ms c ≡ false) (nat_same a n e) (none_parts ns ms a d.0).1
    go false e q f = f q

apart_left : (ns ms : List ℕ) → Distinct (ns ++ ms) → (n : ℕ) → has ms n ≡ true → has ns n ≡ false
apart_left ns ms d n h = go (has ns n) refl
  where
    go : (b : Bool) → has ns n ≡ b → has ns n ≡ false
    go true e = absurd (true≢false (sym h ∙ apart_right ns ms d n e))
    go false e = e

-- F: the DO of each number
module _ (F : ℕ → Option LoopTree) where
  abbrev pub FoundAt : At WhatTree → Type 0
  FoundAt a = F a.id ≡ as_loop a.value

  mutual
    found_stmt : (s : StmtTree) → Distinct (stmt_numbers s) → ((n : ℕ) → has (stmt_numbers s) n ≡ true → F n ≡ walk_stmt (the_loop n) s) → Each FoundAt (stmt_whats s)
    found_stmt (tree.stmt n label w) d f = (
      f n (or_left (nat_eq n n) (has (part_numbers w) n) (nat_eq_same n)) ∙ own n label w d.0,
      found_parts n label w d (λ m h. f m (or_right (nat_eq n m) (has (part_numbers w) m) h)),
    )

    -- at its own number
    own : (n : ℕ) (label : Option ℕ) (w : WhatTree) → has (part_numbers w) n ≡ false → walk_what (the_loop n) n label w ≡ as_loop w
    own n label (tree.assign a b) h = refl
    own n label (tree.block_if arms other) h = (let o = none_parts (arms_numbers arms) (else_numbers other) n h in neither (walk_arms (the_loop n) arms) (walk_else (the_loop n) other) (no_arms n arms o.0) (no_else n other o.1))
    own n label (tree.logical_if test s) h = no_stmt n s h
    own n label (tree.do_loop l) h = ap (λ b. if b then Some l else walk_body (the_loop n) l) (nat_eq_same n)
    own n label (tree.call x es) h = refl
    own n label (tree.goto l) h = refl
    own n label tree.continue h = refl
    own n label tree.return h = refl
    own n label (tree.stop text) h = refl
    own n label (tree.print es) h = refl
    own n label (tree.read es) h = refl

    found_parts : (n : ℕ) (label : Option ℕ) (w : WhatTree) → Distinct (n ∷ part_numbers w) → ((m : ℕ) → has (part_numbers w) m ≡ true → F m ≡ walk_what (the_loop m) n label w) → Each FoundAt (part_whats w)
    found_parts n label (tree.assign a b) d f = tt
    found_parts n label (tree.block_if arms other) d f =
        let q = distinct_parts (arms_numbers arms) (else_numbers other) d.1 in
        each_join FoundAt (arms_whats arms) (else_whats other)
        (found_arms arms q.0 (λ m h. f m (has_left (arms_numbers arms) (else_numbers other) m h) ∙ left_only (walk_arms (the_loop m) arms) (walk_else (the_loop m) other) (no_else m other (apart_right (arms_numbers arms) (else_numbers other) d.1 m h))))
        (found_else other q.1 (λ m h. f m (has_right (arms_numbers arms) (else_numbers other) m h) ∙ right_only (walk_arms (the_loop m) arms) (walk_else (the_loop m) other) (no_arms m arms (apart_left (arms_numbers arms) (else_numbers other) d.1 m h))))
    found_parts n label (tree.logical_if test s) d f = found_stmt s d.1 f
    found_parts n label (tree.do_loop l) d f = found_loop l d.1 (λ m h. f m h ∙ ap (λ b. if b then Some l else walk_body (the_loop m) l) (other m h (nat_eq n m) refl))
      where
        other : (m : ℕ) → has (loop_numbers l) m ≡ true → (b : Bool) → nat_eq n m ≡ b → b ≡ false
        other m h false e = refl
        other m h true e = absurd (true≢false (sym h ∙ subst (λ c. has (loop_numbers l) c ≡ false) (nat_same n m e) d.0))
    found_parts n label (tree.call x es) d f = tt
    found_parts n label (tree.goto l) d f = tt
    found_parts n label tree.continue d f = tt
    found_parts n label tree.return d f = tt
    found_parts n label (tree.stop text) d f = tt
    found_parts n label (tree.print es) d f = tt
    found_parts n label (tree.read es) d f = tt

    found_loop : (l : LoopTree) → Distinct (loop_numbers l) → ((m : ℕ) → has (loop_numbers l) m ≡ true → F m ≡ walk_body (the_loop m) l) → Each FoundAt (loop_whats l)
    found_loop (tree.loop index first last step body) d f = found_list body d f

    found_arms : (arms : ArmTrees) → Distinct (arms_numbers arms) → ((m : ℕ) → has (arms_numbers arms) m ≡ true → F m ≡ walk_arms (the_loop m) arms) → Each FoundAt (arms_whats arms)
    found_arms tree.no_arms d f = tt
    found_arms (tree.more_arms (tree.arm test body) rest) d f =
        let q = distinct_parts (list_numbers body) (arms_numbers rest) d in
        each_join FoundAt (list_whats body) (arms_whats rest)
        (found_list body q.0 (λ m h. f m (has_left (list_numbers body) (arms_numbers rest) m h) ∙ left_only (walk_list (the_loop m) body) (walk_arms (the_loop m) rest) (no_arms m rest (apart_right (list_numbers body) (arms_numbers rest) d m h))))
        (found_arms rest q.1 (λ m h. f m (has_right (list_numbers body) (arms_numbers rest) m h) ∙ right_only (walk_list (the_loop m) body) (walk_arms (the_loop m) rest) (no_list m body (apart_left (list_numbers body) (arms_numbers rest) d m h))))

    found_else : (other : ElseTree) → Distinct (else_numbers other) → ((m : ℕ) → has (else_numbers other) m ≡ true → F m ≡ walk_else (the_loop m) other) → Each FoundAt (else_whats other)
    found_else tree.no_else d f = tt
    found_else (tree.otherwise body) d f = found_list body d f

    pub found_list : (ss : StmtTrees) → Distinct (list_numbers ss) → ((m : ℕ) → has (list_numbers ss) m ≡ true → F m ≡ walk_list (the_loop m) ss) → Each FoundAt (list_whats ss)
    found_list tree.no_stmts d f = tt
    found_list (tree.more_stmts s rest) d f =
        let q = distinct_parts (stmt_numbers s) (list_numbers rest) d in
        each_join FoundAt (stmt_whats s) (list_whats rest)
        (found_stmt s q.0 (λ m h. f m (has_left (stmt_numbers s) (list_numbers rest) m h) ∙ left_only (walk_stmt (the_loop m) s) (walk_list (the_loop m) rest) (no_list m rest (apart_right (stmt_numbers s) (list_numbers rest) d m h))))
        (found_list rest q.1 (λ m h. f m (has_right (stmt_numbers s) (list_numbers rest) m h) ∙ right_only (walk_stmt (the_loop m) s) (walk_list (the_loop m) rest) (no_stmt m s (apart_left (stmt_numbers s) (list_numbers rest) d m h))))

-- the DO of the number of a statement of a body is the statement
pub each_found : (body : StmtTrees) → Distinct (list_numbers body) → Each (λ (a : At WhatTree). loop_in a.id body ≡ as_loop a.value) (list_whats body)
each_found body d = found_list (λ n. loop_in n body) body d (λ m h. refl)
