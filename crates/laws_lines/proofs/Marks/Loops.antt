-- The DO statements among those that are written of a module, and the numbers of its statements.
use Rattle.std.proofs.Common.{inl, inr, ◌⊎◌, ◌≡◌, ℕ, ◌+◌, ◌<◌, ◌≤◌, Bool, List, [], ◌∷◌, ◌++◌, refl, sym, subst, arith, append_assoc, append-nil, Option, None}
use Rattle.f77_ast.specs.declared.places.Part.{Part}
use Rattle.f77_ast.specs.declared.places.Part.TheVariants as parts
use Rattle.f77_ast.specs.Trees.{ExprTree, StmtTree, stmt, WhatTree, assign, do_loop, call, goto, continue, return, stop, print, read, arm, ArmTrees, no_arms, more_arms, ElseTree, no_else, otherwise, LoopTree, loop, StmtTrees, no_stmts, more_stmts}
use Rattle.f77_ast.specs.Trees as trees
use Rattle.f77_ast.specs.Shapes.{walk_stmt, walk_what, walk_body, walk_arms, walk_else, walk_list}
use Rattle.f77_statements.specs.Phrases.{PhraseTree, simple, else_if, else_part, end_do}
use Rattle.laws_programs.specs.roundtrip_programs.ModuleTexts.Cards.{Card, card, within, head_of, if_head, if_end, cards_of, cards_by, body_cards, part_cards, else_cards, cards_in}
use Rattle.laws_programs.specs.roundtrip_programs.ModuleTexts.Numbered.{last_of, last_by, last_body, last_in, last_arms, last_else, IsNumbered, NumberedBelow, NumberedArms, NumberedElse, AreNumbered}
use Rattle.laws_lines.specs.Marks.Marked.{the_loops, loops_in}

-- ---- which statements are DOs

-- the DOs among these statements are, in order, those with these numbers
abbrev pub HaveLoops : List Card → List ℕ → Type 0
HaveLoops [] ls = ls ≡ []
HaveLoops (c ∷ cs) ls = HaveLoops cs ls ⊎ ((i : ℕ) × (more : List ℕ) × (c.part ≡ parts.Stmt i) × (c.inner ≡ None) × (ls ≡ i ∷ more) × HaveLoops cs more)

-- from the statements behind them
abbrev Prefixes : List Card → List ℕ → Type 0
Prefixes cs ls = (rest : List Card) (more : List ℕ) → HaveLoops rest more → HaveLoops (cs ++ rest) (ls ++ more)

joined : (xs ys : List Card) (ls ms : List ℕ) → Prefixes xs ls → Prefixes ys ms → Prefixes (xs ++ ys) (ls ++ ms)
joined xs ys ls ms h k rest more e =
    subst (λ (cs : List Card). HaveLoops cs ((ls ++ ms) ++ more)) (sym (append_assoc xs ys rest))
    (subst (HaveLoops (xs ++ (ys ++ rest))) (sym (append_assoc ls ms more)) (h (ys ++ rest) (ms ++ more) (k rest more e)))

one_more : (c : Card) (cs : List Card) (ls : List ℕ) → Prefixes cs ls → Prefixes (c ∷ cs) ls
one_more c cs ls h rest more e = inl (h rest more e)

none : Prefixes [] []
none rest more e = e

a_loop : (id : ℕ) (label : Option ℕ) (p : PhraseTree) (cs : List Card) (ls : List ℕ) → Prefixes cs ls → Prefixes (card (parts.Stmt id) label p ∷ cs) (id ∷ ls)
a_loop id label p cs ls h rest more e = inr (id, ls ++ more, refl, refl, refl, h rest more e)

-- with nothing behind them but what has no loop
closed : (cs : List Card) (ls : List ℕ) (c : Card) → Prefixes cs ls → Prefixes (cs ++ c ∷ []) ls
closed cs ls c h = subst (Prefixes (cs ++ c ∷ [])) (append-nil ls) (joined cs (c ∷ []) ls [] h (one_more c [] [] none))

module _ (told : ℕ → Bool) where
  mutual
    stmt_loops : (n : ℕ) (s : StmtTree) → IsNumbered n s → Prefixes (cards_of told s) (walk_stmt the_loops s)
    stmt_loops n (stmt id label w) k = what_loops (n + 1) id label w k.below

    what_loops : (n id : ℕ) (label : Option ℕ) (w : WhatTree) → NumberedBelow n w → Prefixes (cards_by told id label w) (walk_what the_loops id label w)
    what_loops n id label (assign v e) k = one_more (card (parts.Stmt id) label (simple (assign v e))) [] [] none
    what_loops n id label (trees.block_if no_arms other) k = absurd k.parts
    what_loops n id label (trees.block_if (more_arms (arm test body) others) other) k =
        let end = else_cards told id other ++ card (parts.Close id) None (if_end (told id)) ∷ [] in
        let last = closed (else_cards told id other) (walk_else the_loops other) (card (parts.Close id) None (if_end (told id))) (else_loops (last_arms n (more_arms (arm test body) others)) id other k.last) in
        let behind = parts_loops (last_in n body) id 1 others end (walk_else the_loops other) k.parts.parts last in
        let whole = joined (cards_in told body) (part_cards told id 1 others end) (walk_list the_loops body) (walk_arms the_loops others ++ walk_else the_loops other) (list_loops n body k.parts.below) behind in
        one_more (card (parts.Stmt id) label (if_head (told id) test)) (cards_in told body ++ part_cards told id 1 others end) ((walk_list the_loops body ++ walk_arms the_loops others) ++ walk_else the_loops other)
        (subst (Prefixes (cards_in told body ++ part_cards told id 1 others end)) (sym (append_assoc (walk_list the_loops body) (walk_arms the_loops others) (walk_else the_loops other))) whole)
    what_loops n id label (trees.logical_if e s) k = one_more (within id label e s) [] [] none
    what_loops n id label (do_loop l) k = a_loop id label (head_of l) (body_cards told id l) (walk_body the_loops l) (body_loops n id l k)
    what_loops n id label (call c es) k = one_more (card (parts.Stmt id) label (simple (call c es))) [] [] none
    what_loops n id label (goto l) k = one_more (card (parts.Stmt id) label (simple (goto l))) [] [] none
    what_loops n id label continue k = one_more (card (parts.Stmt id) label (simple continue)) [] [] none
    what_loops n id label return k = one_more (card (parts.Stmt id) label (simple return)) [] [] none
    what_loops n id label (stop t) k = one_more (card (parts.Stmt id) label (simple (stop t))) [] [] none
    what_loops n id label (print es) k = one_more (card (parts.Stmt id) label (simple (print es))) [] [] none
    what_loops n id label (read es) k = one_more (card (parts.Stmt id) label (simple (read es))) [] [] none

    body_loops : (n id : ℕ) (l : LoopTree) → NumberedBelow n (do_loop l) → Prefixes (body_cards told id l) (walk_body the_loops l)
    body_loops n id (loop index first last step body) k = closed (cards_in told body) (walk_list the_loops body) (card (parts.Close id) None end_do) (list_loops n body k)

    parts_loops : (n id place : ℕ) (arms : ArmTrees) (end : List Card) (ls : List ℕ) → NumberedArms n arms → Prefixes end ls → Prefixes (part_cards told id place arms end) (walk_arms the_loops arms ++ ls)
    parts_loops n id place no_arms end ls k h = h
    parts_loops n id place (more_arms (arm test body) others) end ls k h =
        let behind = parts_loops (last_in n body) id (place + 1) others end ls k.parts h in
        let whole = joined (cards_in told body) (part_cards told id (place + 1) others end) (walk_list the_loops body) (walk_arms the_loops others ++ ls) (list_loops n body k.below) behind in
        one_more (card (parts.ElseIf id place) None (else_if test)) (cards_in told body ++ part_cards told id (place + 1) others end) ((walk_list the_loops body ++ walk_arms the_loops others) ++ ls)
        (subst (Prefixes (cards_in told body ++ part_cards told id (place + 1) others end)) (sym (append_assoc (walk_list the_loops body) (walk_arms the_loops others) ls)) whole)

    else_loops : (n id : ℕ) (e : ElseTree) → NumberedElse n e → Prefixes (else_cards told id e) (walk_else the_loops e)
    else_loops n id no_else k = none
    else_loops n id (otherwise body) k = one_more (card (parts.Else id) None else_part) (cards_in told body) (walk_list the_loops body) (list_loops n body k)

    list_loops : (n : ℕ) (ss : StmtTrees) → AreNumbered n ss → Prefixes (cards_in told ss) (walk_list the_loops ss)
    list_loops n no_stmts k = none
    list_loops n (more_stmts s others) k =
        joined (cards_of told s) (cards_in told others) (walk_stmt the_loops s) (walk_list the_loops others) (stmt_loops n s k.first) (list_loops (last_of n s) others k.behind)

  pub body_have_loops : (body : StmtTrees) (rest : List Card) → AreNumbered 0 body → HaveLoops rest [] → HaveLoops (cards_in told body ++ rest) (loops_in body)
  body_have_loops body rest k h = subst (HaveLoops (cards_in told body ++ rest)) (append-nil (loops_in body)) (list_loops 0 body k rest [] h)

-- ---- their numbers go up

abbrev pub IsNext : ℕ → Part → Type 0
IsNext k (parts.Stmt i) = k < i
IsNext k parts.Title = Unit {0}
IsNext k (parts.Decl i) = Unit {0}
IsNext k (parts.ElseIf i j) = Unit {0}
IsNext k (parts.Else i) = Unit {0}
IsNext k (parts.Close i) = Unit {0}
IsNext k parts.End = Unit {0}

abbrev pub number_behind : ℕ → Part → ℕ
number_behind k (parts.Stmt i) = i
number_behind k parts.Title = k
number_behind k (parts.Decl i) = k
number_behind k (parts.ElseIf i j) = k
number_behind k (parts.Else i) = k
number_behind k (parts.Close i) = k
number_behind k parts.End = k

-- from the numbers behind this one on
abbrev pub Ascend : ℕ → List Card → Type 0
Ascend k [] = Unit {0}
Ascend k (c ∷ cs) = IsNext k c.part × Ascend (number_behind k c.part) cs

weaker_at : (part : Part) (j k : ℕ) (cs : List Card) → j ≤ k → (Ascend k cs → Ascend j cs) → IsNext k part × Ascend (number_behind k part) cs → IsNext j part × Ascend (number_behind j part) cs
weaker_at (parts.Stmt i) j k cs l f h = let m = h.0 in (omega (arith, l, m), h.1)
weaker_at parts.Title j k cs l f h = (tt, f h.1)
weaker_at (parts.Decl i) j k cs l f h = (tt, f h.1)
weaker_at (parts.ElseIf i p) j k cs l f h = (tt, f h.1)
weaker_at (parts.Else i) j k cs l f h = (tt, f h.1)
weaker_at (parts.Close i) j k cs l f h = (tt, f h.1)
weaker_at parts.End j k cs l f h = (tt, f h.1)

pub weaker : (cs : List Card) (j k : ℕ) → j ≤ k → Ascend k cs → Ascend j cs
weaker [] j k l h = tt
weaker (c ∷ cs) j k l h = weaker_at c.part j k cs l (weaker cs j k l) h

-- from statements behind the second number to statements behind the first
abbrev Rises : ℕ → ℕ → List Card → Type 0
Rises j k cs = (rest : List Card) → Ascend k rest → Ascend j (cs ++ rest)

chained : (i j k : ℕ) (xs ys : List Card) → Rises i j xs → Rises j k ys → Rises i k (xs ++ ys)
chained i j k xs ys f g rest h = subst (Ascend i) (sym (append_assoc xs ys rest)) (f (ys ++ rest) (g rest h))

still : (k : ℕ) → Rises k k []
still k rest h = h

-- a part that is no statement of its own
passes : (j k : ℕ) (c : Card) (cs : List Card) → IsNext j c.part → number_behind j c.part ≡ j → Rises j k cs → Rises j k (c ∷ cs)
passes j k c cs e n f rest h = (e, subst (λ (m : ℕ). Ascend m (cs ++ rest)) (sym n) (f rest h))

-- a statement of its own
counts : (n id k : ℕ) (label : Option ℕ) (p : PhraseTree) (cs : List Card) → id ≡ n + 1 → Rises (n + 1) k cs → Rises n k (card (parts.Stmt id) label p ∷ cs)
counts n id k label p cs e f rest h = (omega (arith, e), subst (λ (m : ℕ). Ascend m (cs ++ rest)) (sym e) (f rest h))

inner_counts : (n id : ℕ) (label : Option ℕ) (e : ExprTree) (s : StmtTree) → id ≡ n + 1 → Rises n (n + 1 + 1) (within id label e s ∷ [])
inner_counts n id label e (stmt inner own w) i rest h = (omega (arith, i), subst (λ (m : ℕ). Ascend m rest) (sym i) (weaker rest (n + 1) (n + 1 + 1) (omega arith) h))

module _ (told : ℕ → Bool) where
  mutual
    stmt_rises : (n : ℕ) (s : StmtTree) → IsNumbered n s → Rises n (last_of n s) (cards_of told s)
    stmt_rises n (stmt id label w) k = what_rises n id label w k.number k.below

    what_rises : (n id : ℕ) (label : Option ℕ) (w : WhatTree) → id ≡ n + 1 → NumberedBelow (n + 1) w → Rises n (last_by (n + 1) w) (cards_by told id label w)
    what_rises n id label (assign v e) i k = counts n id (n + 1) label (simple (assign v e)) [] i (still (n + 1))
    what_rises n id label (trees.block_if no_arms other) i k = absurd k.parts
    what_rises n id label (trees.block_if (more_arms (arm test body) others) other) i k =
        let end = else_cards told id other ++ card (parts.Close id) None (if_end (told id)) ∷ [] in
        let a = last_in (n + 1) body in
        let b = last_arms a others in
        let c = last_else b other in
        let last = chained b c c (else_cards told id other) (card (parts.Close id) None (if_end (told id)) ∷ []) (else_rises b id other k.last) (passes c c (card (parts.Close id) None (if_end (told id))) [] tt refl (still c)) in
        counts n id c label (if_head (told id) test) (cards_in told body ++ part_cards told id 1 others end) i
        (chained (n + 1) a c (cards_in told body) (part_cards told id 1 others end) (list_rises (n + 1) body k.parts.below) (parts_rise a c id 1 others end k.parts.parts last))
    what_rises n id label (trees.logical_if e s) i k = inner_counts n id label e s i
    what_rises n id label (do_loop l) i k = counts n id (last_body (n + 1) l) label (head_of l) (body_cards told id l) i (body_rises (n + 1) id l k)
    what_rises n id label (call c es) i k = counts n id (n + 1) label (simple (call c es)) [] i (still (n + 1))
    what_rises n id label (goto l) i k = counts n id (n + 1) label (simple (goto l)) [] i (still (n + 1))
    what_rises n id label continue i k = counts n id (n + 1) label (simple continue) [] i (still (n + 1))
    what_rises n id label return i k = counts n id (n + 1) label (simple return) [] i (still (n + 1))
    what_rises n id label (stop t) i k = counts n id (n + 1) label (simple (stop t)) [] i (still (n + 1))
    what_rises n id label (print es) i k = counts n id (n + 1) label (simple (print es)) [] i (still (n + 1))
    what_rises n id label (read es) i k = counts n id (n + 1) label (simple (read es)) [] i (still (n + 1))

    body_rises : (n id : ℕ) (l : LoopTree) → NumberedBelow n (do_loop l) → Rises n (last_body n l) (body_cards told id l)
    body_rises n id (loop index first last step body) k =
        let m = last_in n body in
        chained n m m (cards_in told body) (card (parts.Close id) None end_do ∷ []) (list_rises n body k) (passes m m (card (parts.Close id) None end_do) [] tt refl (still m))

    parts_rise : (n k id place : ℕ) (arms : ArmTrees) (end : List Card) → NumberedArms n arms → Rises (last_arms n arms) k end → Rises n k (part_cards told id place arms end)
    parts_rise n k id place no_arms end h f = f
    parts_rise n k id place (more_arms (arm test body) others) end h f =
        let m = last_in n body in
        passes n k (card (parts.ElseIf id place) None (else_if test)) (cards_in told body ++ part_cards told id (place + 1) others end) tt refl
        (chained n m k (cards_in told body) (part_cards told id (place + 1) others end) (list_rises n body h.below) (parts_rise m k id (place + 1) others end h.parts f))

    else_rises : (n id : ℕ) (e : ElseTree) → NumberedElse n e → Rises n (last_else n e) (else_cards told id e)
    else_rises n id no_else k = still n
    else_rises n id (otherwise body) k = passes n (last_in n body) (card (parts.Else id) None else_part) (cards_in told body) tt refl (list_rises n body k)

    list_rises : (n : ℕ) (ss : StmtTrees) → AreNumbered n ss → Rises n (last_in n ss) (cards_in told ss)
    list_rises n no_stmts k = still n
    list_rises n (more_stmts s others) k =
        chained n (last_of n s) (last_in (last_of n s) others) (cards_of told s) (cards_in told others) (stmt_rises n s k.first) (list_rises (last_of n s) others k.behind)

  pub body_rises_on : (body : StmtTrees) (rest : List Card) → AreNumbered 0 body → Ascend (last_in 0 body) rest → Ascend 0 (cards_in told body ++ rest)
  body_rises_on body rest k h = list_rises 0 body k rest h
