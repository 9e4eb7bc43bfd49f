-- The text of statements, card by card: of an elaborated tree the cards are those of the statements as they are written.
use Rattle.std.proofs.Common.{◌≡◌, ℕ, ◌+◌, ◌≤◌, List, [], ◌∷◌, ◌++◌, Bool, true, false, nat_eq, refl, sym, ap, ◌∙◌, subst, arith, append_assoc}
use Rattle.std.specs.Prelude.{Option, Some, None, codes, if◌then◌else◌}
use Rattle.std.proofs.lemmas.Bool.Decides.{nat_tests}
use Rattle.f77_ast.specs.declared.places.Part.{Part}
use Rattle.f77_ast.specs.declared.places.Part.TheVariants as parts
use Rattle.f77_ast.specs.Trees.{ExprTree, ExprTrees, StmtTree, stmt, WhatTree, assign, block_if, do_loop, call, goto, continue, return, stop, print, read, ArmTree, arm, ArmTrees, no_arms, more_arms, ElseTree, no_else, otherwise, LoopTree, loop, StmtTrees, no_stmts, more_stmts}
use Rattle.f77_ast.specs.Trees as trees
use Rattle.f77_ast.specs.DeclTrees.{DeclTree}
use Rattle.f77_ast.specs.Shapes.{IsLeaf}
use Rattle.f77_ast.specs.Hidden.{is_hidden, block, reference, do_while, without_last, form_of_if}
use Rattle.f77_printer.specs.ExprText.{expr_text, exprs_text}
use Rattle.f77_printer.specs.StatementText.{if_text, what_text}
use Rattle.f77_printer.specs.PageText.{PageTree, with_line, with_comments}
use Rattle.f77_printer.specs.ModuleText.{with_start, with_own, with_test, with_statement, with_below, with_last, with_end_if, with_arms, with_else, with_statements, with_close, with_decl, with_decls, else_if_text}
use Rattle.f77_statements.specs.Phrases.{simple, end_do, end_if}
use Rattle.f77_parser.specs.Elaborated.{Meant, and_last, one_arm, value_block, assigned, while_label, and_then_last, while_block, hidden_to, hidden_in, hidden_arms, elaborated_stmt, elaborated_what, elaborated_while, elaborated_arms, elaborated_else, elaborated_in}
use Rattle.roundtrip_programs.specs.ModuleTexts.Cards.{Card, card, cards_of, cards_by, part_cards, else_cards, cards_in, decl_cards}
use Rattle.roundtrip_programs.specs.ModuleTexts.Folded.{WhileFits, WhileFitsBy, WhilesFitArms, WhilesFitElse, WhilesFit}
use Rattle.roundtrip_programs.specs.ModuleTexts.Numbered.{last_of, last_by, last_in, last_arms, last_else, NumberedBelow, NumberedArms, IsNumbered, NumberedElse, AreNumbered}
use Rattle.roundtrip_programs.proofs.ModuleTexts.TreeBack.{if_cards, if-cards}
use Rattle.roundtrip_programs.proofs.ModuleTexts.FoldedLaws.{later-by, later-in, later-arms, later-else, shown, hidden, without-and, arms-block, elaborated-first, arms-shown}
use Rattle.roundtrip_programs.proofs.ModuleTexts.PageSteps.{with_cards, with_cards-append}

later : (place : ℕ) → nat_eq (place + 1) 0 ≡ false
later place = grind (arith, nat_tests)

tested : (id place : ℕ) (t : ExprTree) (p : PageTree) (b : Bool) → nat_eq place 0 ≡ b → b ≡ false
    → with_test id place t p ≡ with_line None (else_if_text t) (with_comments (parts.ElseIf id place) p)
tested id place t p b h e = ap (λ x. if x then p else with_line None (else_if_text t) (with_comments (parts.ElseIf id place) p)) (h ∙ e)

chosen : (b : Bool) (x y : PageTree) → b ≡ true → (if b then x else y) ≡ x
chosen b x y e = ap (λ c. if c then x else y) e

left : (b : Bool) (x y : PageTree) → b ≡ false → (if b then x else y) ≡ y
left b x y e = ap (λ c. if c then x else y) e

hidden-second : (h : ℕ) → is_hidden (4098 + h) ≡ true
hidden-second h = grind (arith, nat_tests)

hidden-third : (h : ℕ) → is_hidden (4099 + h) ≡ true
hidden-third h = grind (arith, nat_tests)

-- ---- an assignment of the value of a function

abbrev three : Meant → ℕ → ExprTree → List ℕ → ExprTrees → StmtTrees
three m h v f es =
    more_stmts (stmt (4097 + h) None (assign (trees.name f) (m.start f)))
    (more_stmts (stmt (4098 + h) None (call f (and_last es (trees.name f)))) (more_stmts (stmt (4099 + h) None (assign v (trees.name f))) no_stmts))

value-form : (m : Meant) (h : ℕ) (v : ExprTree) (f : List ℕ) (es : ExprTrees) → form_of_if (more_arms (arm (trees.log true) (three m h v f es)) no_arms) no_else ≡ reference v f es
value-form m h v f es =
    ap (λ c. if c then reference v f (without_last (and_last es (trees.name f))) else block) (hidden h) ∙ ap (reference v f) (without-and es (trees.name f))

reference-text : (v : ExprTree) (f : List ℕ) (es : ExprTrees) → expr_text v ++ codes " = " ++ f ++ codes "(" ++ exprs_text es ++ codes ")" ≡ what_text (assign v (trees.element f es))
reference-text v f es = simp append_assoc refl

value-text : (m : Meant) (h : ℕ) (v : ExprTree) (f : List ℕ) (es : ExprTrees) → what_text (value_block m h v f es) ≡ what_text (assign v (trees.element f es))
value-text m h v f es = ap (λ x. if_text x (more_arms (arm (trees.log true) (three m h v f es)) no_arms)) (value-form m h v f es) ∙ reference-text v f es

assigned-text : (m : Meant) (h : ℕ) (v e : ExprTree) → what_text (assigned m h v e) ≡ what_text (assign v e)
assigned-text m h v (trees.element f es) = go (m.is_function f)
  where
    go : (c : Bool) → what_text (if c then value_block m h v f es else assign v (trees.element f es)) ≡ what_text (assign v (trees.element f es))
    go true = value-text m h v f es
    go false = refl
assigned-text m h v e = refl

-- the statement inside a logical IF
leaf-text : (m : Meant) (h n : ℕ) (w : WhatTree) → IsLeaf w → what_text (elaborated_what m h n w) ≡ what_text w
leaf-text m h n (assign v e) l = assigned-text m h v e
leaf-text m h n (block_if arms other) l = cc
leaf-text m h n (trees.logical_if e s) l = cc
leaf-text m h n (do_loop x) l = cc
leaf-text m h n (call c es) l = refl
leaf-text m h n (goto t) l = refl
leaf-text m h n continue l = refl
leaf-text m h n return l = refl
leaf-text m h n (stop t) l = refl
leaf-text m h n (print es) l = refl
leaf-text m h n (read es) l = refl

module _ (added : Part → List ℕ) (m : Meant) where
  -- hidden statements have no lines
  three-page : (h : ℕ) (v : ExprTree) (f : List ℕ) (es : ExprTrees) (q : PageTree) → with_statements added (three m h v f es) q ≡ q
  three-page h v f es q =
      let b = stmt (4098 + h) None (call f (and_last es (trees.name f))) in
      let c = stmt (4099 + h) None (assign v (trees.name f)) in
      ap (λ x. with_statement added c (with_statement added b x)) (chosen (is_hidden (4097 + h)) q _ (hidden h))
      ∙ ap (λ x. with_statement added c x) (chosen (is_hidden (4098 + h)) q _ (hidden-second h))
      ∙ chosen (is_hidden (4099 + h)) q _ (hidden-third h)

  -- a statement that is not hidden, with its lines
  abbrev Lines : ℕ → Option ℕ → WhatTree → PageTree → PageTree
  Lines id label w p = with_last id w (with_below added id w (with_own added id label w p))

  value-page : (h id : ℕ) (label : Option ℕ) (v : ExprTree) (f : List ℕ) (es : ExprTrees) (p : PageTree)
      → Lines id label (value_block m h v f es) p ≡ with_cards added (card (parts.Stmt id) label (simple (assign v (trees.element f es))) ∷ []) p
  value-page h id label v f es p =
      let q = with_start added (parts.Stmt id) p in
      let body = three m h v f es in
      let arms = more_arms (arm (trees.log true) body) no_arms in
      ap (λ x. with_end_if id x (with_statements added body (with_line label (if_text x arms) q))) (value-form m h v f es)
      ∙ three-page h v f es (with_line label (if_text (reference v f es) arms) q)
      ∙ ap (λ t. with_line label t q) (reference-text v f es)

  assigned-page : (h id : ℕ) (label : Option ℕ) (v e : ExprTree) (p : PageTree) → Lines id label (assigned m h v e) p ≡ with_cards added (card (parts.Stmt id) label (simple (assign v e)) ∷ []) p
  assigned-page h id label v (trees.element f es) p = go (m.is_function f)
    where
      go : (c : Bool) → Lines id label (if c then value_block m h v f es else assign v (trees.element f es)) p ≡ with_cards added (card (parts.Stmt id) label (simple (assign v (trees.element f es))) ∷ []) p
      go true = value-page h id label v f es p
      go false = refl
  assigned-page h id label v e p = refl

  -- ---- a DO WHILE

  -- behind its statements a GO TO without a line
  last-page : (list : StmtTrees) (k t : ℕ) (q : PageTree) → with_statements added (and_then_last list (stmt (4097 + k) None (goto t))) q ≡ with_statements added list q
  last-page no_stmts k t q = chosen (is_hidden (4097 + k)) q _ (hidden k)
  last-page (more_stmts s ss) k t q = last-page ss k t (with_statement added s q)

  while-page : (n h k : ℕ) (label : Option ℕ) (test : ExprTree) (list : StmtTrees) (p : PageTree)
      → Lines n label (while_block n h k test list) p
      ≡ with_close n (codes "END DO") (with_statements added list (with_line label (codes "DO WHILE (" ++ expr_text test ++ codes ")") (with_start added (parts.Stmt n) p)))
  while-page n h k label test list p =
      let q = with_start added (parts.Stmt n) p in
      let all = and_then_last list (stmt (4097 + k) None (goto (while_label n))) in
      let inner = stmt (4097 + h) (Some (while_label n)) (one_arm test all) in
      let arms = more_arms (arm (trees.log true) (more_stmts inner no_stmts)) no_arms in
      let r = with_line label (codes "DO WHILE (" ++ expr_text test ++ codes ")") q in
      ap (λ c. let x = (if c then do_while (while_label n) test all else block) in with_end_if n x (with_statement added inner (with_line label (if_text x arms) q))) (hidden h)
      ∙ ap (with_close n (codes "END DO")) (chosen (is_hidden (4097 + h)) (with_statements added all r) _ (hidden h))
      ∙ ap (with_close n (codes "END DO")) (last-page list k (while_label n) r)

  -- ---- a block IF, or a DO WHILE

  block-page : (h n id : ℕ) (label : Option ℕ) (test : ExprTree) (body : StmtTrees) (others : ArmTrees) (other : ElseTree) (p : PageTree) (c : Bool)
      → NumberedBelow n (block_if (more_arms (arm test body) others) other) → last_by n (block_if (more_arms (arm test body) others) other) ≤ 4096
      → WhileFitsBy m.is_while c (block_if (more_arms (arm test body) others) other)
      → ((j : ℕ) (q : PageTree) → with_statements added (elaborated_in m j body) q ≡ with_cards added (cards_in m.is_while body) q)
      → ((j k : ℕ) (q : PageTree) → with_close id (codes "END IF") (with_else added id (elaborated_else m k other) (with_arms added id 1 (elaborated_arms m j others) q))
      ≡ with_cards added (part_cards m.is_while id 1 others (else_cards m.is_while id other ++ card (parts.Close id) None end_if ∷ [])) q)
      → (let arms = more_arms (arm test body) others in
      Lines id label (if c then elaborated_while m h id arms else block_if (elaborated_arms m h arms) (elaborated_else m (hidden_arms m h arms) other)) p
      ≡ with_cards added (if_cards m.is_while c id label test body others other) p)
  block-page h n id label test body others other p false a few t inner rest =
      let arms = more_arms (arm test body) others in
      let k = hidden_arms m h arms in
      let j = hidden_in m h body in
      let x = later-else (last_arms n arms) other in
      let q = with_start added (parts.Stmt id) p in
      let r = with_line label (codes "IF (" ++ expr_text test ++ codes ") THEN") q in
      let cs = cards_in m.is_while body in
      let ps = part_cards m.is_while id 1 others (else_cards m.is_while id other ++ card (parts.Close id) None end_if ∷ []) in
      let form = arms-block (elaborated_arms m h arms) (elaborated_else m k other) (elaborated-first m h arms (arms-shown n arms a.parts (omega (arith, x, few)))) in
      ap (λ y. with_end_if id y (with_else added id (elaborated_else m k other) (with_arms added id 0 (elaborated_arms m h arms) (with_line label (if_text y (elaborated_arms m h arms)) q)))) form
      ∙ ap (λ y. with_close id (codes "END IF") (with_else added id (elaborated_else m k other) (with_arms added id 1 (elaborated_arms m j others) y))) (inner h r)
      ∙ rest j k (with_cards added cs r)
      ∙ sym (with_cards-append added cs ps r)
  block-page h n id label test body no_arms no_else p true a few t inner rest =
      let q = with_start added (parts.Stmt id) p in
      let r = with_line label (codes "DO WHILE (" ++ expr_text test ++ codes ")") q in
      let cs = cards_in m.is_while body in
      while-page id h (hidden_in m (1 + h) body) label test (elaborated_in m (1 + h) body) p
      ∙ ap (with_close id (codes "END DO")) (inner (1 + h) r)
      ∙ sym (with_cards-append added cs (card (parts.Close id) None end_do ∷ []) r)
  block-page h n id label test body no_arms (otherwise list) p true a few t inner rest = absurd (t.alone refl)
  block-page h n id label test body (more_arms x xs) other p true a few t inner rest = absurd (t.alone refl)

  -- ---- all statements

  mutual
    stmt_page : (h n : ℕ) (s : StmtTree) (p : PageTree) → IsNumbered n s → last_of n s ≤ 4096 → WhileFits m.is_while s
        → with_statement added (elaborated_stmt m h s) p ≡ with_cards added (cards_of m.is_while s) p
    stmt_page h n (stmt id label w) p i few t =
        let x = later-by (n + 1) w in
        left (is_hidden id) _ (Lines id label (elaborated_what m h id w) p) (shown n id i.number (omega (arith, x, few)))
        ∙ what_page h (n + 1) id label w p i.below few t

    what_page : (h n id : ℕ) (label : Option ℕ) (w : WhatTree) (p : PageTree) → NumberedBelow n w → last_by n w ≤ 4096 → WhileFitsBy m.is_while (m.is_while id) w
        → Lines id label (elaborated_what m h id w) p ≡ with_cards added (cards_by m.is_while id label w) p
    what_page h n id label (assign v e) p b few t = assigned-page h id label v e p
    what_page h n id label (block_if no_arms other) p b few t = absurd b.parts
    what_page h n id label (block_if (more_arms (arm test body) others) other) p b few t =
        let x = later-else (last_arms (last_in n body) others) other in
        let y = later-arms (last_in n body) others in
        let end = else_cards m.is_while id other ++ card (parts.Close id) None end_if ∷ [] in
        let arms = more_arms (arm test body) others in
        let w = if m.is_while id then elaborated_while m h id arms else block_if (elaborated_arms m h arms) (elaborated_else m (hidden_arms m h arms) other) in
        let P : List Card → Type 0 = λ cs. Lines id label w p ≡ with_cards added cs p in
        subst P (sym (if-cards m.is_while (m.is_while id) id label test body others other refl))
        (block-page h n id label test body others other p (m.is_while id) b few t
        (λ j q. list_page j n body q b.parts.below (omega (arith, x, y, few)) t.parts.below)
        (λ j k q.
        ap (with_close id (codes "END IF")) (else_page k (last_arms (last_in n body) others) id other (with_arms added id 1 (elaborated_arms m j others) q) b.last few t.last)
        ∙ sym (with_cards-append added (else_cards m.is_while id other) (card (parts.Close id) None end_if ∷ []) (with_arms added id 1 (elaborated_arms m j others) q))
        ∙ parts_page j (last_in n body) id 1 others end q refl b.parts.parts (omega (arith, x, few)) t.parts.parts))
    what_page h n id label (trees.logical_if e (stmt inner own w)) p b few t =
        ap (λ x. with_line label (codes "IF (" ++ expr_text e ++ codes ") " ++ x) (with_comments (parts.Stmt inner) (with_start added (parts.Stmt id) p))) (leaf-text m h inner w t)
    what_page h n id label (do_loop (loop index first last step body)) p b few t =
        let q = with_line label (what_text (do_loop (loop index first last step body))) (with_start added (parts.Stmt id) p) in
        let cs = cards_in m.is_while body in
        ap (λ x. with_close id (codes "END DO") x) (list_page h n body q b few t)
        ∙ sym (with_cards-append added cs (card (parts.Close id) None end_do ∷ []) q)
    what_page h n id label (call c es) p b few t = refl
    what_page h n id label (goto g) p b few t = refl
    what_page h n id label continue p b few t = refl
    what_page h n id label return p b few t = refl
    what_page h n id label (stop g) p b few t = refl
    what_page h n id label (print es) p b few t = refl
    what_page h n id label (read es) p b few t = refl

    -- the other parts of a block IF, before what ends it
    parts_page : (h n id place : ℕ) (others : ArmTrees) (end : List Card) (p : PageTree) → nat_eq place 0 ≡ false → NumberedArms n others → last_arms n others ≤ 4096 → WhilesFitArms m.is_while others
        → with_cards added end (with_arms added id place (elaborated_arms m h others) p) ≡ with_cards added (part_cards m.is_while id place others end) p
    parts_page h n id place no_arms end p e b few t = refl
    parts_page h n id place (more_arms (arm u body) others) end p e b few t =
        let q = with_line None (else_if_text u) (with_comments (parts.ElseIf id place) p) in
        let x = later-arms (last_in n body) others in
        let cs = cards_in m.is_while body in
        let rest = elaborated_arms m (hidden_in m h body) others in
        ap (λ y. with_cards added end (with_arms added id (place + 1) rest (with_statements added (elaborated_in m h body) y))) (tested id place u p false e refl)
        ∙ ap (λ y. with_cards added end (with_arms added id (place + 1) rest y)) (list_page h n body q b.below (omega (arith, x, few)) t.below)
        ∙ parts_page (hidden_in m h body) (last_in n body) id (place + 1) others end (with_cards added cs q) (later place) b.parts few t.parts
        ∙ sym (with_cards-append added cs (part_cards m.is_while id (place + 1) others end) q)

    else_page : (h n id : ℕ) (other : ElseTree) (p : PageTree) → NumberedElse n other → last_else n other ≤ 4096 → WhilesFitElse m.is_while other
        → with_else added id (elaborated_else m h other) p ≡ with_cards added (else_cards m.is_while id other) p
    else_page h n id no_else p b few t = refl
    else_page h n id (otherwise body) p b few t = list_page h n body (with_line None (codes "ELSE") (with_comments (parts.Else id) p)) b few t

    pub list_page : (h n : ℕ) (body : StmtTrees) (p : PageTree) → AreNumbered n body → last_in n body ≤ 4096 → WhilesFit m.is_while body
        → with_statements added (elaborated_in m h body) p ≡ with_cards added (cards_in m.is_while body) p
    list_page h n no_stmts p b few t = refl
    list_page h n (more_stmts s others) p b few t =
        let x = later-in (last_of n s) others in
        let cs = cards_of m.is_while s in
        ap (with_statements added (elaborated_in m (hidden_to m h s) others)) (stmt_page h n s p b.first (omega (arith, x, few)) t.first)
        ∙ list_page (hidden_to m h s) (last_of n s) others (with_cards added cs p) b.behind few t.behind
        ∙ sym (with_cards-append added cs (cards_in m.is_while others) p)

pub decls_page : (added : Part → List ℕ) (place : ℕ) (ds : List DeclTree) (p : PageTree) → with_decls added place ds p ≡ with_cards added (decl_cards place ds) p
decls_page added place [] p = refl
decls_page added place (d ∷ ds) p = decls_page added (place + 1) ds (with_decl added place d p)
