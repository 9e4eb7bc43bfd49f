-- What is written of statements makes them again.
use Rattle.std.proofs.Common.{◌≡◌, ℕ, ◌+◌, Bool, true, false, List, [], ◌∷◌, ◌++◌, refl, sym, ap, subst, ◌∙◌, append_assoc, append-nil}
use Rattle.std.specs.Prelude.{Option, Some, None}
use Rattle.f77_ast.specs.declared.places.Part.TheVariants as parts
use Rattle.f77_ast.specs.Trees.{ExprTree, StmtTree, stmt, WhatTree, assign, do_loop, call, goto, continue, return, stop, print, read, ArmTree, arm, ArmTrees, no_arms, more_arms, ElseTree, no_else, otherwise, LoopTree, loop, StmtTrees, no_stmts, more_stmts}
use Rattle.f77_ast.specs.Trees as trees
use Rattle.f77_ast.specs.DeclTrees.{DeclTree}
use Rattle.f77_ast.specs.PlainStmt.{stmts_of, arms_of}
use Rattle.f77_statements.specs.Phrases.{simple, end_do, end_if, DoTree}
use Rattle.f77_parser.specs.declared.progress.Heading.{Heading}
use Rattle.f77_parser.specs.SoFar.{SoFar, AroundTree, OpeningTree, opening_loop, opening_while, branches, add_spot, add_executable, add_logical_if, open_block, add_while, leave_loops}
use Rattle.roundtrip_programs.specs.ModuleTexts.Cards.{Card, card, if_head, if_end, cards_of, cards_by, part_cards, else_cards, cards_in, within, while_numbers}
use Rattle.roundtrip_programs.specs.ModuleTexts.Folded.{WhileFits, WhileFitsBy, WhilesFitArms, WhilesFitElse, WhilesFit}
use Rattle.roundtrip_programs.specs.ModuleTexts.Numbered.{last_of, last_by, last_in, last_arms, last_else, IsInner, IsNumbered, NumberedBelow, NumberedArms, NumberedElse, AreNumbered}
use Rattle.roundtrip_programs.proofs.ModuleTexts.Bare.{bare, all_made, all_made-append, numbers-behind, numbers-closed}
use Rattle.roundtrip_programs.proofs.ModuleTexts.TreeLists.{list_of, arms_in, stmts_of-list_of, arms_of-arms_in}

-- what is so far, without spots
abbrev pub so : Heading → List DeclTree → ℕ → List ℕ → List StmtTree → List AroundTree → SoFar
so h ds n ws list around = record { heading = h; decls = ds; count = n; whiles = ws; spots = []; list = list; around = around }

-- no label ends a DO: the innermost has none
abbrev pub Keeps : List AroundTree → Type 0
Keeps a = (l : ℕ) (p : SoFar) → leave_loops l a p ≡ p

-- an open block
abbrev pub block : ℕ → Option ℕ → List StmtTree → OpeningTree → AroundTree
block id label before opening = record { id = id; label = label; before = before; opening = opening }

-- what ends a block IF, whatever parts are done and open
abbrev Ends : Heading → List DeclTree → ℕ → List AroundTree → ℕ → Option ℕ → List StmtTree → List Card → ℕ → ElseTree → Type 0
Ends h ds n a own label before end N other = (ws : List ℕ) (l : List StmtTree) (done : List ArmTree) (test : ExprTree)
    → all_made end (so h ds n ws l (block own label before (branches done (Some test)) ∷ a))
    ≡ so h ds N (ws ++ while_numbers end) (before ++ stmt own label (trees.block_if (arms_of (done ++ arm test (stmts_of l) ∷ [])) other) ∷ []) a

-- ---- statements without statements

simply : (h : Heading) (ds : List DeclTree) (n : ℕ) (ws : List ℕ) (l : List StmtTree) (a : List AroundTree) (id : ℕ) (label : Option ℕ) (w : WhatTree)
    → Keeps a → id ≡ n + 1 → all_made (card (parts.Stmt id) label (simple w) ∷ []) (so h ds n ws l a) ≡ so h ds (n + 1) (ws ++ []) (l ++ stmt id label w ∷ []) a
unfolding add_spot add_executable
simply h ds n ws l a id None w k i = ap (λ x. so h ds (n + 1) x (l ++ stmt (n + 1) None w ∷ []) a) (sym (append-nil ws)) ∙ ap (λ x. so h ds (n + 1) (ws ++ []) (l ++ stmt x None w ∷ []) a) (sym i)
simply h ds n ws l a id (Some m) w k i =
    ap bare (k m (add_executable 0 (Some m) [] w (so h ds n ws l a)))
    ∙ ap (λ x. so h ds (n + 1) x (l ++ stmt (n + 1) (Some m) w ∷ []) a) (sym (append-nil ws))
    ∙ ap (λ x. so h ds (n + 1) (ws ++ []) (l ++ stmt x (Some m) w ∷ []) a) (sym i)

conditioned-made : (h : Heading) (ds : List DeclTree) (n : ℕ) (ws : List ℕ) (l : List StmtTree) (a : List AroundTree) (id : ℕ) (label : Option ℕ) (e : ExprTree) (s : StmtTree)
    → Keeps a → id ≡ n + 1 → IsInner (n + 1) s → all_made (within id label e s ∷ []) (so h ds n ws l a)
    ≡ so h ds (n + 1 + 1) (ws ++ while_numbers (within id label e s ∷ [])) (l ++ stmt id label (trees.logical_if e s) ∷ []) a
unfolding add_spot add_logical_if
conditioned-made h ds n ws l a id None e (stmt inner lab w) k i b =
    ap (λ x. so h ds (n + 1 + 1) x (l ++ stmt (n + 1) None (trees.logical_if e (stmt (n + 1 + 1) None w)) ∷ []) a) (sym (append-nil ws))
    ∙ ap (λ x. so h ds (n + 1 + 1) (ws ++ []) (l ++ stmt x None (trees.logical_if e (stmt (n + 1 + 1) None w)) ∷ []) a) (sym i)
    ∙ ap (λ x. so h ds (n + 1 + 1) (ws ++ []) (l ++ stmt id None (trees.logical_if e (stmt x None w)) ∷ []) a) (sym b.number)
    ∙ ap (λ x. so h ds (n + 1 + 1) (ws ++ []) (l ++ stmt id None (trees.logical_if e (stmt inner x w)) ∷ []) a) (sym b.bare)
conditioned-made h ds n ws l a id (Some m) e (stmt inner lab w) k i b =
    ap bare (k m (add_logical_if 0 (Some m) [] e w (so h ds n ws l a)))
    ∙ ap (λ x. so h ds (n + 1 + 1) x (l ++ stmt (n + 1) (Some m) (trees.logical_if e (stmt (n + 1 + 1) None w)) ∷ []) a) (sym (append-nil ws))
    ∙ ap (λ x. so h ds (n + 1 + 1) (ws ++ []) (l ++ stmt x (Some m) (trees.logical_if e (stmt (n + 1 + 1) None w)) ∷ []) a) (sym i)
    ∙ ap (λ x. so h ds (n + 1 + 1) (ws ++ []) (l ++ stmt id (Some m) (trees.logical_if e (stmt x None w)) ∷ []) a) (sym b.number)
    ∙ ap (λ x. so h ds (n + 1 + 1) (ws ++ []) (l ++ stmt id (Some m) (trees.logical_if e (stmt inner x w)) ∷ []) a) (sym b.bare)

-- ---- statements with statements in them

-- the statements that are written of a block IF, or of a DO WHILE
abbrev pub if_cards : (ℕ → Bool) → Bool → ℕ → Option ℕ → ExprTree → StmtTrees → ArmTrees → ElseTree → List Card
if_cards f c id label test body others other =
    card (parts.Stmt id) label (if_head c test) ∷ (cards_in f body ++ part_cards f id 1 others (else_cards f id other ++ card (parts.Close id) None (if_end c) ∷ []))

pub if-cards : (f : ℕ → Bool) (c : Bool) (id : ℕ) (label : Option ℕ) (test : ExprTree) (body : StmtTrees) (others : ArmTrees) (other : ElseTree) → f id ≡ c
    → cards_by f id label (trees.block_if (more_arms (arm test body) others) other) ≡ if_cards f c id label test body others other
if-cards f c id label test body others other e = ap (λ x. if_cards f x id label test body others other) e

-- these cards make this statement
abbrev Back : Heading → List DeclTree → ℕ → List ℕ → List StmtTree → List AroundTree → ℕ → StmtTree → List Card → Type 0
Back h ds n ws l a N s cs = all_made cs (so h ds n ws l a) ≡ so h ds N (ws ++ while_numbers cs) (l ++ s ∷ []) a

-- the statements in its first part, and the parts behind that with what ends it
abbrev InnerBack : (ℕ → Bool) → Heading → List DeclTree → ℕ → List StmtTree → List AroundTree → Option ℕ → StmtTrees → Type 0
InnerBack f h ds n l a label body = (vs : List ℕ) (o : OpeningTree) → Keeps (block (n + 1) label l o ∷ a)
    → all_made (cards_in f body) (so h ds (n + 1) vs [] (block (n + 1) label l o ∷ a))
    ≡ so h ds (last_in (n + 1) body) (vs ++ while_numbers (cards_in f body)) (list_of body) (block (n + 1) label l o ∷ a)

abbrev OthersBack : (ℕ → Bool) → Heading → List DeclTree → ℕ → List StmtTree → List AroundTree → ℕ → Option ℕ → ExprTree → StmtTrees → ArmTrees → ElseTree → Type 0
OthersBack f h ds n l a id label test body others other =
    let ps = part_cards f id 1 others (else_cards f id other ++ card (parts.Close id) None end_if ∷ []) in
    (vs : List ℕ) → all_made ps (so h ds (last_in (n + 1) body) vs (list_of body) (block (n + 1) label l (branches [] (Some test)) ∷ a))
    ≡ so h ds (last_else (last_arms (last_in (n + 1) body) others) other) (vs ++ while_numbers ps)
    (l ++ stmt (n + 1) label (trees.block_if (arms_of ([] ++ arm test (stmts_of (list_of body)) ∷ arms_in others)) other) ∷ []) a

-- a block IF, or a DO WHILE
block_back : (f : ℕ → Bool) (c : Bool) (h : Heading) (ds : List DeclTree) (n : ℕ) (ws : List ℕ) (l : List StmtTree) (a : List AroundTree) (id : ℕ) (label : Option ℕ)
    (test : ExprTree) (body : StmtTrees) (others : ArmTrees) (other : ElseTree) → id ≡ n + 1 → WhileFitsBy f c (trees.block_if (more_arms (arm test body) others) other)
    → InnerBack f h ds n l a label body → OthersBack f h ds n l a id label test body others other
    → Back h ds n ws l a (last_by (n + 1) (trees.block_if (more_arms (arm test body) others) other)) (stmt id label (trees.block_if (more_arms (arm test body) others) other))
    (if_cards f c id label test body others other)
unfolding add_spot open_block add_while
block_back f false h ds n ws l a id label test body others other i t inner rest =
    let A = block (n + 1) label l (branches [] (Some test)) in
    let end = else_cards f id other ++ card (parts.Close id) None end_if ∷ [] in
    let cs = cards_in f body in
    let ps = part_cards f id 1 others end in
    let N = last_else (last_arms (last_in (n + 1) body) others) other in
    all_made-append cs ps (so h ds (n + 1) ws [] (A ∷ a))
    ∙ ap (all_made ps) (inner ws (branches [] (Some test)) (λ x p. refl))
    ∙ rest (ws ++ while_numbers cs)
    ∙ ap (λ x. so h ds N x (l ++ stmt (n + 1) label (trees.block_if (more_arms (arm test (stmts_of (list_of body))) (arms_of (arms_in others))) other) ∷ []) a) (numbers-behind ws cs ps)
    ∙ ap (λ x. so h ds N (ws ++ while_numbers (cs ++ ps)) (l ++ stmt (n + 1) label (trees.block_if (more_arms (arm test x) (arms_of (arms_in others))) other) ∷ []) a) (stmts_of-list_of body)
    ∙ ap (λ x. so h ds N (ws ++ while_numbers (cs ++ ps)) (l ++ stmt (n + 1) label (trees.block_if (more_arms (arm test body) x) other) ∷ []) a) (arms_of-arms_in others)
    ∙ ap (λ x. so h ds N (ws ++ while_numbers (cs ++ ps)) (l ++ stmt x label (trees.block_if (more_arms (arm test body) others) other) ∷ []) a) (sym i)
block_back f true h ds n ws l a id label test body no_arms no_else i t inner rest =
    let A = block (n + 1) label l (opening_while None test) in
    let cs = cards_in f body in
    let end = card (parts.Close id) None end_do ∷ [] in
    let N = last_in (n + 1) body in
    let own = ws ++ (n + 1) ∷ [] in
    all_made-append cs end (so h ds (n + 1) own [] (A ∷ a))
    ∙ ap (all_made end) (inner own (opening_while None test) (λ x p. refl))
    ∙ ap (λ x. so h ds N (own ++ while_numbers cs) (l ++ stmt (n + 1) label (trees.block_if (more_arms (arm test x) no_arms) no_else) ∷ []) a) (stmts_of-list_of body)
    ∙ ap (λ x. so h ds N x (l ++ stmt (n + 1) label (trees.block_if (more_arms (arm test body) no_arms) no_else) ∷ []) a) (numbers-closed own cs id end_do ∙ append_assoc ws ((n + 1) ∷ []) (while_numbers (cs ++ end)))
    ∙ ap (λ x. so h ds N (ws ++ (x ∷ [] ++ while_numbers (cs ++ end))) (l ++ stmt x label (trees.block_if (more_arms (arm test body) no_arms) no_else) ∷ []) a) (sym i)
block_back f true h ds n ws l a id label test body no_arms (otherwise list) i t inner rest = absurd (t.alone refl)
block_back f true h ds n ws l a id label test body (more_arms x xs) other i t inner rest = absurd (t.alone refl)

mutual
  unfolding add_spot open_block add_while

  pub stmt_back : (f : ℕ → Bool) (h : Heading) (ds : List DeclTree) (n : ℕ) (ws : List ℕ) (l : List StmtTree) (a : List AroundTree) (s : StmtTree)
      → Keeps a → IsNumbered n s → WhileFits f s → all_made (cards_of f s) (so h ds n ws l a) ≡ so h ds (last_of n s) (ws ++ while_numbers (cards_of f s)) (l ++ s ∷ []) a
  stmt_back f h ds n ws l a (stmt id label w) k i t = what_back f h ds n ws l a id label w k i.number i.below t

  what_back : (f : ℕ → Bool) (h : Heading) (ds : List DeclTree) (n : ℕ) (ws : List ℕ) (l : List StmtTree) (a : List AroundTree) (id : ℕ) (label : Option ℕ) (w : WhatTree)
      → Keeps a → id ≡ n + 1 → NumberedBelow (n + 1) w → WhileFitsBy f (f id) w
      → all_made (cards_by f id label w) (so h ds n ws l a) ≡ so h ds (last_by (n + 1) w) (ws ++ while_numbers (cards_by f id label w)) (l ++ stmt id label w ∷ []) a
  what_back f h ds n ws l a id label (assign v e) k i b t = simply h ds n ws l a id label (assign v e) k i
  what_back f h ds n ws l a id label (trees.block_if no_arms other) k i b t = absurd b.parts
  what_back f h ds n ws l a id label (trees.block_if (more_arms (arm test body) others) other) k i b t =
      let w = trees.block_if (more_arms (arm test body) others) other in
      let P : List Card → Type 0 = λ cs. Back h ds n ws l a (last_by (n + 1) w) (stmt id label w) cs in
      let end = else_cards f id other ++ card (parts.Close id) None end_if ∷ [] in
      let N = last_else (last_arms (last_in (n + 1) body) others) other in
      subst P (sym (if-cards f (f id) id label test body others other refl)) (block_back f (f id) h ds n ws l a id label test body others other i t
      (λ vs o e. list_back f h ds (n + 1) vs [] (block (n + 1) label l o ∷ a) body e b.parts.below t.parts.below)
      (λ vs. parts_back f h ds (last_in (n + 1) body) vs (list_of body) a id (n + 1) label l [] test 1 others end N other b.parts.parts t.parts.parts
      (λ ws' l' done g. else_back f h ds (last_arms (last_in (n + 1) body) others) ws' l' a id (n + 1) label l done g other b.last t.last)))
  what_back f h ds n ws l a id label (trees.logical_if e s) k i b t = conditioned-made h ds n ws l a id label e s k i b
  what_back f h ds n ws l a id label (do_loop (loop index first last step body)) k i b t =
      let D : DoTree = record { label = None; index = index; first = first; last = last; step = step } in
      let A = block (n + 1) label l (opening_loop D) in
      let N = last_in (n + 1) body in
      let cs = cards_in f body in
      all_made-append cs (card (parts.Close id) None end_do ∷ []) (so h ds (n + 1) ws [] (A ∷ a))
      ∙ ap (all_made (card (parts.Close id) None end_do ∷ [])) (list_back f h ds (n + 1) ws [] (A ∷ a) body (λ x p. refl) b t)
      ∙ ap (λ x. so h ds N (ws ++ while_numbers cs) (l ++ stmt (n + 1) label (do_loop (loop index first last step x)) ∷ []) a) (stmts_of-list_of body)
      ∙ ap (λ x. so h ds N x (l ++ stmt (n + 1) label (do_loop (loop index first last step body)) ∷ []) a) (numbers-closed ws cs id end_do)
      ∙ ap (λ x. so h ds N (ws ++ while_numbers (cs ++ card (parts.Close id) None end_do ∷ [])) (l ++ stmt x label (do_loop (loop index first last step body)) ∷ []) a) (sym i)
  what_back f h ds n ws l a id label (call c es) k i b t = simply h ds n ws l a id label (call c es) k i
  what_back f h ds n ws l a id label (goto g) k i b t = simply h ds n ws l a id label (goto g) k i
  what_back f h ds n ws l a id label continue k i b t = simply h ds n ws l a id label continue k i
  what_back f h ds n ws l a id label return k i b t = simply h ds n ws l a id label return k i
  what_back f h ds n ws l a id label (stop g) k i b t = simply h ds n ws l a id label (stop g) k i
  what_back f h ds n ws l a id label (print es) k i b t = simply h ds n ws l a id label (print es) k i
  what_back f h ds n ws l a id label (read es) k i b t = simply h ds n ws l a id label (read es) k i

  -- the other parts of a block IF, where these are done and this is the test of the open one, and what ends it
  parts_back : (f : ℕ → Bool) (h : Heading) (ds : List DeclTree) (n : ℕ) (ws : List ℕ) (l : List StmtTree) (a : List AroundTree) (id own : ℕ) (label : Option ℕ) (before : List StmtTree)
      (done : List ArmTree) (test : ExprTree) (place : ℕ) (others : ArmTrees) (end : List Card) (N : ℕ) (other : ElseTree) → NumberedArms n others → WhilesFitArms f others
      → Ends h ds (last_arms n others) a own label before end N other
      → all_made (part_cards f id place others end) (so h ds n ws l (block own label before (branches done (Some test)) ∷ a))
      ≡ so h ds N (ws ++ while_numbers (part_cards f id place others end)) (before ++ stmt own label (trees.block_if (arms_of (done ++ arm test (stmts_of l) ∷ arms_in others)) other) ∷ []) a
  parts_back f h ds n ws l a id own label before done test place no_arms end N other b t e = e ws l done test
  parts_back f h ds n ws l a id own label before done test place (more_arms (arm u body) others) end N other b t e =
      let now = done ++ arm test (stmts_of l) ∷ [] in
      let A = block own label before (branches now (Some u)) in
      let cs = cards_in f body in
      let ps = part_cards f id (place + 1) others end in
      all_made-append cs ps (so h ds n ws [] (A ∷ a))
      ∙ ap (all_made ps) (list_back f h ds n ws [] (A ∷ a) body (λ x p. refl) b.below t.below)
      ∙ parts_back f h ds (last_in n body) (ws ++ while_numbers cs) (list_of body) a id own label before now u (place + 1) others end N other b.parts t.parts e
      ∙ ap (λ x. so h ds N x (before ++ stmt own label (trees.block_if (arms_of (now ++ arm u (stmts_of (list_of body)) ∷ arms_in others)) other) ∷ []) a) (numbers-behind ws cs ps)
      ∙ ap (λ x. so h ds N (ws ++ while_numbers (cs ++ ps)) (before ++ stmt own label (trees.block_if (arms_of (now ++ arm u x ∷ arms_in others)) other) ∷ []) a) (stmts_of-list_of body)
      ∙ ap (λ x. so h ds N (ws ++ while_numbers (cs ++ ps)) (before ++ stmt own label (trees.block_if (arms_of x) other) ∷ []) a) (append_assoc done (arm test (stmts_of l) ∷ []) (arm u body ∷ arms_in others))

  else_back : (f : ℕ → Bool) (h : Heading) (ds : List DeclTree) (n : ℕ) (ws : List ℕ) (l : List StmtTree) (a : List AroundTree) (id own : ℕ) (label : Option ℕ) (before : List StmtTree)
      (done : List ArmTree) (test : ExprTree) (other : ElseTree) → NumberedElse n other → WhilesFitElse f other
      → all_made (else_cards f id other ++ card (parts.Close id) None end_if ∷ []) (so h ds n ws l (block own label before (branches done (Some test)) ∷ a))
      ≡ so h ds (last_else n other) (ws ++ while_numbers (else_cards f id other ++ card (parts.Close id) None end_if ∷ []))
      (before ++ stmt own label (trees.block_if (arms_of (done ++ arm test (stmts_of l) ∷ [])) other) ∷ []) a
  else_back f h ds n ws l a id own label before done test no_else b t =
      ap (λ x. so h ds n x (before ++ stmt own label (trees.block_if (arms_of (done ++ arm test (stmts_of l) ∷ [])) no_else) ∷ []) a) (sym (append-nil ws))
  else_back f h ds n ws l a id own label before done test (otherwise body) b t =
      let now = done ++ arm test (stmts_of l) ∷ [] in
      let A = block own label before (branches now None) in
      let cs = cards_in f body in
      all_made-append cs (card (parts.Close id) None end_if ∷ []) (so h ds n ws [] (A ∷ a))
      ∙ ap (all_made (card (parts.Close id) None end_if ∷ [])) (list_back f h ds n ws [] (A ∷ a) body (λ x p. refl) b t)
      ∙ ap (λ x. so h ds (last_in n body) (ws ++ while_numbers cs) (before ++ stmt own label (trees.block_if (arms_of now) (otherwise x)) ∷ []) a) (stmts_of-list_of body)
      ∙ ap (λ x. so h ds (last_in n body) x (before ++ stmt own label (trees.block_if (arms_of now) (otherwise body)) ∷ []) a) (numbers-closed ws cs id end_if)

  pub list_back : (f : ℕ → Bool) (h : Heading) (ds : List DeclTree) (n : ℕ) (ws : List ℕ) (l : List StmtTree) (a : List AroundTree) (body : StmtTrees)
      → Keeps a → AreNumbered n body → WhilesFit f body → all_made (cards_in f body) (so h ds n ws l a) ≡ so h ds (last_in n body) (ws ++ while_numbers (cards_in f body)) (l ++ list_of body) a
  list_back f h ds n ws l a no_stmts k b t = ap (λ x. so h ds n ws x a) (sym (append-nil l)) ∙ ap (λ x. so h ds n x (l ++ []) a) (sym (append-nil ws))
  list_back f h ds n ws l a (more_stmts s others) k b t =
      let cs = cards_of f s in
      let more = cards_in f others in
      all_made-append cs more (so h ds n ws l a)
      ∙ ap (all_made more) (stmt_back f h ds n ws l a s k b.first t.first)
      ∙ list_back f h ds (last_of n s) (ws ++ while_numbers cs) (l ++ s ∷ []) a others k b.behind t.behind
      ∙ ap (λ x. so h ds (last_in (last_of n s) others) x (l ++ s ∷ [] ++ list_of others) a) (numbers-behind ws cs more)
      ∙ ap (λ x. so h ds (last_in (last_of n s) others) (ws ++ while_numbers (cs ++ more)) x a) (append_assoc l (s ∷ []) (list_of others))
