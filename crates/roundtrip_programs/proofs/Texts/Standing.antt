-- Where the statements stand that are written of a module: each at its own part.
use Rattle.std.proofs.Common.{◌≡◌, ℕ, ◌+◌, List, [], ◌∷◌, ◌++◌, length, map, refl, sym, ap, ◌∙◌, subst, arith, append_assoc, append-nil, length-append, Bool, true, false}
use Rattle.std.specs.Prelude.{Option, Some, None, ◌||◌, not, if◌then◌else◌}
use Rattle.f77_ast.specs.declared.places.Part.{Part}
use Rattle.f77_ast.specs.declared.places.Part.TheVariants as parts
use Rattle.f77_ast.specs.declared.places.Spot.{Spot}
use Rattle.f77_ast.specs.Trees.{ExprTree, StmtTree, stmt, WhatTree, assign, do_loop, call, goto, continue, return, stop, print, read, ArmTree, arm, ArmTrees, no_arms, more_arms, ElseTree, no_else, otherwise, loop, StmtTrees, no_stmts, more_stmts}
use Rattle.f77_ast.specs.Trees as trees
use Rattle.f77_ast.specs.declared.module.FunctionForm.{FunctionForm}
use Rattle.f77_ast.specs.DeclTrees.{DeclTree, ModuleTree}
use Rattle.f77_ast.specs.PlainStmt.{stmts_of}
use Rattle.f77_statements.specs.Phrases.{DoTree, program, simple, else_if, else_part, end_if, end_do, end_module}
use Rattle.f77_parser.specs.declared.progress.Heading.{Heading}
use Rattle.f77_parser.specs.Statements.{StatementTree}
use Rattle.f77_parser.specs.SoFar.{OpeningTree, opening_loop, opening_while, branches, AroundTree, SoFar, spot, add_spot, add_executable, add_logical_if, open_block, add_while, leave_block, is_loop_to, leave_loops, end_loops_at, close_innermost}
use Rattle.f77_parser.specs.Elaborated.{meant_in}
use Rattle.f77_parser.specs.Building.{divide_innermost, add_phrase, add_statement, add_all, no_statements, written_module, build_module}
use Rattle.roundtrip_programs.specs.ModuleTexts.Cards.{Card, card, while_numbers, within, cards_of, cards_by, part_cards, else_cards, cards_in, head_phrase, title_of, title_cards, decl_cards, statements_of}
use Rattle.roundtrip_programs.specs.ModuleTexts.Folded.{folded, WhileFits, WhileFitsBy, WhilesFitArms, WhilesFitElse, WhilesFit}
use Rattle.roundtrip_programs.specs.ModuleTexts.Numbered.{last_of, last_in, last_arms, IsInner, IsNumbered, NumberedBelow, NumberedArms, NumberedElse, AreNumbered, IsWell}
use Rattle.roundtrip_programs.specs.ModuleTexts.ModuleLaws.{AreWritten, Labelled, of_statement, of_card}
use Rattle.roundtrip_programs.proofs.ModuleTexts.Again.{heading_of, title_by, decls_back}
use Rattle.roundtrip_programs.proofs.ModuleTexts.Alone.{some-first, first-same}
use Rattle.roundtrip_programs.proofs.ModuleTexts.Bare.{bare, turned, all_made, all_made-append, with_phrase-bare}
use Rattle.roundtrip_programs.proofs.ModuleTexts.TreeBack.{so, Keeps, block, if_cards, if-cards, stmt_back, list_back}
use Rattle.roundtrip_programs.proofs.ModuleTexts.TreeLists.{list_of}

-- the spots of a statement: its comments are at its own part, and the statement in a logical IF has none
abbrev pub inner_spots : ℕ → Option Part → List Spot
inner_spots f None = []
inner_spots f (Some part) = spot part f [] ∷ []

abbrev pub own_spots : ℕ → List (List ℕ) → Card → List Spot
own_spots f cs c = spot c.part f cs ∷ inner_spots f c.inner

-- the statement stands at that part, where this is so far, the spots aside
abbrev Stands : Card → SoFar → Type 0
Stands c p = (f : ℕ) (cs : List (List ℕ)) (q : SoFar) → bare q ≡ p → (add_phrase f c.label cs c.phrase q).spots ≡ q.spots ++ own_spots f cs c

abbrev AllStand : List Card → SoFar → Type 0
AllStand [] p = Unit {0}
AllStand (c ∷ cs) p = record { first : Stands c p; others : AllStand cs (turned (of_card c) p) }

stand-append : (xs ys : List Card) (p : SoFar) → AllStand xs p → AllStand ys (all_made xs p) → AllStand (xs ++ ys) p
stand-append [] ys p h e = e
stand-append (x ∷ xs) ys p h e = record { first = h.first; others = stand-append xs ys (turned (of_card x) p) h.others e }

-- the same, where what is so far behind the first of them is known
stand-then : (xs ys : List Card) (p q : SoFar) → all_made xs p ≡ q → AllStand xs p → AllStand ys q → AllStand (xs ++ ys) p
stand-then xs ys p q e h g = stand-append xs ys p h (subst (AllStand ys) (sym e) g)

-- ---- each statement

either : (v : Bool) (x y : SoFar) (l : List Spot) → x.spots ≡ l → y.spots ≡ l → (if v then x else y).spots ≡ l
either true x y l h e = h
either false x y l h e = e

ended-spots : (l : ℕ) (os : List AroundTree) (p : SoFar) → (leave_loops l os p).spots ≡ p.spots
ended-spots l [] p = refl
ended-spots l (a ∷ os) p = either (is_loop_to l a.opening) (leave_loops l os (leave_block a os p)) p p.spots (ended-spots l os (leave_block a os p)) refl

at-spots : (label : Option ℕ) (p : SoFar) → (end_loops_at label p).spots ≡ p.spots
at-spots None p = refl
at-spots (Some l) p = ended-spots l p.around p

counted : (h : Heading) (ds : List DeclTree) (n : ℕ) (ws : List ℕ) (l : List StmtTree) (a : List AroundTree) (id : ℕ) (q : SoFar) → id ≡ n + 1 → bare q ≡ so h ds n ws l a → q.count + 1 ≡ id
counted h ds n ws l a id q i e = ap (λ x. x.count + 1) e ∙ sym i

around-is : (h : Heading) (ds : List DeclTree) (n : ℕ) (ws : List ℕ) (l : List StmtTree) (a : List AroundTree) (q : SoFar) → bare q ≡ so h ds n ws l a → q.around ≡ a
around-is h ds n ws l a q e = ap (λ x. x.around) e

simply-stands : (h : Heading) (ds : List DeclTree) (n : ℕ) (ws : List ℕ) (l : List StmtTree) (a : List AroundTree) (id : ℕ) (label : Option ℕ) (w : WhatTree) → id ≡ n + 1
    → Stands (card (parts.Stmt id) label (simple w)) (so h ds n ws l a)
unfolding add_executable add_spot
simply-stands h ds n ws l a id label w i f cs q e =
    at-spots label (add_executable f label cs w q) ∙ ap (λ k. q.spots ++ spot (parts.Stmt k) f cs ∷ []) (counted h ds n ws l a id q i e)

within-stands : (h : Heading) (ds : List DeclTree) (n : ℕ) (ws : List ℕ) (l : List StmtTree) (a : List AroundTree) (id : ℕ) (label : Option ℕ) (e : ExprTree) (s : StmtTree) → id ≡ n + 1 → IsInner (n + 1) s
    → Stands (within id label e s) (so h ds n ws l a)
unfolding add_logical_if add_spot
within-stands h ds n ws l a id label e (stmt inner own w) i b f cs q g =
    let c = counted h ds n ws l a id q i g in
    let d : q.count + 1 + 1 ≡ inner = ap (λ k. k + 1) (ap (λ x. x.count + 1) g) ∙ sym b.number in
    at-spots label (add_logical_if f label cs e w q)
    ∙ append_assoc q.spots (spot (parts.Stmt (q.count + 1)) f cs ∷ []) (spot (parts.Stmt (q.count + 1 + 1)) f [] ∷ [])
    ∙ ap (λ k. q.spots ++ (spot (parts.Stmt k) f cs ∷ spot (parts.Stmt (q.count + 1 + 1)) f [] ∷ [])) c
    ∙ ap (λ k. q.spots ++ (spot (parts.Stmt id) f cs ∷ spot (parts.Stmt k) f [] ∷ [])) d

-- a statement that opens a block
entered-stands : (h : Heading) (ds : List DeclTree) (n : ℕ) (ws : List ℕ) (l : List StmtTree) (a : List AroundTree) (id : ℕ) (label : Option ℕ) (o : OpeningTree) (f : ℕ) (cs : List (List ℕ)) (q : SoFar)
    → id ≡ n + 1 → bare q ≡ so h ds n ws l a → (open_block f label cs o q).spots ≡ q.spots ++ spot (parts.Stmt id) f cs ∷ []
unfolding open_block add_spot
entered-stands h ds n ws l a id label o f cs q i e = ap (λ k. q.spots ++ spot (parts.Stmt k) f cs ∷ []) (counted h ds n ws l a id q i e)

-- one that ends the innermost
close-stands : (h : Heading) (ds : List DeclTree) (n : ℕ) (ws : List ℕ) (l : List StmtTree) (a : List AroundTree) (id own : ℕ) (label : Option ℕ) (before : List StmtTree) (o : OpeningTree) (f : ℕ) (cs : List (List ℕ)) (q : SoFar)
    → own ≡ id → bare q ≡ so h ds n ws l (block own label before o ∷ a) → (close_innermost q.around f cs q).spots ≡ q.spots ++ spot (parts.Close id) f cs ∷ []
unfolding add_spot
close-stands h ds n ws l a id own label before o f cs q i e =
    ap (λ os. (close_innermost os f cs q).spots) (around-is h ds n ws l (block own label before o ∷ a) q e) ∙ ap (λ k. q.spots ++ spot (parts.Close k) f cs ∷ []) i

-- ELSE IF, where these parts are done and this is the test of the open one
else_if-stands : (h : Heading) (ds : List DeclTree) (n : ℕ) (ws : List ℕ) (l : List StmtTree) (a : List AroundTree) (id own place : ℕ) (label : Option ℕ) (before : List StmtTree)
    (done : List ArmTree) (test t : ExprTree) → own ≡ id → place ≡ length done + 1
    → Stands (card (parts.ElseIf id place) None (else_if t)) (so h ds n ws l (block own label before (branches done (Some test)) ∷ a))
unfolding add_spot
else_if-stands h ds n ws l a id own place label before done test t i k f cs q e =
    let p : length (done ++ arm test (stmts_of q.list) ∷ []) ≡ place = length-append done (arm test (stmts_of q.list) ∷ []) ∙ sym k in
    ap (λ os. (divide_innermost os f cs (Some t) q).spots) (around-is h ds n ws l (block own label before (branches done (Some test)) ∷ a) q e)
    ∙ ap (λ x. q.spots ++ spot (parts.ElseIf own x) f cs ∷ []) p
    ∙ ap (λ x. q.spots ++ spot (parts.ElseIf x place) f cs ∷ []) i

else-stands : (h : Heading) (ds : List DeclTree) (n : ℕ) (ws : List ℕ) (l : List StmtTree) (a : List AroundTree) (id own : ℕ) (label : Option ℕ) (before : List StmtTree) (o : OpeningTree) → own ≡ id
    → Stands (card (parts.Else id) None else_part) (so h ds n ws l (block own label before o ∷ a))
unfolding add_spot
else-stands h ds n ws l a id own label before o i f cs q e =
    ap (λ os. (divide_innermost os f cs None q).spots) (around-is h ds n ws l (block own label before o ∷ a) q e)
    ∙ ap (λ x. q.spots ++ spot (parts.Else x) f cs ∷ []) i

-- ---- statements with statements in them

place-more : (place : ℕ) (done : List ArmTree) (x : ArmTree) → place ≡ length done + 1 → place + 1 ≡ length (done ++ x ∷ []) + 1
place-more place done x e = omega (arith, length-append done (x ∷ []))

-- a block IF, or a DO WHILE; its parts being so
abbrev InnerStands : (ℕ → Bool) → Heading → List DeclTree → ℕ → List StmtTree → List AroundTree → Option ℕ → StmtTrees → Type 0
InnerStands f h ds n l a label body = (vs : List ℕ) (o : OpeningTree) → Keeps (block (n + 1) label l o ∷ a) → record {
  made : all_made (cards_in f body) (so h ds (n + 1) vs [] (block (n + 1) label l o ∷ a))
      ≡ so h ds (last_in (n + 1) body) (vs ++ while_numbers (cards_in f body)) (list_of body) (block (n + 1) label l o ∷ a);
  stand : AllStand (cards_in f body) (so h ds (n + 1) vs [] (block (n + 1) label l o ∷ a));
}

abbrev OthersStand : (ℕ → Bool) → Heading → List DeclTree → ℕ → List StmtTree → List AroundTree → ℕ → Option ℕ → ExprTree → StmtTrees → ArmTrees → ElseTree → Type 0
OthersStand f h ds n l a id label test body others other = (vs : List ℕ)
    → AllStand (part_cards f id 1 others (else_cards f id other ++ card (parts.Close id) None end_if ∷ [])) (so h ds (last_in (n + 1) body) vs (list_of body) (block (n + 1) label l (branches [] (Some test)) ∷ a))

block_stands : (f : ℕ → Bool) (c : Bool) (h : Heading) (ds : List DeclTree) (n : ℕ) (ws : List ℕ) (l : List StmtTree) (a : List AroundTree) (id : ℕ) (label : Option ℕ)
    (test : ExprTree) (body : StmtTrees) (others : ArmTrees) (other : ElseTree) → id ≡ n + 1 → WhileFitsBy f c (trees.block_if (more_arms (arm test body) others) other)
    → InnerStands f h ds n l a label body → OthersStand f h ds n l a id label test body others other
    → AllStand (if_cards f c id label test body others other) (so h ds n ws l a)
unfolding add_spot open_block add_while
block_stands f false h ds n ws l a id label test body others other i t inner rest =
    let o = branches [] (Some test) in
    let A = block (n + 1) label l o in
    let x = inner ws o (λ x p. refl) in
    record {
      first = λ g cs q e. entered-stands h ds n ws l a id label o g cs q i e;
      others = stand-then (cards_in f body) (part_cards f id 1 others (else_cards f id other ++ card (parts.Close id) None end_if ∷ [])) (so h ds (n + 1) ws [] (A ∷ a))
          (so h ds (last_in (n + 1) body) (ws ++ while_numbers (cards_in f body)) (list_of body) (A ∷ a)) x.made x.stand (rest (ws ++ while_numbers (cards_in f body)));
    }
block_stands f true h ds n ws l a id label test body no_arms no_else i t inner rest =
    let o = opening_while None test in
    let A = block (n + 1) label l o in
    let own = ws ++ (n + 1) ∷ [] in
    let m = last_in (n + 1) body in
    let behind = own ++ while_numbers (cards_in f body) in
    let x = inner own o (λ x p. refl) in
    record {
      first = λ g cs q e. entered-stands h ds n own l a id label o g cs (add_while q) i (ap add_while e);
      others = stand-then (cards_in f body) (card (parts.Close id) None end_do ∷ []) (so h ds (n + 1) own [] (A ∷ a)) (so h ds m behind (list_of body) (A ∷ a)) x.made x.stand
          (record { first = λ g cs q e. close-stands h ds m behind (list_of body) a id (n + 1) label l o g cs q (sym i) e; others = tt });
    }
block_stands f true h ds n ws l a id label test body no_arms (otherwise list) i t inner rest = absurd (t.alone refl)
block_stands f true h ds n ws l a id label test body (more_arms x xs) other i t inner rest = absurd (t.alone refl)

mutual
  unfolding add_spot open_block

  stmt_stands : (f : ℕ → Bool) (h : Heading) (ds : List DeclTree) (n : ℕ) (ws : List ℕ) (l : List StmtTree) (a : List AroundTree) (s : StmtTree) → Keeps a → IsNumbered n s → WhileFits f s
      → AllStand (cards_of f s) (so h ds n ws l a)
  stmt_stands f h ds n ws l a (stmt id label w) k i t = what_stands f h ds n ws l a id label w k i.number i.below t

  what_stands : (f : ℕ → Bool) (h : Heading) (ds : List DeclTree) (n : ℕ) (ws : List ℕ) (l : List StmtTree) (a : List AroundTree) (id : ℕ) (label : Option ℕ) (w : WhatTree) → Keeps a → id ≡ n + 1 → NumberedBelow (n + 1) w
      → WhileFitsBy f (f id) w → AllStand (cards_by f id label w) (so h ds n ws l a)
  what_stands f h ds n ws l a id label (assign v e) k i b t = record { first = simply-stands h ds n ws l a id label (assign v e) i; others = tt }
  what_stands f h ds n ws l a id label (trees.block_if no_arms other) k i b t = absurd b.parts
  what_stands f h ds n ws l a id label (trees.block_if (more_arms (arm test body) others) other) k i b t =
      let P : List Card → Type 0 = λ cs. AllStand cs (so h ds n ws l a) in
      let end = else_cards f id other ++ card (parts.Close id) None end_if ∷ [] in
      let m = last_in (n + 1) body in
      subst P (sym (if-cards f (f id) id label test body others other refl)) (block_stands f (f id) h ds n ws l a id label test body others other i t
      (λ vs o e. record {
        made = list_back f h ds (n + 1) vs [] (block (n + 1) label l o ∷ a) body e b.parts.below t.parts.below;
        stand = list_stands f h ds (n + 1) vs [] (block (n + 1) label l o ∷ a) body e b.parts.below t.parts.below;
      })
      (λ vs. parts_stand f h ds m vs (list_of body) a id (n + 1) label l [] test 1 others end (sym i) refl b.parts.parts t.parts.parts
      (λ us l' done u. ends_stand f h ds (last_arms m others) us l' a id (n + 1) label l done u other (sym i) b.last t.last)))
  what_stands f h ds n ws l a id label (trees.logical_if e s) k i b t = record { first = within-stands h ds n ws l a id label e s i b; others = tt }
  what_stands f h ds n ws l a id label (do_loop (loop index first last step body)) k i b t =
      let D : DoTree = record { label = None; index = index; first = first; last = last; step = step } in
      let A = block (n + 1) label l (opening_loop D) in
      let m = last_in (n + 1) body in
      let behind = ws ++ while_numbers (cards_in f body) in
      record {
        first = λ g cs q e. entered-stands h ds n ws l a id label (opening_loop D) g cs q i e;
        others = stand-then (cards_in f body) (card (parts.Close id) None end_do ∷ []) (so h ds (n + 1) ws [] (A ∷ a)) (so h ds m behind (list_of body) (A ∷ a))
            (list_back f h ds (n + 1) ws [] (A ∷ a) body (λ x p. refl) b t)
            (list_stands f h ds (n + 1) ws [] (A ∷ a) body (λ x p. refl) b t)
            (record { first = λ g cs q e. close-stands h ds m behind (list_of body) a id (n + 1) label l (opening_loop D) g cs q (sym i) e; others = tt });
      }
  what_stands f h ds n ws l a id label (call c es) k i b t = record { first = simply-stands h ds n ws l a id label (call c es) i; others = tt }
  what_stands f h ds n ws l a id label (goto g) k i b t = record { first = simply-stands h ds n ws l a id label (goto g) i; others = tt }
  what_stands f h ds n ws l a id label continue k i b t = record { first = simply-stands h ds n ws l a id label continue i; others = tt }
  what_stands f h ds n ws l a id label return k i b t = record { first = simply-stands h ds n ws l a id label return i; others = tt }
  what_stands f h ds n ws l a id label (stop g) k i b t = record { first = simply-stands h ds n ws l a id label (stop g) i; others = tt }
  what_stands f h ds n ws l a id label (print es) k i b t = record { first = simply-stands h ds n ws l a id label (print es) i; others = tt }
  what_stands f h ds n ws l a id label (read es) k i b t = record { first = simply-stands h ds n ws l a id label (read es) i; others = tt }

  -- the other parts of a block IF, where these are done and this is the test of the open one, and what ends it
  parts_stand : (f : ℕ → Bool) (h : Heading) (ds : List DeclTree) (n : ℕ) (ws : List ℕ) (l : List StmtTree) (a : List AroundTree) (id own : ℕ) (label : Option ℕ) (before : List StmtTree)
      (done : List ArmTree) (test : ExprTree) (place : ℕ) (others : ArmTrees) (end : List Card) → own ≡ id → place ≡ length done + 1 → NumberedArms n others → WhilesFitArms f others
      → ((us : List ℕ) (x : List StmtTree) (d : List ArmTree) (u : ExprTree) → AllStand end (so h ds (last_arms n others) us x (block own label before (branches d (Some u)) ∷ a)))
      → AllStand (part_cards f id place others end) (so h ds n ws l (block own label before (branches done (Some test)) ∷ a))
  parts_stand f h ds n ws l a id own label before done test place no_arms end i k b t e = e ws l done test
  parts_stand f h ds n ws l a id own label before done test place (more_arms (arm u body) others) end i k b t e =
      let now = done ++ arm test (stmts_of l) ∷ [] in
      let A = block own label before (branches now (Some u)) in
      let behind = ws ++ while_numbers (cards_in f body) in
      record {
        first = else_if-stands h ds n ws l a id own place label before done test u i k;
        others = stand-then (cards_in f body) (part_cards f id (place + 1) others end) (so h ds n ws [] (A ∷ a)) (so h ds (last_in n body) behind (list_of body) (A ∷ a))
            (list_back f h ds n ws [] (A ∷ a) body (λ x p. refl) b.below t.below)
            (list_stands f h ds n ws [] (A ∷ a) body (λ x p. refl) b.below t.below)
            (parts_stand f h ds (last_in n body) behind (list_of body) a id own label before now u (place + 1) others end i (place-more place done (arm test (stmts_of l)) k) b.parts t.parts e);
      }

  ends_stand : (f : ℕ → Bool) (h : Heading) (ds : List DeclTree) (n : ℕ) (ws : List ℕ) (l : List StmtTree) (a : List AroundTree) (id own : ℕ) (label : Option ℕ) (before : List StmtTree)
      (done : List ArmTree) (test : ExprTree) (other : ElseTree) → own ≡ id → NumberedElse n other → WhilesFitElse f other
      → AllStand (else_cards f id other ++ card (parts.Close id) None end_if ∷ []) (so h ds n ws l (block own label before (branches done (Some test)) ∷ a))
  ends_stand f h ds n ws l a id own label before done test no_else i b t =
      record { first = λ g cs q e. close-stands h ds n ws l a id own label before (branches done (Some test)) g cs q i e; others = tt }
  ends_stand f h ds n ws l a id own label before done test (otherwise body) i b t =
      let now = done ++ arm test (stmts_of l) ∷ [] in
      let A = block own label before (branches now None) in
      let behind = ws ++ while_numbers (cards_in f body) in
      record {
        first = else-stands h ds n ws l a id own label before (branches done (Some test)) i;
        others = stand-then (cards_in f body) (card (parts.Close id) None end_if ∷ []) (so h ds n ws [] (A ∷ a)) (so h ds (last_in n body) behind (list_of body) (A ∷ a))
            (list_back f h ds n ws [] (A ∷ a) body (λ x p. refl) b t)
            (list_stands f h ds n ws [] (A ∷ a) body (λ x p. refl) b t)
            (record { first = λ g cs q e. close-stands h ds (last_in n body) behind (list_of body) a id own label before (branches now None) g cs q i e; others = tt });
      }

  list_stands : (f : ℕ → Bool) (h : Heading) (ds : List DeclTree) (n : ℕ) (ws : List ℕ) (l : List StmtTree) (a : List AroundTree) (body : StmtTrees) → Keeps a → AreNumbered n body → WhilesFit f body
      → AllStand (cards_in f body) (so h ds n ws l a)
  list_stands f h ds n ws l a no_stmts k b t = tt
  list_stands f h ds n ws l a (more_stmts s others) k b t =
      let behind = ws ++ while_numbers (cards_of f s) in
      stand-then (cards_of f s) (cards_in f others) (so h ds n ws l a) (so h ds (last_of n s) behind (l ++ s ∷ []) a) (stmt_back f h ds n ws l a s k b.first t.first)
      (stmt_stands f h ds n ws l a s k b.first t.first) (list_stands f h ds (last_of n s) behind (l ++ s ∷ []) a others k b.behind t.behind)

-- ---- modules

decls-stand : (h : Heading) (done : List DeclTree) (place : ℕ) (ds : List DeclTree) → place ≡ length done → AllStand (decl_cards place ds) (so h done 0 [] [] [])
unfolding add_spot
decls-stand h done place [] e = tt
decls-stand h done place (d ∷ ds) e = record {
  first = λ f cs q g. ap (λ x. q.spots ++ spot (parts.Decl (length x.decls)) f cs ∷ []) g ∙ ap (λ k. q.spots ++ spot (parts.Decl k) f cs ∷ []) (sym e);
  others = decls-stand h (done ++ d ∷ []) (place + 1) ds (omega (arith, length-append done (d ∷ [])));
}

title-spots : (b : Bool) (function : Option FunctionForm) (n : List ℕ) (ds : List (List ℕ)) (f : ℕ) (cs : List (List ℕ)) (q : SoFar)
    → (add_phrase f None cs (if b then program n else head_phrase function n ds) q).spots ≡ q.spots ++ spot parts.Title f cs ∷ []
unfolding add_spot
title-spots true function n ds f cs q = refl
title-spots false None n ds f cs q = refl
title-spots false (Some form) n ds f cs q = refl

title-stands : (b : Bool) (m : ModuleTree) (p : SoFar) → AllStand (if b then card parts.Title None (title_of m) ∷ [] else []) p
title-stands true m p = record { first = λ f cs q e. title-spots m.main m.function m.name m.dummies f cs q; others = tt }
title-stands false m p = tt

end-stands : (p : SoFar) → AllStand (card parts.End None end_module ∷ []) p
unfolding add_spot
end-stands p = record { first = λ f cs q e. refl; others = tt }

module-stands : (m : ModuleTree) → IsWell m → AllStand (statements_of m) no_statements
unfolding statements_of
module-stands m well =
    let h = heading_of m in
    let f = (meant_in m).is_while in
    let list = (folded m).body in
    let title = title_cards m in let decls = decl_cards 0 m.decls in let body = cards_in f list in
    let titled = title_by m.main m.titled m refl refl well.title well.function in
    let specified = all_made-append title decls no_statements ∙ ap (all_made decls) titled ∙ decls_back h [] 0 m.decls in
    stand-append (title ++ decls ++ body) (card parts.End None end_module ∷ []) no_statements
    (stand-then (title ++ decls) body no_statements (so h m.decls 0 [] [] []) specified
    (stand-then title decls no_statements (so h [] 0 [] [] []) titled (title-stands (m.titled || not m.main) m no_statements) (decls-stand h [] 0 m.decls refl))
    (list_stands f h m.decls 0 [] [] [] list (λ l p. refl) well.body well.whiles))
    (end-stands _)

-- ---- the spots of a module that is built of these statements

abbrev pub spots_of : List Card → List StatementTree → List Spot
spots_of [] ss = []
spots_of (c ∷ cs) [] = []
spots_of (c ∷ cs) (s ∷ ss) = own_spots s.first s.comments c ++ spots_of cs ss

all-stand : (ss : List StatementTree) (cs : List Card) (q : SoFar) → map of_statement ss ≡ map of_card cs → AllStand cs (bare q) → (add_all ss q).spots ≡ q.spots ++ spots_of cs ss
all-stand [] [] q e h = sym (append-nil q.spots)
all-stand [] (c ∷ cs) q e h = absurd (some-first _ _ e)
all-stand (s ∷ ss) [] q e h = absurd (some-first _ _ (sym e))
all-stand (s ∷ ss) (c ∷ cs) q e h =
    let p = first-same (of_statement s) (of_card c) (map of_statement ss) (map of_card cs) e in
    let next : bare (add_statement s q) ≡ turned (of_card c) (bare q) = with_phrase-bare s.first s.label s.comments s.phrase q ∙ ap (λ x. turned x (bare q)) p.0 in
    let one : (add_statement s q).spots ≡ q.spots ++ own_spots s.first s.comments c =
    ap (λ (x : Labelled). (add_phrase s.first x.label s.comments x.phrase q).spots) p.0 ∙ h.first s.first s.comments q refl in
    all-stand ss cs (add_statement s q) p.1 (subst (AllStand cs) (sym next) h.others)
    ∙ ap (λ x. x ++ spots_of cs ss) one
    ∙ append_assoc q.spots (own_spots s.first s.comments c) (spots_of cs ss)

pub built-spots : (m : ModuleTree) (closing : List (List ℕ)) (ss : List StatementTree) → IsWell m → AreWritten m ss → (build_module closing ss).places.spots ≡ spots_of (statements_of m) ss
unfolding build_module written_module
built-spots m closing ss well w = all-stand ss (statements_of m) no_statements w (module-stands m well)
