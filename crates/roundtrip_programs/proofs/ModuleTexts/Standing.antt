-- What is written of a module so far, in the order of its text.
use Rattle.std.proofs.Common.{◌≡◌, ℕ, ◌+◌, List, [], ◌∷◌, ◌++◌, Bool, true, false, refl, sym, ap, ◌∙◌, append_assoc, append-nil}
use Rattle.std.specs.Prelude.{Option, Some, None}
use Rattle.f77_ast.specs.declared.places.Part.TheVariants as parts
use Rattle.f77_ast.specs.Trees.{ExprTree, StmtTree, stmt, ArmTree, arm, loop, StmtTrees, no_stmts}
use Rattle.f77_ast.specs.PlainStmt.{stmts_of, arms_of}
use Rattle.f77_statements.specs.Phrases.{else_if, else_part, end_if, while_head, end_do}
use Rattle.f77_parser.specs.SoFar.{OpeningTree, opening_loop, opening_while, branches, AroundTree, SoFar, what_of, leave_block}
use Rattle.f77_parser.specs.Building.{close_arm}
use Rattle.roundtrip_programs.specs.Statements.Formed.{Each}
use Rattle.roundtrip_programs.specs.ModuleTexts.Cards.{Card, card, if_head, if_end, head_of, cards_of, block_cards, part_cards, cards_in}
use Rattle.roundtrip_programs.proofs.ModuleTexts.Counted.{IsOpenIf}
use Rattle.roundtrip_programs.proofs.ModuleTexts.Fitting.{Tells}

module _ (f : ℕ → Bool) where
  -- what is written of a block up to its open list
  abbrev pub open_cards : ℕ → Option ℕ → OpeningTree → List Card
  open_cards id label (opening_loop d) = card (parts.Stmt id) label (head_of (loop d.index d.first d.last d.step no_stmts)) ∷ []
  open_cards id label (opening_while l e) = card (parts.Stmt id) label (while_head None e) ∷ []
  open_cards id label (branches arms (Some test)) = block_cards f id label (arms_of (arms ++ arm test no_stmts ∷ [])) []
  open_cards id label (branches arms None) = block_cards f id label (arms_of arms) (card (parts.Else id) None else_part ∷ [])

  abbrev pub around_cards : List AroundTree → List Card
  around_cards [] = []
  around_cards (a ∷ os) = around_cards os ++ cards_in f (stmts_of a.before) ++ open_cards a.id a.label a.opening

  -- the executable statements
  abbrev pub executed : SoFar → List Card
  executed p = around_cards p.around ++ cards_in f (stmts_of p.list)

  -- an ELSE has a part before it
  abbrev pub HasFirst : OpeningTree → Type 0
  HasFirst (opening_loop d) = Unit {0}
  HasFirst (opening_while l e) = Unit {0}
  HasFirst (branches arms (Some test)) = Unit {0}
  HasFirst (branches [] None) = ⊥
  HasFirst (branches (x ∷ arms) None) = Unit {0}

  -- and the number of a block tells a DO WHILE
  abbrev pub IsStarted : AroundTree → Type 0
  IsStarted a = record { parts : HasFirst a.opening; told : Tells (f a.id) a.opening }

  abbrev pub AreStarted : List AroundTree → Type 0
  AreStarted os = Each IsStarted os

  -- ---- lists

  pub list-cards : (l : List StmtTree) (s : StmtTree) → cards_in f (stmts_of (l ++ s ∷ [])) ≡ cards_in f (stmts_of l) ++ cards_of f s
  list-cards [] s = append-nil (cards_of f s)
  list-cards (x ∷ l) s = ap (λ cs. cards_of f x ++ cs) (list-cards l s) ∙ sym (append_assoc (cards_of f x) (cards_in f (stmts_of l)) (cards_of f s))

  -- ---- block IFs

  parts-cards : (id place : ℕ) (xs : List ArmTree) (t : ExprTree) (body : StmtTrees) (end : List Card)
      → part_cards f id place (arms_of (xs ++ arm t body ∷ [])) end ≡ part_cards f id place (arms_of (xs ++ arm t no_stmts ∷ [])) [] ++ (cards_in f body ++ end)
  parts-cards id place [] t body end = refl
  parts-cards id place (arm u b ∷ xs) t body end =
      ap (λ cs. card (parts.ElseIf id place) None (else_if u) ∷ (cards_in f b ++ cs)) (parts-cards id (place + 1) xs t body end)
      ∙ ap (λ cs. card (parts.ElseIf id place) None (else_if u) ∷ cs)
      (sym (append_assoc (cards_in f b) (part_cards f id (place + 1) (arms_of (xs ++ arm t no_stmts ∷ [])) []) (cards_in f body ++ end)))

  block-cards : (id : ℕ) (label : Option ℕ) (xs : List ArmTree) (t : ExprTree) (body : StmtTrees) (end : List Card)
      → block_cards f id label (arms_of (xs ++ arm t body ∷ [])) end ≡ block_cards f id label (arms_of (xs ++ arm t no_stmts ∷ [])) [] ++ (cards_in f body ++ end)
  block-cards id label [] t body end = refl
  block-cards id label (arm u b ∷ xs) t body end =
      ap (λ cs. card (parts.Stmt id) label (if_head (f id) u) ∷ (cards_in f b ++ cs)) (parts-cards id 1 xs t body end)
      ∙ ap (λ cs. card (parts.Stmt id) label (if_head (f id) u) ∷ cs)
      (sym (append_assoc (cards_in f b) (part_cards f id 1 (arms_of (xs ++ arm t no_stmts ∷ [])) []) (cards_in f body ++ end)))

  -- what ends a list of parts
  parts-end : (id place : ℕ) (xs : List ArmTree) (x y : List Card) → part_cards f id place (arms_of xs) (x ++ y) ≡ part_cards f id place (arms_of xs) x ++ y
  parts-end id place [] x y = refl
  parts-end id place (arm u b ∷ xs) x y =
      ap (λ cs. card (parts.ElseIf id place) None (else_if u) ∷ (cards_in f b ++ cs)) (parts-end id (place + 1) xs x y)
      ∙ ap (λ cs. card (parts.ElseIf id place) None (else_if u) ∷ cs) (sym (append_assoc (cards_in f b) (part_cards f id (place + 1) (arms_of xs) x) y))

  block-end : (id : ℕ) (label : Option ℕ) (u : ExprTree) (b : StmtTrees) (xs : List ArmTree) (x y : List Card)
      → block_cards f id label (arms_of (arm u b ∷ xs)) (x ++ y) ≡ block_cards f id label (arms_of (arm u b ∷ xs)) x ++ y
  block-end id label u b xs x y =
      ap (λ cs. card (parts.Stmt id) label (if_head (f id) u) ∷ (cards_in f b ++ cs)) (parts-end id 1 xs x y)
      ∙ ap (λ cs. card (parts.Stmt id) label (if_head (f id) u) ∷ cs) (sym (append_assoc (cards_in f b) (part_cards f id 1 (arms_of xs) x) y))

  -- one more part, at some place, is the ELSE IF that begins it
  pub record Another (id : ℕ) (before after : List Card) (e : ExprTree) : Type 0 where
    pub place : ℕ
    pub same : after ≡ before ++ card (parts.ElseIf id place) None (else_if e) ∷ []

  parts-another : (id place : ℕ) (xs : List ArmTree) (e : ExprTree)
      → Another id (part_cards f id place (arms_of xs) []) (part_cards f id place (arms_of (xs ++ arm e no_stmts ∷ [])) []) e
  parts-another id place [] e = record { place = place; same = refl }
  parts-another id place (arm u b ∷ xs) e =
      let r = parts-another id (place + 1) xs e in record {
        place = r.place;
        same = ap (λ cs. card (parts.ElseIf id place) None (else_if u) ∷ (cards_in f b ++ cs)) r.same
            ∙ ap (λ cs. card (parts.ElseIf id place) None (else_if u) ∷ cs)
            (sym (append_assoc (cards_in f b) (part_cards f id (place + 1) (arms_of xs) []) (card (parts.ElseIf id r.place) None (else_if e) ∷ [])));
      }

  block-another : (id : ℕ) (label : Option ℕ) (u : ExprTree) (b : StmtTrees) (xs : List ArmTree) (e : ExprTree)
      → Another id (block_cards f id label (arms_of (arm u b ∷ xs)) []) (block_cards f id label (arms_of (arm u b ∷ xs ++ arm e no_stmts ∷ [])) []) e
  block-another id label u b xs e =
      let r = parts-another id 1 xs e in record {
        place = r.place;
        same = ap (λ cs. card (parts.Stmt id) label (if_head (f id) u) ∷ (cards_in f b ++ cs)) r.same
            ∙ ap (λ cs. card (parts.Stmt id) label (if_head (f id) u) ∷ cs)
            (sym (append_assoc (cards_in f b) (part_cards f id 1 (arms_of xs) []) (card (parts.ElseIf id r.place) None (else_if e) ∷ [])));
      }

  -- the open part ends, and ELSE IF begins the next
  next-another : (id : ℕ) (label : Option ℕ) (xs : List ArmTree) (t : ExprTree) (body : StmtTrees) (e : ExprTree)
      → Another id (block_cards f id label (arms_of (xs ++ arm t body ∷ [])) []) (block_cards f id label (arms_of (xs ++ arm t body ∷ [] ++ arm e no_stmts ∷ [])) []) e
  next-another id label [] t body e = block-another id label t body [] e
  next-another id label (arm u b ∷ xs) t body e = block-another id label u b (xs ++ arm t body ∷ []) e

  pub part-another : (id : ℕ) (label : Option ℕ) (o : OpeningTree) (l : List StmtTree) (e : ExprTree) → IsOpenIf o
      → Another id (open_cards id label o ++ cards_in f (stmts_of l)) (open_cards id label (branches (close_arm o l) (Some e))) e
  part-another id label (opening_loop d) l e h = absurd h
  part-another id label (opening_while k t) l e h = absurd h
  part-another id label (branches arms None) l e h = absurd h
  part-another id label (branches arms (Some t)) l e h =
      let r = next-another id label arms t (stmts_of l) e in let before = open_cards id label (branches arms (Some t)) in record {
        place = r.place;
        same = r.same
            ∙ ap (λ cs. cs ++ card (parts.ElseIf id r.place) None (else_if e) ∷ [])
            (block-cards id label arms t (stmts_of l) [] ∙ ap (λ cs. before ++ cs) (append-nil (cards_in f (stmts_of l))));
      }

  -- or ELSE begins the last
  pub part-last : (id : ℕ) (label : Option ℕ) (o : OpeningTree) (l : List StmtTree) → IsOpenIf o
      → open_cards id label (branches (close_arm o l) None) ≡ open_cards id label o ++ cards_in f (stmts_of l) ++ card (parts.Else id) None else_part ∷ []
  part-last id label (opening_loop d) l h = absurd h
  part-last id label (opening_while k t) l h = absurd h
  part-last id label (branches arms None) l h = absurd h
  part-last id label (branches arms (Some t)) l h =
      let c = card (parts.Else id) None else_part ∷ [] in
      block-cards id label arms t (stmts_of l) c
      ∙ sym (append_assoc (open_cards id label (branches arms (Some t))) (cards_in f (stmts_of l)) c)

  pub last-started : (o : OpeningTree) (l : List StmtTree) → IsOpenIf o → HasFirst (branches (close_arm o l) None)
  last-started (opening_loop d) l h = absurd h
  last-started (opening_while k t) l h = absurd h
  last-started (branches arms None) l h = absurd h
  last-started (branches [] (Some t)) l h = tt
  last-started (branches (x ∷ arms) (Some t)) l h = tt

  -- the block IF goes on
  pub still-told : (c : Bool) (o : OpeningTree) → IsOpenIf o → Tells c o → c ≡ false
  still-told c (opening_loop d) h t = absurd h
  still-told c (opening_while k u) h t = absurd h
  still-told c (branches arms None) h t = absurd h
  still-told c (branches arms (Some u)) h t = t

  -- ---- blocks end

  abbrev pub close_of : ℕ → OpeningTree → Card
  close_of id (opening_loop d) = card (parts.Close id) None end_do
  close_of id (opening_while l e) = card (parts.Close id) None end_do
  close_of id (branches arms test) = card (parts.Close id) None end_if

  -- a DO WHILE
  while-cards : (id : ℕ) (label : Option ℕ) (e : ExprTree) (body : List Card) (c : Bool) → c ≡ true
      → card (parts.Stmt id) label (if_head c e) ∷ (body ++ ([] ++ card (parts.Close id) None (if_end c) ∷ [])) ≡ card (parts.Stmt id) label (while_head None e) ∷ (body ++ card (parts.Close id) None end_do ∷ [])
  while-cards id label e body c t = ap (λ b. card (parts.Stmt id) label (if_head b e) ∷ (body ++ card (parts.Close id) None (if_end b) ∷ [])) t

  -- the last line of a block IF
  end-cards : (id : ℕ) (c : Bool) → c ≡ false → card (parts.Close id) None (if_end c) ∷ [] ≡ card (parts.Close id) None end_if ∷ []
  end-cards id c t = ap (λ b. card (parts.Close id) None (if_end b) ∷ []) t

  whole-cards : (id : ℕ) (label : Option ℕ) (o : OpeningTree) (l : List StmtTree) → HasFirst o → Tells (f id) o
      → cards_of f (stmt id label (what_of o l)) ≡ open_cards id label o ++ (cards_in f (stmts_of l) ++ close_of id o ∷ [])
  whole-cards id label (opening_loop d) l h t = refl
  whole-cards id label (opening_while k e) l h t = while-cards id label e (cards_in f (stmts_of l)) (f id) t
  whole-cards id label (branches arms (Some u)) l h t =
      block-cards id label arms u (stmts_of l) (card (parts.Close id) None (if_end (f id)) ∷ [])
      ∙ ap (λ cs. block_cards f id label (arms_of (arms ++ arm u no_stmts ∷ [])) [] ++ (cards_in f (stmts_of l) ++ cs)) (end-cards id (f id) t)
  whole-cards id label (branches [] None) l h t = absurd h
  whole-cards id label (branches (arm u b ∷ arms) None) l h t =
      block-end id label u b arms (card (parts.Else id) None else_part ∷ []) (cards_in f (stmts_of l) ++ card (parts.Close id) None (if_end (f id)) ∷ [])
      ∙ ap (λ cs. block_cards f id label (arms_of (arm u b ∷ arms)) (card (parts.Else id) None else_part ∷ []) ++ (cards_in f (stmts_of l) ++ cs)) (end-cards id (f id) t)

  regroup : (a b o l c : List Card) → a ++ (b ++ (o ++ (l ++ c))) ≡ a ++ b ++ o ++ l ++ c
  regroup a b o l c = simp append_assoc

  pub left-cards : (a : AroundTree) (os : List AroundTree) (p : SoFar) → IsStarted a
      → executed (leave_block a os p) ≡ around_cards (a ∷ os) ++ cards_in f (stmts_of p.list) ++ close_of a.id a.opening ∷ []
  left-cards a os p h =
      let x = around_cards os in let before = cards_in f (stmts_of a.before) in
      ap (λ cs. x ++ cs) (list-cards a.before (stmt a.id a.label (what_of a.opening p.list)))
      ∙ ap (λ cs. x ++ (before ++ cs)) (whole-cards a.id a.label a.opening p.list h.parts h.told)
      ∙ regroup x before (open_cards a.id a.label a.opening) (cards_in f (stmts_of p.list)) (close_of a.id a.opening ∷ [])
