-- What each statement adds to what is written of its module.
use Rattle.std.proofs.Common.{◌≡◌, ℕ, ◌+◌, Bool, true, false, List, [], ◌∷◌, ◌++◌, refl, sym, ap, ◌∙◌, subst, append_assoc, append-nil, arith}
use Rattle.std.specs.Prelude.{Option, Some, None, if◌then◌else◌}
use Rattle.f77_ast.specs.declared.places.Part.TheVariants as parts
use Rattle.f77_ast.specs.Trees.{ExprTree, StmtTree, stmt, WhatTree, assign, call, goto, continue, return, stop, print, read, ArmTree, arm}
use Rattle.f77_ast.specs.Trees as trees
use Rattle.f77_ast.specs.PlainStmt.{stmts_of}
use Rattle.f77_statements.specs.Phrases.{PhraseTree, program, subroutine, function, specification, simple, logical_if, block_if, else_if, else_part, end_if, do_head, while_head, end_do, end_module, DoTree}
use Rattle.f77_structure.specs.Marks.{statements_by, label_by, returns_in, is_return}
use Rattle.f77_parser.specs.Roles.{role_of, action_of}
use Rattle.f77_parser.specs.declared.progress.Heading.{Heading}
use Rattle.f77_parser.specs.SoFar.{OpeningTree, opening_loop, opening_while, branches, AroundTree, SoFar, add_spot, add_executable, add_logical_if, open_block, add_while, leave_block, is_loop_to, leave_loops, end_loops_at, close_innermost, close_block}
use Rattle.f77_parser.specs.Building.{close_arm, divide_innermost, add_continue, program_heading, subroutine_heading, function_heading, add_phrase}
use Rattle.roundtrip_programs.specs.Statements.Formed.{Each}
use Rattle.roundtrip_programs.specs.Statements.Phrased.{IsWhat, IsPhrase}
use Rattle.roundtrip_programs.specs.ModuleTexts.Cards.{Card, card, if_head, head_of, cards_of, cards_by, cards_in, within, while_number, while_numbers}
use Rattle.roundtrip_programs.proofs.ModuleTexts.Each.{Each-append}
use Rattle.roundtrip_programs.proofs.ModuleTexts.Counted.{Divisible, Allowed}
use Rattle.roundtrip_programs.proofs.ModuleTexts.Tally.{listed, label_at, number_at, labels_of, count_of, IsQuiet, IsBehind, labels-append, count-append}
use Rattle.roundtrip_programs.proofs.ModuleTexts.Standing.{open_cards, around_cards, executed, AreStarted, list-cards, part-another, part-last, last-started, still-told, close_of, left-cards}
use Rattle.roundtrip_programs.proofs.ModuleTexts.Bare.{numbers-append}
use Rattle.roundtrip_programs.proofs.ModuleTexts.Openings.{new_whiles, IsTold}
use Rattle.fx_lists.proofs.Numbers.{plus-none}

-- the heading behind a statement
abbrev pub heading_by : PhraseTree → Heading → Heading
heading_by (program n) h = program_heading n
heading_by (subroutine n ds) h = subroutine_heading n ds
heading_by (function form n ds) h = function_heading form n ds
heading_by (specification d) h = h
heading_by (simple w) h = h
heading_by (logical_if e w) h = h
heading_by (block_if e) h = h
heading_by (else_if e) h = h
heading_by else_part h = h
heading_by end_if h = h
heading_by (do_head d) h = h
heading_by (while_head l e) h = h
heading_by end_do h = h
heading_by end_module h = h

module _ (tells : ℕ → Bool) where
  -- behind these cards so many executable statements with these labels are added, these of them DO WHILEs, under this heading
  pub record Adds (ls : List ℕ) (n : ℕ) (ws : List ℕ) (returns : Bool) (h : Heading) (before : List Card) (q : SoFar) : Type 0 where
    pub cards : List Card
    pub same : executed tells q ≡ before ++ cards
    pub labels : labels_of cards ≡ ls
    pub count : count_of cards ≡ n
    pub whiles : while_numbers cards ≡ ws
    pub quiet : returns ≡ false → Each IsQuiet cards
    pub behind : Each IsBehind cards
    pub heading : q.heading ≡ h
    pub started : AreStarted tells q.around

  -- nothing but ends of blocks is added
  abbrev pub AddsEnds : Heading → List Card → SoFar → Type 0
  AddsEnds h before q = Adds [] 0 [] false h before q

  none-plus : (n : ℕ) → 0 + n ≡ n
  none-plus n = omega arith

  nothing-added : (h : Heading) (before : List Card) (q : SoFar) → executed tells q ≡ before → q.heading ≡ h → AreStarted tells q.around → AddsEnds h before q
  nothing-added h before q e g s =
      record { cards = []; same = e ∙ sym (append-nil before); labels = refl; count = refl; whiles = refl; quiet = λ x. tt; behind = tt; heading = g; started = s }

  -- one card is added
  one-added : (c : Card) (h : Heading) (before : List Card) (q : SoFar) → executed tells q ≡ before ++ c ∷ [] → IsBehind c → q.heading ≡ h → AreStarted tells q.around
      → Adds (listed (label_at c)) (number_at c) (while_number c.part c.phrase) (returns_in (role_of c.phrase)) h before q
  one-added c h before q e b g s = record {
    cards = c ∷ [];
    same = e;
    labels = append-nil (listed (label_at c));
    count = plus-none (number_at c);
    whiles = append-nil (while_number c.part c.phrase);
    quiet = λ x. record { first = x; others = tt };
    behind = record { first = b; others = tt };
    heading = g;
    started = s;
  }

  -- ends of blocks behind what is added
  then-ends : (labels : List ℕ) (n : ℕ) (ws : List ℕ) (returns : Bool) (h : Heading) (before : List Card) (q r : SoFar) → Adds labels n ws returns h before q → AddsEnds q.heading (executed tells q) r
      → Adds labels n ws returns h before r
  then-ends labels n ws returns h before q r x y = record {
    cards = x.cards ++ y.cards;
    same = y.same ∙ ap (λ cs. cs ++ y.cards) x.same ∙ append_assoc before x.cards y.cards;
    labels = labels-append x.cards y.cards ∙ ap (λ l. labels_of x.cards ++ l) y.labels ∙ append-nil (labels_of x.cards) ∙ x.labels;
    count = count-append x.cards y.cards ∙ ap (λ k. count_of x.cards + k) y.count ∙ plus-none (count_of x.cards) ∙ x.count;
    whiles = numbers-append x.cards y.cards ∙ ap (λ l. while_numbers x.cards ++ l) y.whiles ∙ append-nil (while_numbers x.cards) ∙ x.whiles;
    quiet = λ e. Each-append IsQuiet x.cards y.cards (x.quiet e) (y.quiet refl);
    behind = Each-append IsBehind x.cards y.cards x.behind y.behind;
    heading = y.heading ∙ x.heading;
    started = y.started;
  }

  -- and before it
  ends-then : (labels : List ℕ) (n : ℕ) (ws : List ℕ) (returns : Bool) (h : Heading) (before : List Card) (q r : SoFar) → AddsEnds h before q → Adds labels n ws returns q.heading (executed tells q) r
      → Adds labels n ws returns h before r
  ends-then labels n ws returns h before q r x y = record {
    cards = x.cards ++ y.cards;
    same = y.same ∙ ap (λ cs. cs ++ y.cards) x.same ∙ append_assoc before x.cards y.cards;
    labels = labels-append x.cards y.cards ∙ ap (λ l. l ++ labels_of y.cards) x.labels ∙ y.labels;
    count = count-append x.cards y.cards ∙ ap (λ k. k + count_of y.cards) x.count ∙ none-plus (count_of y.cards) ∙ y.count;
    whiles = numbers-append x.cards y.cards ∙ ap (λ l. l ++ while_numbers y.cards) x.whiles ∙ y.whiles;
    quiet = λ e. Each-append IsQuiet x.cards y.cards (x.quiet refl) (y.quiet e);
    behind = Each-append IsBehind x.cards y.cards x.behind y.behind;
    heading = y.heading ∙ x.heading;
    started = y.started;
  }

  -- ---- blocks end

  -- these being the open blocks
  abbrev AddsIn : List AroundTree → SoFar → SoFar → Type 0
  AddsIn os p q = AddsEnds p.heading (around_cards tells os ++ cards_in tells (stmts_of p.list)) q

  at-around : (os : List AroundTree) (p q : SoFar) → p.around ≡ os → AddsIn os p q → AddsIn p.around p q
  at-around os p q e x = let P : List AroundTree → Type 0 = λ y. AddsIn y p q in subst P (sym e) x

  started-at : (os : List AroundTree) (p : SoFar) → p.around ≡ os → AreStarted tells os → AreStarted tells p.around
  started-at os p e h = let P : List AroundTree → Type 0 = λ x. AreStarted tells x in subst P (sym e) h

  end-behind : (id : ℕ) (o : OpeningTree) → IsBehind (close_of tells id o) × (labels_of (close_of tells id o ∷ []) ≡ []) × (count_of (close_of tells id o ∷ []) ≡ 0) × IsQuiet (close_of tells id o) × (while_numbers (close_of tells id o ∷ []) ≡ [])
  end-behind id (opening_loop d) = (tt, refl, refl, refl, refl)
  end-behind id (opening_while l t) = (tt, refl, refl, refl, refl)
  end-behind id (branches arms test) = (tt, refl, refl, refl, refl)

  left-adds : (a : AroundTree) (os : List AroundTree) (p : SoFar) → AreStarted tells (a ∷ os) → AddsIn (a ∷ os) p (leave_block a os p)
  left-adds a os p h =
      let c = close_of tells a.id a.opening in let e = end-behind a.id a.opening in record {
        cards = c ∷ [];
        same = left-cards tells a os p h.first;
        labels = e.1;
        count = e.2;
        whiles = e.4;
        quiet = λ x. record { first = e.3; others = tt };
        behind = record { first = e.0; others = tt };
        heading = refl;
        started = h.others;
      }

  either-adds : (h : Heading) (before : List Card) (v : Bool) (x y : SoFar) → AddsEnds h before x → AddsEnds h before y → AddsEnds h before (if v then x else y)
  either-adds h before true x y g e = g
  either-adds h before false x y g e = e

  ended_by-adds : (l : ℕ) (os : List AroundTree) (p : SoFar) → p.around ≡ os → AreStarted tells os → AddsEnds p.heading (executed tells p) (leave_loops l os p)
  ended_by-adds l [] p e h = nothing-added p.heading (executed tells p) p refl refl (started-at [] p e h)
  ended_by-adds l (a ∷ os) p e h =
      let q = leave_block a os p in
      either-adds p.heading (executed tells p) (is_loop_to l a.opening) (leave_loops l os q) p
      (then-ends [] 0 [] false p.heading (executed tells p) q (leave_loops l os q) (at-around (a ∷ os) p q e (left-adds a os p h)) (ended_by-adds l os q refl h.others))
      (nothing-added p.heading (executed tells p) p refl refl (started-at (a ∷ os) p e h))

  ended_at-adds : (label : Option ℕ) (p : SoFar) → AreStarted tells p.around → AddsEnds p.heading (executed tells p) (end_loops_at label p)
  ended_at-adds None p h = nothing-added p.heading (executed tells p) p refl refl h
  ended_at-adds (Some l) p h = ended_by-adds l p.around p refl h

  closed_from-adds : (os : List AroundTree) (f : ℕ) (cs : List (List ℕ)) (p : SoFar) → p.around ≡ os → AreStarted tells os → AddsEnds p.heading (executed tells p) (close_innermost os f cs p)
  unfolding add_spot
  closed_from-adds [] f cs p e h = nothing-added p.heading (executed tells p) p refl refl (started-at [] p e h)
  closed_from-adds (a ∷ os) f cs p e h =
      let q = leave_block a os p in let x = at-around (a ∷ os) p q e (left-adds a os p h) in
      record { cards = x.cards; same = x.same; labels = x.labels; count = x.count; whiles = x.whiles; quiet = x.quiet; behind = x.behind; heading = x.heading; started = x.started }

  closed-adds : (f : ℕ) (cs : List (List ℕ)) (p : SoFar) → AreStarted tells p.around → AddsEnds p.heading (executed tells p) (close_block f cs p)
  closed-adds f cs p h = closed_from-adds p.around f cs p refl h

  -- ---- statements

  plain-cards : (id : ℕ) (label : Option ℕ) (w : WhatTree) → IsWhat w → cards_by tells id label w ≡ card (parts.Stmt id) label (simple w) ∷ []
  plain-cards id label (assign v e) h = refl
  plain-cards id label (call n es) h = refl
  plain-cards id label (goto l) h = refl
  plain-cards id label continue h = refl
  plain-cards id label return h = refl
  plain-cards id label (stop t) h = refl
  plain-cards id label (print es) h = refl
  plain-cards id label (read es) h = refl
  plain-cards id label (trees.block_if arms other) h = absurd h
  plain-cards id label (trees.logical_if e s) h = absurd h
  plain-cards id label (trees.do_loop l) h = absurd h

  -- one more stands in the open list
  list-added : (p : SoFar) (s : StmtTree) → around_cards tells p.around ++ cards_in tells (stmts_of (p.list ++ s ∷ [])) ≡ executed tells p ++ cards_of tells s
  list-added p s =
      ap (λ cs. around_cards tells p.around ++ cs) (list-cards tells p.list s) ∙ sym (append_assoc (around_cards tells p.around) (cards_in tells (stmts_of p.list)) (cards_of tells s))

  stated-adds : (f : ℕ) (label : Option ℕ) (cs : List (List ℕ)) (w : WhatTree) (p : SoFar) → IsWhat w → AreStarted tells p.around
      → Adds (listed label) 1 [] (is_return (action_of w)) p.heading (executed tells p) (add_executable f label cs w p)
  unfolding add_executable add_spot
  stated-adds f label cs w p i h =
      let n = p.count + 1 in let c = card (parts.Stmt n) label (simple w) in
      one-added c p.heading (executed tells p) (add_executable f label cs w p)
      (list-added p (stmt n label w) ∙ ap (λ x. executed tells p ++ x) (plain-cards n label w i)) tt refl h

  conditioned-adds : (f : ℕ) (label : Option ℕ) (cs : List (List ℕ)) (e : ExprTree) (w : WhatTree) (p : SoFar) → AreStarted tells p.around
      → Adds (listed label) 2 [] (is_return (action_of w)) p.heading (executed tells p) (add_logical_if f label cs e w p)
  unfolding add_logical_if add_spot
  conditioned-adds f label cs e w p h =
      let n = p.count + 1 in let s = stmt (n + 1) None w in
      one-added (within n label e s) p.heading (executed tells p) (add_logical_if f label cs e w p) (list-added p (stmt n label (trees.logical_if e s))) tt refl h

  opened : (p : SoFar) (x : List Card) → around_cards tells p.around ++ cards_in tells (stmts_of p.list) ++ x ++ [] ≡ executed tells p ++ x
  opened p x = append-nil (executed tells p ++ x)

  loop-adds : (f : ℕ) (label : Option ℕ) (cs : List (List ℕ)) (d : DoTree) (p : SoFar) → AreStarted tells p.around
      → Adds (listed label) 1 [] false p.heading (executed tells p) (open_block f label cs (opening_loop d) p)
  unfolding open_block add_spot
  loop-adds f label cs d p h =
      let c = card (parts.Stmt (p.count + 1)) label (head_of (trees.loop d.index d.first d.last d.step trees.no_stmts)) in
      one-added c p.heading (executed tells p) (open_block f label cs (opening_loop d) p) (opened p (c ∷ [])) tt refl (record { first = record { parts = tt; told = tt }; others = h })

  while-adds : (f : ℕ) (label : Option ℕ) (cs : List (List ℕ)) (l : Option ℕ) (e : ExprTree) (p : SoFar) → tells (p.count + 1) ≡ true → AreStarted tells p.around
      → Adds (listed label) 1 ((p.count + 1) ∷ []) false p.heading (executed tells p) (open_block f label cs (opening_while l e) (add_while p))
  unfolding open_block add_spot add_while
  while-adds f label cs l e p t h =
      let c = card (parts.Stmt (p.count + 1)) label (while_head None e) in
      one-added c p.heading (executed tells p) (open_block f label cs (opening_while l e) (add_while p)) (opened p (c ∷ [])) tt refl (record { first = record { parts = tt; told = t }; others = h })

  -- the first line of a block IF
  block-card : (id : ℕ) (label : Option ℕ) (e : ExprTree) (c : Bool) → c ≡ false → card (parts.Stmt id) label (if_head c e) ∷ [] ≡ card (parts.Stmt id) label (block_if e) ∷ []
  block-card id label e c t = ap (λ b. card (parts.Stmt id) label (if_head b e) ∷ []) t

  block-adds : (f : ℕ) (label : Option ℕ) (cs : List (List ℕ)) (e : ExprTree) (p : SoFar) → tells (p.count + 1) ≡ false → AreStarted tells p.around
      → Adds (listed label) 1 [] false p.heading (executed tells p) (open_block f label cs (branches [] (Some e)) p)
  unfolding open_block add_spot
  block-adds f label cs e p t h =
      let n = p.count + 1 in let c = card (parts.Stmt n) label (block_if e) in
      one-added c p.heading (executed tells p) (open_block f label cs (branches [] (Some e)) p)
      (opened p (card (parts.Stmt n) label (if_head (tells n) e) ∷ []) ∙ ap (λ x. executed tells p ++ x) (block-card n label e (tells n) t)) tt refl
      (record { first = record { parts = tt; told = t }; others = h })

  -- ---- parts

  regrouped : (a b o l c : List Card) → a ++ b ++ (o ++ l ++ c) ++ [] ≡ a ++ b ++ o ++ l ++ c
  regrouped a b o l c = simp (append_assoc, append-nil)

  -- the innermost block goes on behind this card
  part-cards : (a : AroundTree) (os : List AroundTree) (p : SoFar) (now c : List Card) → now ≡ open_cards tells a.id a.label a.opening ++ cards_in tells (stmts_of p.list) ++ c
      → around_cards tells os ++ cards_in tells (stmts_of a.before) ++ now ++ [] ≡ around_cards tells (a ∷ os) ++ cards_in tells (stmts_of p.list) ++ c
  part-cards a os p now c e =
      let x = around_cards tells os in let before = cards_in tells (stmts_of a.before) in
      ap (λ cs. x ++ before ++ cs ++ []) e ∙ regrouped x before (open_cards tells a.id a.label a.opening) (cards_in tells (stmts_of p.list)) c

  else_if-adds : (os : List AroundTree) (f : ℕ) (cs : List (List ℕ)) (e : ExprTree) (p : SoFar) → Divisible os → AreStarted tells os
      → AddsIn os p (divide_innermost os f cs (Some e) p)
  unfolding add_spot
  else_if-adds [] f cs e p d h = absurd d
  else_if-adds (a ∷ os) f cs e p d h =
      let r = part-another tells a.id a.label a.opening p.list e d in let c = card (parts.ElseIf a.id r.place) None (else_if e) in
      one-added c p.heading (around_cards tells (a ∷ os) ++ cards_in tells (stmts_of p.list)) (divide_innermost (a ∷ os) f cs (Some e) p)
      (part-cards a os p (open_cards tells a.id a.label (branches (close_arm a.opening p.list) (Some e))) (c ∷ []) r.same) tt refl
      (record { first = record { parts = tt; told = still-told tells (tells a.id) a.opening d h.first.told }; others = h.others })

  else-adds : (os : List AroundTree) (f : ℕ) (cs : List (List ℕ)) (p : SoFar) → Divisible os → AreStarted tells os → AddsIn os p (divide_innermost os f cs None p)
  unfolding add_spot
  else-adds [] f cs p d h = absurd d
  else-adds (a ∷ os) f cs p d h =
      let c = card (parts.Else a.id) None else_part in
      one-added c p.heading (around_cards tells (a ∷ os) ++ cards_in tells (stmts_of p.list)) (divide_innermost (a ∷ os) f cs None p)
      (part-cards a os p (open_cards tells a.id a.label (branches (close_arm a.opening p.list) None)) (c ∷ []) (part-last tells a.id a.label a.opening p.list d)) tt refl
      (record { first = record { parts = last-started tells a.opening p.list d; told = still-told tells (tells a.id) a.opening d h.first.told }; others = h.others })

  -- ---- each statement

  -- what the order asks of a statement
  abbrev pub AddsBy : PhraseTree → Option ℕ → SoFar → SoFar → Type 0
  AddsBy phrase label p q =
      Adds (listed (label_by (role_of phrase) label)) (statements_by (role_of phrase) label) (new_whiles phrase (p.count + 1)) (returns_in (role_of phrase)) (heading_by phrase p.heading) (executed tells p) q

  continued-adds : (f l : ℕ) (cs : List (List ℕ)) (p : SoFar) → AreStarted tells p.around → Adds (l ∷ []) 1 [] false p.heading (executed tells p) (add_continue f l cs p)
  continued-adds f l cs p h =
      let q = add_executable f (Some l) cs continue p in
      let x = stated-adds f (Some l) cs continue p tt h in
      then-ends (l ∷ []) 1 [] false p.heading (executed tells p) q (end_loops_at (Some l) q) x (ended_at-adds (Some l) q x.started)

  pub phrase-adds : (f : ℕ) (label : Option ℕ) (cs : List (List ℕ)) (phrase : PhraseTree) (p : SoFar) → IsPhrase phrase → Allowed phrase p.around → IsTold tells phrase (p.count + 1) → AreStarted tells p.around
      → AddsBy phrase label p (add_phrase f label cs phrase p)
  unfolding add_spot
  phrase-adds f label cs (program n) p i d t h = nothing-added _ (executed tells p) (add_phrase f label cs (program n) p) refl refl h
  phrase-adds f label cs (subroutine n ds) p i d t h = nothing-added _ (executed tells p) (add_phrase f label cs (subroutine n ds) p) refl refl h
  phrase-adds f label cs (function form n ds) p i d t h = nothing-added _ (executed tells p) (add_phrase f label cs (function form n ds) p) refl refl h
  phrase-adds f label cs (specification x) p i d t h = nothing-added _ (executed tells p) (add_phrase f label cs (specification x) p) refl refl h
  phrase-adds f label cs (simple w) p i d t h =
      let q = add_executable f label cs w p in let x = stated-adds f label cs w p i h in
      then-ends (listed label) 1 [] (is_return (action_of w)) p.heading (executed tells p) q (end_loops_at label q) x (ended_at-adds label q x.started)
  phrase-adds f label cs (logical_if e w) p i d t h =
      let q = add_logical_if f label cs e w p in let x = conditioned-adds f label cs e w p h in
      then-ends (listed label) 2 [] (is_return (action_of w)) p.heading (executed tells p) q (end_loops_at label q) x (ended_at-adds label q x.started)
  phrase-adds f label cs (block_if e) p i d t h = block-adds f label cs e p t h
  phrase-adds f label cs (else_if e) p i d t h = else_if-adds p.around f cs e p d h
  phrase-adds f label cs else_part p i d t h = else-adds p.around f cs p d h
  phrase-adds f None cs end_if p i d t h = closed-adds f cs p h
  phrase-adds f (Some l) cs end_if p i d t h =
      let q = close_block f cs p in let x = closed-adds f cs p h in let r = add_continue f l [] q in let y = continued-adds f l [] q x.started in
      ends-then (l ∷ []) 1 [] false p.heading (executed tells p) q r x y
  phrase-adds f label cs (do_head x) p i d t h = loop-adds f label cs x p h
  phrase-adds f label cs (while_head l e) p i d t h = while-adds f label cs l e p t h
  phrase-adds f None cs end_do p i d t h = closed-adds f cs p h
  phrase-adds f (Some l) cs end_do p i d t h =
      let q = add_continue f l cs p in let x = continued-adds f l cs p h in
      then-ends (l ∷ []) 1 [] false p.heading (executed tells p) q (close_block f [] q) x (closed-adds f [] q x.started)
  phrase-adds f None cs end_module p i d t h = nothing-added p.heading (executed tells p) (add_phrase f None cs end_module p) refl refl h
  phrase-adds f (Some l) cs end_module p i d t h =
      let x = continued-adds f l cs p h in
      record { cards = x.cards; same = x.same; labels = x.labels; count = x.count; whiles = x.whiles; quiet = x.quiet; behind = x.behind; heading = x.heading; started = x.started }
