-- In a module that was read the statement in a logical IF has no comments of its own.
use Rattle.std.proofs.Common.{◌≡◌, ℕ, ◌+◌, ◌<◌, ◌≤◌, Bool, true, false, List, [], ◌∷◌, ◌++◌, arith, refl, sym, ap, ◌∙◌, subst, append_assoc, append-nil}
use Rattle.std.specs.Prelude.{Option, Some, None, if◌then◌else◌}
use Rattle.std.proofs.lemmas.Bool.{eqb-true}
use Rattle.f77_ast.specs.declared.places.Part.{Part}
use Rattle.f77_ast.specs.declared.places.Part.TheVariants as parts
use Rattle.f77_ast.specs.declared.places.Spot.{Spot}
use Rattle.f77_ast.specs.Trees.{ExprTree, StmtTree, stmt, WhatTree, assign, call, goto, continue, return, stop, print, read, ArmTree, arm}
use Rattle.f77_ast.specs.Trees as trees
use Rattle.f77_ast.specs.DeclTrees.{DeclTree}
use Rattle.f77_ast.specs.PlainStmt.{stmts_of, arms_of}
use Rattle.f77_printer.specs.PageText.{is_part}
use Rattle.f77_statements.specs.Phrases.{PhraseTree, program, subroutine, function, specification, simple, logical_if, block_if, else_if, else_part, end_if, do_head, while_head, end_do, end_module}
use Rattle.f77_parser.specs.Statements.{StatementTree}
use Rattle.f77_parser.specs.SoFar.{OpeningTree, opening_loop, opening_while, branches, AroundTree, SoFar, spot, add_spot, add_executable, add_logical_if, open_block, add_while, what_of, leave_block, is_loop_to, leave_loops, end_loops_at, close_innermost, close_block}
use Rattle.f77_parser.specs.Building.{close_arm, divide_innermost, add_continue, add_phrase, add_statement, add_all, no_statements, written_module, build_module}
use Rattle.f77_parser.specs.Elaborated.{meant_in}
use Rattle.laws_programs.specs.roundtrip_programs.Statements.Formed.{Each}
use Rattle.laws_programs.specs.roundtrip_programs.Statements.Phrased.{IsWhat, IsPhrase}
use Rattle.laws_programs.specs.roundtrip_programs.ModuleTexts.Cards.{Card, card, cards_of, cards_by, if_end, block_cards, part_cards, cards_in, title_cards, decl_cards, written_cards, statements_of}
use Rattle.laws_programs.specs.roundtrip_programs.ModuleTexts.Numbered.{IsAsWritten}
use Rattle.laws_programs.proofs.RoundtripPrograms.ModuleTexts.Kept.{Each-append, each-map}
use Rattle.laws_programs.proofs.RoundtripPrograms.ModuleTexts.FoldedLaws.{cards_back}

-- ---- which spots a statement adds

-- of a statement, it has a number behind the first, up to the second
abbrev IsNew : ℕ → ℕ → Part → Type 0
IsNew a b (parts.Stmt i) = (a < i) × (i ≤ b)
IsNew a b parts.Title = Unit {0}
IsNew a b (parts.Decl n) = Unit {0}
IsNew a b (parts.ElseIf n k) = Unit {0}
IsNew a b (parts.Else n) = Unit {0}
IsNew a b (parts.Close n) = Unit {0}
IsNew a b parts.End = Unit {0}

wider_at : (a b c d : ℕ) (part : Part) → c ≤ a → b ≤ d → IsNew a b part → IsNew c d part
wider_at a b c d (parts.Stmt i) l m h = let k = h.0 in let o = h.1 in (omega (arith, l, k), omega (arith, m, o))
wider_at a b c d parts.Title l m h = tt
wider_at a b c d (parts.Decl n) l m h = tt
wider_at a b c d (parts.ElseIf n k) l m h = tt
wider_at a b c d (parts.Else n) l m h = tt
wider_at a b c d (parts.Close n) l m h = tt
wider_at a b c d parts.End l m h = tt

abbrev AreNew : ℕ → ℕ → List Spot → Type 0
AreNew a b ss = Each (λ (s : Spot). IsNew a b s.part) ss

wider : (a b c d : ℕ) (ss : List Spot) → c ≤ a → b ≤ d → AreNew a b ss → AreNew c d ss
wider a b c d ss l m h = each-map (λ (s : Spot). IsNew a b s.part) (λ (s : Spot). IsNew c d s.part) ss (λ s k. wider_at a b c d s.part l m k) h

-- from what is so far to what is then
record Goes (p q : SoFar) : Type 0 where
  counts : p.count ≤ q.count
  more : List Spot
  spots : q.spots ≡ p.spots ++ more
  new : AreNew p.count q.count more

stays : (p q : SoFar) → q.count ≡ p.count → q.spots ≡ p.spots → Goes p q
stays p q n s = record { counts = omega (arith, n); more = []; spots = s ∙ sym (append-nil p.spots); new = tt }

chained : (p q r : SoFar) → Goes p q → Goes q r → Goes p r
chained p q r g h =
    let l = g.counts in let m = h.counts in
    record {
      counts = omega (arith, l, m);
      more = g.more ++ h.more;
      spots = h.spots ∙ ap (λ (x : List Spot). x ++ h.more) g.spots ∙ append_assoc p.spots g.more h.more;
      new = Each-append (λ (s : Spot). IsNew p.count r.count s.part) g.more h.more (wider p.count q.count p.count r.count g.more (omega arith) m g.new) (wider q.count r.count p.count r.count h.more l (omega arith) h.new);
    }

-- one spot more, where the number of statements does not change
one_more : (part : Part) (f : ℕ) (cs : List (List ℕ)) (p : SoFar) → IsNew p.count p.count part → Goes p (add_spot part f cs p)
unfolding add_spot
one_more part f cs p h = record { counts = omega arith; more = spot part f cs ∷ []; spots = refl; new = record { first = h; others = tt } }

stated_goes : (f : ℕ) (label : Option ℕ) (cs : List (List ℕ)) (w : WhatTree) (p : SoFar) → Goes p (add_executable f label cs w p)
unfolding add_executable add_spot
stated_goes f label cs w p =
    record { counts = omega arith; more = spot (parts.Stmt (p.count + 1)) f cs ∷ []; spots = refl; new = record { first = (omega arith, omega arith); others = tt } }

conditioned_goes : (f : ℕ) (label : Option ℕ) (cs : List (List ℕ)) (e : ExprTree) (w : WhatTree) (p : SoFar) → Goes p (add_logical_if f label cs e w p)
unfolding add_logical_if add_spot
conditioned_goes f label cs e w p = record {
  counts = omega arith;
  more = spot (parts.Stmt (p.count + 1)) f cs ∷ (spot (parts.Stmt (p.count + 1 + 1)) f [] ∷ []);
  spots = append_assoc p.spots (spot (parts.Stmt (p.count + 1)) f cs ∷ []) (spot (parts.Stmt (p.count + 1 + 1)) f [] ∷ []);
  new = record { first = (omega arith, omega arith); others = record { first = (omega arith, omega arith); others = tt } };
}

entered_goes : (f : ℕ) (label : Option ℕ) (cs : List (List ℕ)) (o : OpeningTree) (p : SoFar) → Goes p (open_block f label cs o p)
unfolding open_block add_spot
entered_goes f label cs o p =
    record { counts = omega arith; more = spot (parts.Stmt (p.count + 1)) f cs ∷ []; spots = refl; new = record { first = (omega arith, omega arith); others = tt } }

either_same : (v : Bool) (x y p : SoFar) → (x.count ≡ p.count) × (x.spots ≡ p.spots) → (y.count ≡ p.count) × (y.spots ≡ p.spots) → ((if v then x else y).count ≡ p.count) × ((if v then x else y).spots ≡ p.spots)
either_same true x y p h k = h
either_same false x y p h k = k

ended_same : (l : ℕ) (os : List AroundTree) (p : SoFar) → ((leave_loops l os p).count ≡ p.count) × ((leave_loops l os p).spots ≡ p.spots)
ended_same l [] p = (refl, refl)
ended_same l (a ∷ os) p = either_same (is_loop_to l a.opening) (leave_loops l os (leave_block a os p)) p p (ended_same l os (leave_block a os p)) (refl, refl)

at_goes : (label : Option ℕ) (p : SoFar) → Goes p (end_loops_at label p)
at_goes None p = stays p p refl refl
at_goes (Some l) p = let s = ended_same l p.around p in stays p (end_loops_at (Some l) p) s.0 s.1

closed_goes : (os : List AroundTree) (f : ℕ) (cs : List (List ℕ)) (p : SoFar) → Goes p (close_innermost os f cs p)
closed_goes [] f cs p = stays p p refl refl
closed_goes (a ∷ os) f cs p =
    chained p (leave_block a os p) (close_innermost (a ∷ os) f cs p) (stays p (leave_block a os p) refl refl) (one_more (parts.Close a.id) f cs (leave_block a os p) tt)

divided_goes : (os : List AroundTree) (f : ℕ) (cs : List (List ℕ)) (test : Option ExprTree) (p : SoFar) → Goes p (divide_innermost os f cs test p)
unfolding add_spot
divided_goes [] f cs test p = stays p p refl refl
divided_goes (a ∷ os) f cs None p = record { counts = omega arith; more = spot _ f cs ∷ []; spots = refl; new = record { first = tt; others = tt } }
divided_goes (a ∷ os) f cs (Some e) p = record { counts = omega arith; more = spot _ f cs ∷ []; spots = refl; new = record { first = tt; others = tt } }

continued_goes : (f l : ℕ) (cs : List (List ℕ)) (p : SoFar) → Goes p (add_continue f l cs p)
continued_goes f l cs p =
    let q = add_executable f (Some l) cs continue p in
    chained p q (add_continue f l cs p) (stated_goes f (Some l) cs continue p) (at_goes (Some l) q)

while_goes : (f : ℕ) (label : Option ℕ) (cs : List (List ℕ)) (o : OpeningTree) (p : SoFar) → Goes p (open_block f label cs o (add_while p))
unfolding add_while
while_goes f label cs o p = let g = entered_goes f label cs o (add_while p) in record { counts = g.counts; more = g.more; spots = g.spots; new = g.new }

phrase_goes : (f : ℕ) (label : Option ℕ) (cs : List (List ℕ)) (phrase : PhraseTree) (p : SoFar) → Goes p (add_phrase f label cs phrase p)
unfolding add_spot
phrase_goes f label cs (program n) p = record { counts = omega arith; more = spot parts.Title f cs ∷ []; spots = refl; new = record { first = tt; others = tt } }
phrase_goes f label cs (subroutine n ds) p = record { counts = omega arith; more = spot parts.Title f cs ∷ []; spots = refl; new = record { first = tt; others = tt } }
phrase_goes f label cs (function form n ds) p = record { counts = omega arith; more = spot parts.Title f cs ∷ []; spots = refl; new = record { first = tt; others = tt } }
phrase_goes f label cs (specification d) p = record { counts = omega arith; more = spot (parts.Decl _) f cs ∷ []; spots = refl; new = record { first = tt; others = tt } }
phrase_goes f label cs (simple w) p = let q = add_executable f label cs w p in chained p q (end_loops_at label q) (stated_goes f label cs w p) (at_goes label q)
phrase_goes f label cs (logical_if e w) p = let q = add_logical_if f label cs e w p in chained p q (end_loops_at label q) (conditioned_goes f label cs e w p) (at_goes label q)
phrase_goes f label cs (block_if e) p = entered_goes f label cs (branches [] (Some e)) p
phrase_goes f label cs (else_if e) p = divided_goes p.around f cs (Some e) p
phrase_goes f label cs else_part p = divided_goes p.around f cs None p
phrase_goes f None cs end_if p = closed_goes p.around f cs p
phrase_goes f (Some l) cs end_if p = let q = close_block f cs p in chained p q (add_continue f l [] q) (closed_goes p.around f cs p) (continued_goes f l [] q)
phrase_goes f label cs (do_head d) p = entered_goes f label cs (opening_loop _) p
phrase_goes f label cs (while_head l e) p = while_goes f label cs (opening_while l e) p
phrase_goes f None cs end_do p = closed_goes p.around f cs p
phrase_goes f (Some l) cs end_do p = let q = add_continue f l cs p in chained p q (close_block f [] q) (continued_goes f l cs p) (closed_goes q.around f [] q)
phrase_goes f None cs end_module p = one_more parts.End f cs p tt
phrase_goes f (Some l) cs end_module p = let q = add_continue f l cs p in chained p q (add_spot parts.End f [] q) (continued_goes f l cs p) (one_more parts.End f [] q tt)

all_go : (ss : List StatementTree) (p : SoFar) → Goes p (add_all ss p)
all_go [] p = stays p p refl refl
all_go (s ∷ ss) p = chained p (add_statement s p) (add_all ss (add_statement s p)) (phrase_goes s.first s.label s.comments s.phrase p) (all_go ss (add_statement s p))

-- ---- spots without comments

-- none of this part has comments
abbrev pub Bare : List Spot → Part → Type 0
Bare ss part = Each (λ (s : Spot). is_part part s.part ≡ true → s.comments ≡ []) ss

other_at : (j a b : ℕ) (part : Part) (cs : List (List ℕ)) → ((i : ℕ) → a < i → i ≤ b → j ≡ i → ⊥) → IsNew a b part → is_part (parts.Stmt j) part ≡ true → cs ≡ []
other_at j a b (parts.Stmt i) cs f h e = absurd (f i h.0 h.1 (eqb-true j i e))
other_at j a b parts.Title cs f h e = cc
other_at j a b (parts.Decl n) cs f h e = cc
other_at j a b (parts.ElseIf n k) cs f h e = cc
other_at j a b (parts.Else n) cs f h e = cc
other_at j a b (parts.Close n) cs f h e = cc
other_at j a b parts.End cs f h e = cc

others_bare : (j a b : ℕ) (ss : List Spot) → ((i : ℕ) → a < i → i ≤ b → j ≡ i → ⊥) → AreNew a b ss → Bare ss (parts.Stmt j)
others_bare j a b ss f h = each-map (λ (s : Spot). IsNew a b s.part) (λ (s : Spot). is_part (parts.Stmt j) s.part ≡ true → s.comments ≡ []) ss (λ s k e. other_at j a b s.part s.comments f k e) h

-- the statement of a logical IF, when all statements are there
inner_bare : (f : ℕ) (label : Option ℕ) (cs : List (List ℕ)) (e : ExprTree) (w : WhatTree) (p : SoFar) (q : SoFar) → AreNew 0 p.count p.spots → Goes (add_logical_if f label cs e w p) q → Bare q.spots (parts.Stmt (p.count + 1 + 1))
unfolding add_logical_if add_spot
inner_bare f label cs e w p q old g =
    let n = p.count + 1 + 1 in
    let B = λ (s : Spot). is_part (parts.Stmt n) s.part ≡ true → s.comments ≡ [] in
    let one = spot (parts.Stmt (p.count + 1)) f cs ∷ [] in
    let two = spot (parts.Stmt n) f [] ∷ [] in
    let first : Bare one (parts.Stmt n) = others_bare n p.count (p.count + 1) one (λ i a b h. omega (arith, b, h)) (record { first = (omega arith, omega arith); others = tt }) in
    let all = Each-append B (p.spots ++ one) two (Each-append B p.spots one (others_bare n 0 p.count p.spots (λ i a b h. omega (arith, b, h)) old) first) (record { first = λ h. refl; others = tt }) in
    let later = others_bare n n q.count g.more (λ i a b h. omega (arith, a, h)) g.new in
    subst (λ (ss : List Spot). Bare ss (parts.Stmt n)) (sym g.spots) (Each-append B ((p.spots ++ one) ++ two) g.more all later)

-- ---- the statements in logical IFs

module _ (Q : Part → Type 0) where
  abbrev pub InnerHolds : Option Part → Type 0
  InnerHolds None = Unit {0}
  InnerHolds (Some part) = Q part

  abbrev pub AllInner : List Card → Type 0
  AllInner cs = Each (λ (c : Card). InnerHolds c.inner) cs

  join : (xs ys : List Card) → AllInner xs → AllInner ys → AllInner (xs ++ ys)
  join xs ys h e = Each-append (λ (c : Card). InnerHolds c.inner) xs ys h e

  -- of a logical IF it is asked of the statement in it
  abbrev Asked : PhraseTree → SoFar → Type 0
  Asked (logical_if e w) p = Q (parts.Stmt (p.count + 1 + 1))
  Asked _ p = Unit {0}

  titles : (b : Bool) (c : Card) → InnerHolds c.inner → AllInner (if b then c ∷ [] else [])
  titles true c h = record { first = h; others = tt }
  titles false c h = tt

module _ (Q : Part → Type 0) (told : ℕ → Bool) where
  abbrev ListHolds : List StmtTree → Type 0
  ListHolds l = AllInner Q (cards_in told (stmts_of l))

  behind_these : (xs ys zs : List Card) → AllInner Q (xs ++ ys) → (AllInner Q ys → AllInner Q zs) → AllInner Q (xs ++ zs)
  behind_these [] ys zs h e = e h
  behind_these (c ∷ xs) ys zs h e = record { first = h.first; others = behind_these xs ys zs h.others e }

  list_more : (l : List StmtTree) (s : StmtTree) → ListHolds l → AllInner Q (cards_of told s) → ListHolds (l ++ s ∷ [])
  list_more [] s h e = join Q (cards_of told s) [] e tt
  list_more (x ∷ l) s h e = behind_these (cards_of told x) (cards_in told (stmts_of l)) (cards_in told (stmts_of (l ++ s ∷ []))) h (λ g. list_more l s g e)

  abbrev PartHolds : ArmTree → Type 0
  PartHolds (arm test body) = AllInner Q (cards_in told body)

  parts_hold : (id place : ℕ) (l : List ArmTree) (end : List Card) → Each PartHolds l → AllInner Q end → AllInner Q (part_cards told id place (arms_of l) end)
  parts_hold id place [] end h e = e
  parts_hold id place (arm test body ∷ l) end h e =
      record { first = tt; others = join Q (cards_in told body) (part_cards told id (place + 1) (arms_of l) end) h.first (parts_hold id (place + 1) l end h.others e) }

  block_holds : (id : ℕ) (label : Option ℕ) (l : List ArmTree) (end : List Card) → Each PartHolds l → AllInner Q end → AllInner Q (block_cards told id label (arms_of l) end)
  block_holds id label [] end h e = tt
  block_holds id label (arm test body ∷ l) end h e = record { first = tt; others = join Q (cards_in told body) (part_cards told id 1 (arms_of l) end) h.first (parts_hold id 1 l end h.others e) }

  abbrev OpeningHolds : OpeningTree → Type 0
  OpeningHolds (opening_loop d) = Unit {0}
  OpeningHolds (opening_while l e) = Unit {0}
  OpeningHolds (branches arms test) = Each PartHolds arms

  abbrev AroundHolds : AroundTree → Type 0
  AroundHolds a = ListHolds a.before × OpeningHolds a.opening

  closed_arms : (o : OpeningTree) (l : List StmtTree) → OpeningHolds o → ListHolds l → Each PartHolds (close_arm o l)
  closed_arms (opening_loop d) l h g = tt
  closed_arms (opening_while k e) l h g = tt
  closed_arms (branches arms (Some test)) l h g = Each-append PartHolds arms (arm test (stmts_of l) ∷ []) h (record { first = g; others = tt })
  closed_arms (branches arms None) l h g = h

  whole_holds : (id : ℕ) (label : Option ℕ) (o : OpeningTree) (l : List StmtTree) → OpeningHolds o → ListHolds l → AllInner Q (cards_of told (stmt id label (what_of o l)))
  whole_holds id label (opening_loop d) l o h = record { first = tt; others = join Q (cards_in told (stmts_of l)) (card (parts.Close id) None end_do ∷ []) h (record { first = tt; others = tt }) }
  whole_holds id label (opening_while k e) l o h = record { first = tt; others = join Q (cards_in told (stmts_of l)) (card (parts.Close id) None (if_end (told id)) ∷ []) h (record { first = tt; others = tt }) }
  whole_holds id label (branches arms (Some test)) l o h =
      block_holds id label (arms ++ arm test (stmts_of l) ∷ []) (card (parts.Close id) None (if_end (told id)) ∷ []) (Each-append PartHolds arms (arm test (stmts_of l) ∷ []) o (record { first = h; others = tt }))
      (record { first = tt; others = tt })
  whole_holds id label (branches arms None) l o h =
      block_holds id label arms (card (parts.Else id) None else_part ∷ cards_in told (stmts_of l) ++ card (parts.Close id) None (if_end (told id)) ∷ []) o
      (record { first = tt; others = join Q (cards_in told (stmts_of l)) (card (parts.Close id) None (if_end (told id)) ∷ []) h (record { first = tt; others = tt }) })

  record Holds (p : SoFar) : Type 0 where
    list : ListHolds p.list
    around : Each AroundHolds p.around

  left_holds : (a : AroundTree) (os : List AroundTree) (p : SoFar) → AroundHolds a → Each AroundHolds os → Holds p → Holds (leave_block a os p)
  left_holds a os p h e g = record { around = e; list = list_more a.before (stmt a.id a.label (what_of a.opening p.list)) h.0 (whole_holds a.id a.label a.opening p.list h.1 g.list) }

  either_holds : (v : Bool) (x y : SoFar) → Holds x → Holds y → Holds (if v then x else y)
  either_holds true x y h e = h
  either_holds false x y h e = e

  ended_holds : (l : ℕ) (os : List AroundTree) (p : SoFar) → Each AroundHolds os → Holds p → Holds (leave_loops l os p)
  ended_holds l [] p h g = g
  ended_holds l (a ∷ os) p h g =
      either_holds (is_loop_to l a.opening) (leave_loops l os (leave_block a os p)) p (ended_holds l os (leave_block a os p) h.others (left_holds a os p h.first h.others g)) g

  at_holds : (label : Option ℕ) (p : SoFar) → Holds p → Holds (end_loops_at label p)
  at_holds None p g = g
  at_holds (Some l) p g = ended_holds l p.around p g.around g

  closed_holds : (os : List AroundTree) (f : ℕ) (cs : List (List ℕ)) (p : SoFar) → Each AroundHolds os → Holds p → Holds (close_innermost os f cs p)
  unfolding add_spot
  closed_holds [] f cs p h g = g
  closed_holds (a ∷ os) f cs p h g = let x = left_holds a os p h.first h.others g in record { list = x.list; around = x.around }

  simple_holds : (id : ℕ) (label : Option ℕ) (w : WhatTree) → IsWhat w → AllInner Q (cards_by told id label w)
  simple_holds id label (assign v e) f = record { first = tt; others = tt }
  simple_holds id label (call c es) f = record { first = tt; others = tt }
  simple_holds id label (goto t) f = record { first = tt; others = tt }
  simple_holds id label continue f = record { first = tt; others = tt }
  simple_holds id label return f = record { first = tt; others = tt }
  simple_holds id label (stop t) f = record { first = tt; others = tt }
  simple_holds id label (print es) f = record { first = tt; others = tt }
  simple_holds id label (read es) f = record { first = tt; others = tt }
  simple_holds id label (trees.block_if arms other) f = absurd f
  simple_holds id label (trees.logical_if e s) f = absurd f
  simple_holds id label (trees.do_loop l) f = absurd f

  stated_holds : (f : ℕ) (label : Option ℕ) (cs : List (List ℕ)) (w : WhatTree) (p : SoFar) → IsWhat w → Holds p → Holds (add_executable f label cs w p)
  unfolding add_executable add_spot
  stated_holds f label cs w p i g = record { around = g.around; list = list_more p.list (stmt (p.count + 1) label w) g.list (simple_holds (p.count + 1) label w i) }

  conditioned_holds : (f : ℕ) (label : Option ℕ) (cs : List (List ℕ)) (e : ExprTree) (w : WhatTree) (p : SoFar) → Q (parts.Stmt (p.count + 1 + 1)) → Holds p → Holds (add_logical_if f label cs e w p)
  unfolding add_logical_if add_spot
  conditioned_holds f label cs e w p h g =
      record { around = g.around; list = list_more p.list (stmt (p.count + 1) label (trees.logical_if e (stmt (p.count + 1 + 1) None w))) g.list (record { first = h; others = tt }) }

  entered_holds : (f : ℕ) (label : Option ℕ) (cs : List (List ℕ)) (o : OpeningTree) (p : SoFar) → OpeningHolds o → Holds p → Holds (open_block f label cs o p)
  unfolding open_block add_spot
  entered_holds f label cs o p h g = record { list = tt; around = record { first = (g.list, h); others = g.around } }

  begun_holds : (p : SoFar) → Holds p → Holds (add_while p)
  unfolding add_while
  begun_holds p g = record { list = g.list; around = g.around }

  divided_holds : (os : List AroundTree) (f : ℕ) (cs : List (List ℕ)) (test : Option ExprTree) (p : SoFar) → Each AroundHolds os → Holds p → Holds (divide_innermost os f cs test p)
  unfolding add_spot
  divided_holds [] f cs test p h g = g
  divided_holds (a ∷ os) f cs test p h g = record { list = tt; around = record { first = (h.first.0, closed_arms a.opening p.list h.first.1 g.list); others = h.others } }

  continued_holds : (f l : ℕ) (cs : List (List ℕ)) (p : SoFar) → Holds p → Holds (add_continue f l cs p)
  continued_holds f l cs p g = at_holds (Some l) (add_executable f (Some l) cs continue p) (stated_holds f (Some l) cs continue p tt g)

  phrase_holds : (f : ℕ) (label : Option ℕ) (cs : List (List ℕ)) (phrase : PhraseTree) (p : SoFar) → IsPhrase phrase → Asked Q phrase p → Holds p → Holds (add_phrase f label cs phrase p)
  unfolding add_spot
  phrase_holds f label cs (program n) p m h g = record { list = g.list; around = g.around }
  phrase_holds f label cs (subroutine n ds) p m h g = record { list = g.list; around = g.around }
  phrase_holds f label cs (function form n ds) p m h g = record { list = g.list; around = g.around }
  phrase_holds f label cs (specification d) p m h g = record { list = g.list; around = g.around }
  phrase_holds f label cs (simple w) p m h g = at_holds label (add_executable f label cs w p) (stated_holds f label cs w p m g)
  phrase_holds f label cs (logical_if e w) p m h g = at_holds label (add_logical_if f label cs e w p) (conditioned_holds f label cs e w p h g)
  phrase_holds f label cs (block_if e) p m h g = entered_holds f label cs (branches [] (Some e)) p tt g
  phrase_holds f label cs (else_if e) p m h g = divided_holds p.around f cs (Some e) p g.around g
  phrase_holds f label cs else_part p m h g = divided_holds p.around f cs None p g.around g
  phrase_holds f None cs end_if p m h g = closed_holds p.around f cs p g.around g
  phrase_holds f (Some l) cs end_if p m h g = continued_holds f l [] (close_block f cs p) (closed_holds p.around f cs p g.around g)
  phrase_holds f label cs (do_head d) p m h g = entered_holds f label cs (opening_loop d) p tt g
  phrase_holds f label cs (while_head l e) p m h g = entered_holds f label cs (opening_while l e) (add_while p) tt (begun_holds p g)
  phrase_holds f None cs end_do p m h g = closed_holds p.around f cs p g.around g
  phrase_holds f (Some l) cs end_do p m h g = let q = add_continue f l cs p in let c = continued_holds f l cs p g in closed_holds q.around f [] q c.around c
  phrase_holds f None cs end_module p m h g = record { list = g.list; around = g.around }
  phrase_holds f (Some l) cs end_module p m h g = let c = continued_holds f l cs p g in record { list = c.list; around = c.around }

-- what is asked of a statement, when all others are there
asked_bare : (f : ℕ) (label : Option ℕ) (cs : List (List ℕ)) (phrase : PhraseTree) (p q : SoFar) → AreNew 0 p.count p.spots → Goes (add_phrase f label cs phrase p) q → Asked (Bare q.spots) phrase p
asked_bare f label cs (logical_if e w) p q old g =
    let r = add_logical_if f label cs e w p in
    inner_bare f label cs e w p q old (chained r (end_loops_at label r) q (at_goes label r) g)
asked_bare f label cs (program n) p q old g = tt
asked_bare f label cs (subroutine n ds) p q old g = tt
asked_bare f label cs (function form n ds) p q old g = tt
asked_bare f label cs (specification d) p q old g = tt
asked_bare f label cs (simple w) p q old g = tt
asked_bare f label cs (block_if e) p q old g = tt
asked_bare f label cs (else_if e) p q old g = tt
asked_bare f label cs else_part p q old g = tt
asked_bare f label cs end_if p q old g = tt
asked_bare f label cs (do_head d) p q old g = tt
asked_bare f label cs (while_head l e) p q old g = tt
asked_bare f label cs end_do p q old g = tt
asked_bare f label cs end_module p q old g = tt

older : (p q : SoFar) → Goes p q → AreNew 0 p.count p.spots → AreNew 0 q.count q.spots
older p q g h =
    let l = g.counts in
    subst (AreNew 0 q.count) (sym g.spots)
    (Each-append (λ (s : Spot). IsNew 0 q.count s.part) p.spots g.more (wider 0 p.count 0 q.count p.spots (omega arith) l h) (wider p.count q.count 0 q.count g.more (omega arith) (omega arith) g.new))

abbrev pub ArePhrases : List StatementTree → Type 0
ArePhrases ss = Each (λ (s : StatementTree). IsPhrase s.phrase) ss

all_hold : (told : ℕ → Bool) (ss : List StatementTree) (p q : SoFar) → q ≡ add_all ss p → ArePhrases ss → AreNew 0 p.count p.spots → Holds (Bare q.spots) told p
    → Holds (Bare q.spots) told (add_all ss p)
all_hold told [] p q e h old g = g
all_hold told (s ∷ ss) p q e h old g =
    let r = add_statement s p in
    let go = phrase_goes s.first s.label s.comments s.phrase p in
    let asked = asked_bare s.first s.label s.comments s.phrase p q old (subst (Goes r) (sym e) (all_go ss r)) in
    all_hold told ss r q e h.others (older p r go old) (phrase_holds (Bare q.spots) told s.first s.label s.comments s.phrase p h.first asked g)

bare_decls : (Q : Part → Type 0) (place : ℕ) (ds : List DeclTree) → AllInner Q (decl_cards place ds)
bare_decls Q place [] = tt
bare_decls Q place (d ∷ ds) = record { first = tt; others = bare_decls Q (place + 1) ds }

-- no spot of the statement in a logical IF of a module has comments
written_bare : (closing : List (List ℕ)) (ss : List StatementTree) → ArePhrases ss
    → AllInner (Bare (written_module closing ss).places.spots) (written_cards (written_module closing ss).module_read)
unfolding written_module written_cards
written_bare closing ss h =
    let p = add_all ss no_statements in
    let Q = Bare p.spots in
    let m = (written_module closing ss).module_read in
    let told = (meant_in m).is_while in
    let g = all_hold told ss no_statements p refl h tt (record { list = tt; around = tt }) in
    let title = title_cards m in let decls = decl_cards 0 m.decls in let body = cards_in told m.body in
    join Q (title ++ decls ++ body) (card parts.End None end_module ∷ []) (join Q (title ++ decls) body (join Q title decls (titles Q _ _ tt) (bare_decls Q 0 m.decls)) g.list) (record { first = tt; others = tt })

pub built_bare : (closing : List (List ℕ)) (ss : List StatementTree) → ArePhrases ss → IsAsWritten (written_module closing ss).module_read
    → AllInner (Bare (build_module closing ss).places.spots) (statements_of (build_module closing ss).module_read)
unfolding build_module
built_bare closing ss h w =
    let q = written_module closing ss in
    subst (AllInner (Bare q.places.spots)) (sym (cards_back q.module_read w)) (written_bare closing ss h)
