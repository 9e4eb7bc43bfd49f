-- What is written of modules has no fault of an assignment of the value of a function.
use Rattle.std.proofs.Common.{◌≡◌, ℕ, ◌+◌, Bool, true, false, List, [], ◌∷◌, ◌++◌, map, Option, Some, None, refl, sym, ap, ◌∙◌, subst, append_assoc, append-nil}
use Rattle.std.specs.Prelude.{if◌then◌else◌, ◌&&◌, ◌||◌, not, bytes_eq}
use Rattle.fx_lists.proofs.Booleans.{or_here, or_there}
use Rattle.f77_ast.specs.declared.places.Part.TheVariants as parts
use Rattle.f77_ast.specs.Trees.{ExprTree, StmtTree, stmt, WhatTree, assign, do_loop, call, goto, continue, return, stop, print, read, arm, ArmTrees, no_arms, more_arms, ElseTree, no_else, otherwise, LoopTree, loop, StmtTrees, no_stmts, more_stmts}
use Rattle.f77_ast.specs.Trees as trees
use Rattle.f77_ast.specs.DeclTrees.{DeclTree, ModuleTree, ParsedTree}
use Rattle.f77_statements.specs.Phrases.{PhraseTree, program, subroutine, function, specification, simple, logical_if, block_if, else_if, else_part, end_if, do_head, while_head, end_do, end_module}
use Rattle.f77_structure.specs.declared.order.Order.{Order}
use Rattle.f77_structure.specs.Order.{is_out_of_order, check_next, all_ordered, nothing_ordered}
use Rattle.f77_parser.specs.Roles.{role_of}
use Rattle.f77_parser.specs.Statements.{StatementTree, mark_of, marks_of}
use Rattle.f77_parser.specs.SoFar.{SoFar}
use Rattle.f77_parser.specs.Functions.{has, bounded_names, is_external}
use Rattle.f77_parser.specs.Ends.{ends_module, decls_by, decls_to_end}
use Rattle.f77_parser.specs.Elaborated.{meant_in, elaborated}
use Rattle.f77_parser.specs.Standing.{phrase_names, statement_names, heading_names, title_names, standing}
use Rattle.f77_parser.specs.References.{Application, assigned_by, is_bad_call, empty_call_fault, is_bad_reference, bad_reference_from, reference_fault}
use Rattle.f77_parser.specs.Building.{add_statement, add_all, no_statements, written_module, build_module}
use Rattle.roundtrip_programs.specs.Statements.Formed.{Each}
use Rattle.roundtrip_programs.specs.Statements.Phrased.{IsPhrase}
use Rattle.roundtrip_programs.specs.Statements.Written.{as_written}
use Rattle.roundtrip_programs.specs.ModuleTexts.Cards.{Card, card, if_head, if_end, cards_of, cards_by, block_cards, part_cards, else_cards, cards_in, head_phrase, title_of, title_cards, decl_cards, statements_of}
use Rattle.roundtrip_programs.specs.ModuleTexts.Folded.{folded}
use Rattle.roundtrip_programs.specs.ModuleTexts.ModuleLaws.{Labelled, of_statement, of_card, AreWritten}
use Rattle.roundtrip_programs.proofs.Statements.Phrases.{statements_read_back}
use Rattle.roundtrip_programs.proofs.ModuleTexts.Alone.{some-first, first-same}
use Rattle.roundtrip_programs.proofs.ModuleTexts.Cards.{Any as AnyLabel}
use Rattle.roundtrip_programs.proofs.ModuleTexts.Each.{Each-append, each-map}
use Rattle.roundtrip_programs.proofs.ModuleTexts.Kept.{Kind, Stated, Held, all_held}
use Rattle.roundtrip_programs.proofs.Assigned.{NoEnd, NoCalls, both-uncalled}
use Rattle.roundtrip_programs.proofs.ModuleTexts.Steady.{no-fault as ordered}
use Rattle.roundtrip_programs.proofs.Written.Beginning.{taken, found-before, phrase-decls}
use Rattle.roundtrip_programs.proofs.Texts.Read.{IsSourced, IsParsed}

-- ---- the specification statements of a module

abbrev decls_among : List PhraseTree → List DeclTree
decls_among [] = []
decls_among (p ∷ ps) = decls_by p ++ decls_among ps

abbrev said : List StatementTree → List PhraseTree
said ss = map (λ (s : StatementTree). s.phrase) ss

-- those that were read are those of the module
add-decls : (ss : List StatementTree) (p : SoFar) → (add_all ss p).decls ≡ p.decls ++ decls_among (said ss)
add-decls [] p = sym (append-nil p.decls)
add-decls (s ∷ ss) p =
    add-decls ss (add_statement s p)
    ∙ ap (λ ds. ds ++ decls_among (said ss)) (phrase-decls s.first s.label s.comments s.phrase p)
    ∙ append_assoc p.decls (decls_by s.phrase) (decls_among (said ss))

ended-none : (p : PhraseTree) → p ≡ end_module → decls_by p ≡ []
ended-none p e = ap decls_by e

to-end : (fore : List StatementTree) (end : StatementTree) → NoEnd fore → end.phrase ≡ end_module → decls_to_end (fore ++ end ∷ []) ≡ decls_among (said fore)
to-end [] end i e = ap (λ p. if ends_module p then [] else decls_by p ++ []) e
to-end (s ∷ fore) end i e =
    ap (λ c. if c then [] else decls_by s.phrase ++ decls_to_end (fore ++ end ∷ [])) i.first ∙ ap (λ ds. decls_by s.phrase ++ ds) (to-end fore end i.others e)

among-end : (fore : List StatementTree) (end : StatementTree) → end.phrase ≡ end_module → decls_among (said (fore ++ end ∷ [])) ≡ decls_among (said fore)
among-end [] end e = ap (λ p. decls_by p ++ []) e
among-end (s ∷ fore) end e = ap (λ ds. decls_by s.phrase ++ ds) (among-end fore end e)

read-decls : (closing : List (List ℕ)) (begun : List StatementTree) (end : StatementTree) → NoEnd begun → end.phrase ≡ end_module → (build_module closing (begun ++ end ∷ [])).module_read.decls ≡ decls_to_end (begun ++ end ∷ [])
unfolding build_module written_module elaborated
read-decls closing begun end i e = add-decls (begun ++ end ∷ []) no_statements ∙ among-end begun end e ∙ sym (to-end begun end i e)

-- ---- the statements that are written: specification statements first, END last

abbrev spoken : List Card → List PhraseTree
spoken cs = map (λ (c : Card). c.phrase) cs

-- neither END nor a specification statement
record IsBodyCard (c : Card) : Type 0 where
  inner : ends_module c.phrase ≡ false
  plain : decls_by c.phrase ≡ []

abbrev BodyCards : List Card → Type 0
BodyCards cs = Each IsBodyCard cs

abbrev body-cards : (xs ys : List Card) → BodyCards xs → BodyCards ys → BodyCards (xs ++ ys)
body-cards xs ys h g = Each-append IsBodyCard xs ys h g

plain-card : (c : Card) → ends_module c.phrase ≡ false → decls_by c.phrase ≡ [] → BodyCards (c ∷ [])
plain-card c e d = record { first = record { inner = e; plain = d }; others = tt }

head-card : (c : Bool) (e : ExprTree) → (ends_module (if_head c e) ≡ false) × (decls_by (if_head c e) ≡ [])
head-card true e = (refl, refl)
head-card false e = (refl, refl)

end-card : (c : Bool) → (ends_module (if_end c) ≡ false) × (decls_by (if_end c) ≡ [])
end-card true = (refl, refl)
end-card false = (refl, refl)

module _ (f : ℕ → Bool) where
  mutual
    stmt-cards : (s : StmtTree) → BodyCards (cards_of f s)
    stmt-cards (stmt id label w) = what-cards id label w

    what-cards : (id : ℕ) (label : Option ℕ) (w : WhatTree) → BodyCards (cards_by f id label w)
    what-cards id label (assign v e) = plain-card _ refl refl
    what-cards id label (trees.block_if arms other) =
        let end = end-card (f id) in
        block-cards id label arms (else_cards f id other ++ card (parts.Close id) None (if_end (f id)) ∷ [])
        (body-cards (else_cards f id other) (card (parts.Close id) None (if_end (f id)) ∷ []) (else-cards id other) (plain-card _ end.0 end.1))
    what-cards id label (trees.logical_if e (stmt inner own w)) = plain-card _ refl refl
    what-cards id label (do_loop (loop index first last step body)) =
        record { first = record { inner = refl; plain = refl }; others = body-cards (cards_in f body) (card (parts.Close id) None end_do ∷ []) (list-cards body) (plain-card _ refl refl) }
    what-cards id label (call c es) = plain-card _ refl refl
    what-cards id label (goto l) = plain-card _ refl refl
    what-cards id label continue = plain-card _ refl refl
    what-cards id label return = plain-card _ refl refl
    what-cards id label (stop t) = plain-card _ refl refl
    what-cards id label (print es) = plain-card _ refl refl
    what-cards id label (read es) = plain-card _ refl refl

    block-cards : (id : ℕ) (label : Option ℕ) (arms : ArmTrees) (end : List Card) → BodyCards end → BodyCards (block_cards f id label arms end)
    block-cards id label no_arms end h = tt
    block-cards id label (more_arms (arm test body) others) end h =
        let head = head-card (f id) test in
        record { first = record { inner = head.0; plain = head.1 }; others = body-cards (cards_in f body) (part_cards f id 1 others end) (list-cards body) (part-cards id 1 others end h) }

    part-cards : (id place : ℕ) (arms : ArmTrees) (end : List Card) → BodyCards end → BodyCards (part_cards f id place arms end)
    part-cards id place no_arms end h = h
    part-cards id place (more_arms (arm test body) others) end h =
        record { first = record { inner = refl; plain = refl }; others = body-cards (cards_in f body) (part_cards f id (place + 1) others end) (list-cards body) (part-cards id (place + 1) others end h) }

    else-cards : (id : ℕ) (other : ElseTree) → BodyCards (else_cards f id other)
    else-cards id no_else = tt
    else-cards id (otherwise body) = record { first = record { inner = refl; plain = refl }; others = list-cards body }

    list-cards : (body : StmtTrees) → BodyCards (cards_in f body)
    list-cards no_stmts = tt
    list-cards (more_stmts s others) = body-cards (cards_of f s) (cards_in f others) (stmt-cards s) (list-cards others)

-- ---- of a module

title-card : (b : Bool) (m : ModuleTree) → BodyCards (if b then card parts.Title None (title_of m) ∷ [] else [])
title-card false m = tt
title-card true m = by-main m.main
  where
    by-function : (o : Option _) → (ends_module (head_phrase o m.name m.dummies) ≡ false) × (decls_by (head_phrase o m.name m.dummies) ≡ [])
    by-function None = (refl, refl)
    by-function (Some form) = (refl, refl)

    by-main : (c : Bool) → BodyCards (card parts.Title None (if c then program m.name else head_phrase m.function m.name m.dummies) ∷ [])
    by-main true = plain-card _ refl refl
    by-main false = let h = by-function m.function in plain-card _ h.0 h.1

abbrev InnerCards : List Card → Type 0
InnerCards cs = Each (λ (c : Card). ends_module c.phrase ≡ false) cs

inner-of : (cs : List Card) → BodyCards cs → InnerCards cs
inner-of cs h = each-map IsBodyCard (λ (c : Card). ends_module c.phrase ≡ false) cs (λ c k. k.inner) h

decls-inner : (place : ℕ) (ds : List DeclTree) → InnerCards (decl_cards place ds)
decls-inner place [] = tt
decls-inner place (d ∷ ds) = record { first = refl; others = decls-inner (place + 1) ds }

no-decls : (cs : List Card) → BodyCards cs → decls_among (spoken cs) ≡ []
no-decls [] h = refl
no-decls (c ∷ cs) h = ap (λ ds. ds ++ decls_among (spoken cs)) h.first.plain ∙ no-decls cs h.others

among-append : (xs ys : List Card) → decls_among (spoken (xs ++ ys)) ≡ decls_among (spoken xs) ++ decls_among (spoken ys)
among-append [] ys = refl
among-append (x ∷ xs) ys = ap (λ ds. decls_by x.phrase ++ ds) (among-append xs ys) ∙ sym (append_assoc (decls_by x.phrase) (decls_among (spoken xs)) (decls_among (spoken ys)))

decls-said : (place : ℕ) (ds : List DeclTree) → decls_among (spoken (decl_cards place ds)) ≡ ds
decls-said place [] = refl
decls-said place (d ∷ ds) = ap (λ xs. d ∷ xs) (decls-said (place + 1) ds)

abbrev before_end : ModuleTree → List Card
before_end m = title_cards m ++ decl_cards 0 m.decls ++ cards_in (meant_in m).is_while (folded m).body

before-inner : (m : ModuleTree) → InnerCards (before_end m)
before-inner m =
    let P = λ (c : Card). ends_module c.phrase ≡ false in
    let title = title_cards m in let decls = decl_cards 0 m.decls in let body = cards_in (meant_in m).is_while (folded m).body in
    Each-append P (title ++ decls) body
    (Each-append P title decls (inner-of title (title-card (m.titled || not m.main) m)) (decls-inner 0 m.decls))
    (inner-of body (list-cards (meant_in m).is_while (folded m).body))

before-decls : (m : ModuleTree) → decls_among (spoken (before_end m)) ≡ m.decls
before-decls m =
    let title = title_cards m in let decls = decl_cards 0 m.decls in let body = cards_in (meant_in m).is_while (folded m).body in
    among-append (title ++ decls) body
    ∙ ap (λ ds. ds ++ decls_among (spoken body)) (among-append title decls ∙ ap (λ ds. ds ++ decls_among (spoken decls)) (no-decls title (title-card (m.titled || not m.main) m)))
    ∙ ap (λ ds. decls_among (spoken decls) ++ ds) (no-decls body (list-cards (meant_in m).is_while (folded m).body))
    ∙ append-nil (decls_among (spoken decls)) ∙ decls-said 0 m.decls

-- ---- statements that are written of it

-- the last one
record LastOf (xs : List Card) (ss : List StatementTree) : Type 0 where
  fore : List StatementTree
  end : StatementTree
  is : ss ≡ fore ++ end ∷ []
  before : map of_statement fore ≡ map of_card xs
  ends : end.phrase ≡ end_module

last-of : (xs : List Card) (c : Card) (ss : List StatementTree) → c.phrase ≡ end_module → map of_statement ss ≡ map of_card (xs ++ c ∷ []) → LastOf xs ss
last-of [] c [] e h = absurd (some-first _ _ h)
last-of [] c (s ∷ []) e h =
    let p = first-same (of_statement s) (of_card c) [] [] h in record { fore = []; end = s; is = refl; before = refl; ends = ap (λ (x : Labelled). x.phrase) p.0 ∙ e }
last-of [] c (s ∷ t ∷ ss) e h = absurd (some-first _ _ (sym (first-same (of_statement s) (of_card c) (map of_statement (t ∷ ss)) [] h).1))
last-of (x ∷ xs) c [] e h = absurd (some-first _ _ h)
last-of (x ∷ xs) c (s ∷ ss) e h =
    let p = first-same (of_statement s) (of_card x) (map of_statement ss) (map of_card (xs ++ c ∷ [])) h in
    let r = last-of xs c ss e p.1 in
    record {
      fore = s ∷ r.fore;
      end = r.end;
      is = ap (λ z. s ∷ z) r.is;
      before = ap (λ z. z ∷ map of_statement r.fore) p.0 ∙ ap (λ z. of_card x ∷ z) r.before;
      ends = r.ends;
    }

-- what holds of what is written holds of these
module _ (P : PhraseTree → Type 0) where
  as-cards : (ss : List StatementTree) (cs : List Card) → map of_statement ss ≡ map of_card cs → Each (λ (c : Card). P c.phrase) cs → Each (λ (s : StatementTree). P s.phrase) ss
  as-cards [] cs e h = tt
  as-cards (s ∷ ss) [] e h = absurd (some-first _ _ (sym e))
  as-cards (s ∷ ss) (c ∷ cs) e h =
      let p = first-same (of_statement s) (of_card c) (map of_statement ss) (map of_card cs) e in
      record { first = subst P (sym (ap (λ (x : Labelled). x.phrase) p.0)) h.first; others = as-cards ss cs p.1 h.others }

same-said : (ss : List StatementTree) (cs : List Card) → map of_statement ss ≡ map of_card cs → said ss ≡ spoken cs
same-said [] [] e = refl
same-said [] (c ∷ cs) e = absurd (some-first _ _ e)
same-said (s ∷ ss) [] e = absurd (some-first _ _ (sym e))
same-said (s ∷ ss) (c ∷ cs) e =
    let p = first-same (of_statement s) (of_card c) (map of_statement ss) (map of_card cs) e in
    ap (λ (x : Labelled). x.phrase ∷ said ss) p.0 ∙ ap (λ ps. c.phrase ∷ ps) (same-said ss cs p.1)

-- ---- assignments of the value of a function

-- where these names have bounds and these stand in the module
record Fine (bounded names : List (List ℕ)) (p : PhraseTree) : Type 0 where
  stands : (x : List ℕ) → has (phrase_names bounded p) x ≡ true → has names x ≡ true
  title : (x : List ℕ) → has (heading_names p) x ≡ true → has names x ≡ true
  reference : is_bad_reference bounded names (assigned_by p) ≡ false
  call : is_bad_call bounded (assigned_by p) ≡ false

no-name : (names xs : List (List ℕ)) (x : List ℕ) → xs ≡ [] → has xs x ≡ true → has names x ≡ true
no-name names xs x e h = let z : has [] x ≡ true = sym (ap (λ ys. has ys x) e) ∙ h in cc

quiet : (bounded names : List (List ℕ)) (p : PhraseTree) → phrase_names bounded p ≡ [] → heading_names p ≡ [] → assigned_by p ≡ None → Fine bounded names p
quiet bounded names p e t a = record {
  stands = λ x h. no-name names (phrase_names bounded p) x e h;
  title = λ x h. no-name names (heading_names p) x t h;
  reference = ap (is_bad_reference bounded names) a;
  call = ap (is_bad_call bounded) a;
}

any-append : (x : List ℕ) (xs ys : List (List ℕ)) → has (xs ++ ys) x ≡ (has xs x || has ys x)
any-append x [] ys = refl
any-append x (y ∷ xs) ys = ap (λ c. bytes_eq x y || c) (any-append x xs ys) ∙ or-three (bytes_eq x y) (has xs x) (has ys x)
  where
    or-three : (a b c : Bool) → (a || (b || c)) ≡ ((a || b) || c)
    or-three true b c = refl
    or-three false b c = refl

none-chosen : (b : Bool) (s : ℕ) (o : Option ℕ) → (if b then Some s else o) ≡ None → (b ≡ false) × (o ≡ None)
none-chosen true s o h = cc
none-chosen false s o h = (refl, h)

-- of statements that were read, of which none is a heading
abbrev NoHeadings : List StatementTree → Type 0
NoHeadings ss = Each (λ (s : StatementTree). heading_names s.phrase ≡ []) ss

all-fine : (bounded names : List (List ℕ)) (ss : List StatementTree) → NoHeadings ss → ((x : List ℕ) → has (statement_names bounded ss) x ≡ true → has names x ≡ true) → bad_reference_from bounded names ss ≡ None
    → NoCalls bounded ss → Each (λ (s : StatementTree). Fine bounded names s.phrase) ss
all-fine bounded names [] t g h c = tt
all-fine bounded names (s ∷ ss) t g h c =
    let own = phrase_names bounded s.phrase in
    let r = none-chosen (is_bad_reference bounded names (assigned_by s.phrase)) s.first (bad_reference_from bounded names ss) h in
    record {
      first = record {
        stands = λ x k. g x (any-append x own (statement_names bounded ss) ∙ or_here (has own x) (has (statement_names bounded ss) x) k);
        title = λ x k. no-name names (heading_names s.phrase) x t.first k;
        reference = r.0;
        call = c.first;
      };
      others = all-fine bounded names ss t.others (λ x k. g x (any-append x own (statement_names bounded ss) ∙ or_there (has own x) (has (statement_names bounded ss) x) k)) r.1 c.others;
    }

-- only the first may be a heading
after-first : (ss : List StatementTree) (o : Order) → o.begun ≡ true → (all_ordered (marks_of ss) o).found ≡ None → NoHeadings ss
after-first [] o b h = tt
after-first (s ∷ ss) o b h =
    let next = check_next (mark_of s) o in
    let t = taken (mark_of s) o (found-before (marks_of ss) next h) in
    record {
      first = no-heading s.phrase o.main o.count (sym (ap (λ v. is_out_of_order v o.main o.count (role_of s.phrase)) b) ∙ t.order);
      others = after-first ss next t.begun h;
    }
  where
    no-heading : (p : PhraseTree) (main : Bool) (k : ℕ) → is_out_of_order true main k (role_of p) ≡ false → heading_names p ≡ []
    no-heading (program n) main k e = cc
    no-heading (subroutine n ds) main k e = cc
    no-heading (function form n ds) main k e = cc
    no-heading (specification d) main k e = refl
    no-heading (simple w) main k e = refl
    no-heading (logical_if c w) main k e = refl
    no-heading (block_if c) main k e = refl
    no-heading (else_if c) main k e = refl
    no-heading else_part main k e = refl
    no-heading end_if main k e = refl
    no-heading (do_head d) main k e = refl
    no-heading (while_head l c) main k e = refl
    no-heading end_do main k e = refl
    no-heading end_module main k e = refl

read-fine : (bounded : List (List ℕ)) (ss : List StatementTree) → (all_ordered (marks_of ss) nothing_ordered).found ≡ None → bad_reference_from bounded (standing bounded ss) ss ≡ None → NoCalls bounded ss
    → Each (λ (s : StatementTree). Fine bounded (standing bounded ss) s.phrase) ss
read-fine bounded [] o h c = tt
read-fine bounded (s ∷ ss) o h c =
    let names = standing bounded (s ∷ ss) in
    let title = heading_names s.phrase in
    let own = phrase_names bounded s.phrase in
    let more = statement_names bounded ss in
    let t = taken (mark_of s) nothing_ordered (found-before (marks_of ss) (check_next (mark_of s) nothing_ordered) o) in
    let r = none-chosen (is_bad_reference bounded names (assigned_by s.phrase)) s.first (bad_reference_from bounded names ss) h in
    let into : (x : List ℕ) → has (own ++ more) x ≡ true → has names x ≡ true = λ x k. any-append x title (own ++ more) ∙ or_there (has title x) (has (own ++ more) x) k in
    record {
      first = record {
        stands = λ x k. into x (any-append x own more ∙ or_here (has own x) (has more x) k);
        title = λ x k. any-append x title (own ++ more) ∙ or_here (has title x) (has (own ++ more) x) k;
        reference = r.0;
        call = c.first;
      };
      others = all-fine bounded names ss (after-first ss (check_next (mark_of s) nothing_ordered) t.begun o) (λ x k. into x (any-append x own more ∙ or_there (has own x) (has more x) k)) r.1 c.others;
    }

fewer : (a b c : Bool) → (c ≡ true → b ≡ true) → (a && b) ≡ false → (a && c) ≡ false
fewer true b true f h = cc (f refl)
fewer true b false f h = refl
fewer false b c f h = refl

-- fewer names stand in what is written
less-bad : (bounded names some : List (List ℕ)) (o : Option Application) → ((x : List ℕ) → has some x ≡ true → has names x ≡ true) → is_bad_reference bounded names o ≡ false → is_bad_reference bounded some o ≡ false
less-bad bounded names some None g h = refl
less-bad bounded names some (Some a) g h = fewer (is_external bounded a.name) (has names a.name) (has some a.name) (g a.name) h

names-stand : (bounded names : List (List ℕ)) (ss : List StatementTree) → Each (λ (s : StatementTree). Fine bounded names s.phrase) ss → (x : List ℕ) → has (statement_names bounded ss) x ≡ true → has names x ≡ true
names-stand bounded names [] h x e = cc
names-stand bounded names (s ∷ ss) h x e =
    go (has (phrase_names bounded s.phrase) x) refl (sym (any-append x (phrase_names bounded s.phrase) (statement_names bounded ss)) ∙ e) (names-stand bounded names ss h.others x)
  where
    go : (c : Bool) → has (phrase_names bounded s.phrase) x ≡ c → (c || has (statement_names bounded ss) x) ≡ true → (has (statement_names bounded ss) x ≡ true → has names x ≡ true) → has names x ≡ true
    go true k f ih = h.first.stands x k
    go false k f ih = ih f

title-stands : (bounded names : List (List ℕ)) (ss : List StatementTree) → Each (λ (s : StatementTree). Fine bounded names s.phrase) ss → (x : List ℕ) → has (title_names ss) x ≡ true → has names x ≡ true
title-stands bounded names [] h x e = cc
title-stands bounded names (s ∷ ss) h x e = h.first.title x e

all-stand : (bounded names : List (List ℕ)) (ss : List StatementTree) → Each (λ (s : StatementTree). Fine bounded names s.phrase) ss → (x : List ℕ) → has (standing bounded ss) x ≡ true → has names x ≡ true
all-stand bounded names ss h x e = go (has (title_names ss) x) refl (sym (any-append x (title_names ss) (statement_names bounded ss)) ∙ e)
  where
    go : (c : Bool) → has (title_names ss) x ≡ c → (c || has (statement_names bounded ss) x) ≡ true → has names x ≡ true
    go true k f = title-stands bounded names ss h x k
    go false k f = names-stand bounded names ss h x f

none-bad : (bounded names some : List (List ℕ)) (ss : List StatementTree) → ((x : List ℕ) → has some x ≡ true → has names x ≡ true) → Each (λ (s : StatementTree). Fine bounded names s.phrase) ss
    → bad_reference_from bounded some ss ≡ None
none-bad bounded names some [] g h = refl
none-bad bounded names some (s ∷ ss) g h =
    ap (λ c. if c then Some s.first else bad_reference_from bounded some ss) (less-bad bounded names some (assigned_by s.phrase) g h.first.reference) ∙ none-bad bounded names some ss g h.others

kind : (bounded names : List (List ℕ)) → Kind AnyLabel (λ p. IsPhrase p × Fine bounded names p) (Fine bounded names)
kind bounded names = record {
  bare = tt;
  formed = λ p h. h.0;
  written = λ p h. written p h.1;
  first = λ e h. record { stands = h.stands; title = λ x k. cc; reference = refl; call = refl };
  otherwise = quiet bounded names else_part refl refl refl;
  end_branches = quiet bounded names end_if refl refl refl;
  end_loop = quiet bounded names end_do refl refl refl;
  end_all = quiet bounded names end_module refl refl refl;
  labelled = quiet bounded names (simple continue) refl refl refl;
}
  where
    written : (p : PhraseTree) → Fine bounded names p → Fine bounded names (as_written p)
    written (program n) h = h
    written (subroutine n ds) h = h
    written (function form n ds) h = h
    written (specification d) h = h
    written (simple w) h = h
    written (logical_if e w) h = h
    written (block_if e) h = h
    written (else_if e) h = h
    written else_part h = h
    written end_if h = h
    written (do_head d) h = record { stands = h.stands; title = h.title; reference = refl; call = refl }
    written (while_head l e) h = record { stands = h.stands; title = h.title; reference = refl; call = refl }
    written end_do h = h
    written end_module h = h

-- ---- the module as it is written again

pub record StaysFine (p : ParsedTree) (ss : List StatementTree) : Type 0 where
  pub references : reference_fault ss ≡ None
  pub fore : List StatementTree
  pub end : StatementTree
  pub is : ss ≡ fore ++ end ∷ []
  pub inner : NoEnd fore
  pub ends : ends_module end.phrase ≡ true
  pub calls : NoCalls (bounded_names (decls_to_end (fore ++ end ∷ []))) (fore ++ end ∷ [])

abbrev AreFine : ParsedTree → Type 0
AreFine p = (names : List (List ℕ)) × Each (Held AnyLabel (Fine (bounded_names p.module_read.decls) names)) (statements_of p.module_read)

fine-built : (p : ParsedTree) (h : IsParsed p) → AreFine (build_module h.closing (h.begun ++ h.end ∷ []))
unfolding reference_fault
fine-built p h =
    let ss = h.begun ++ h.end ∷ [] in
    let bounded = bounded_names (decls_to_end ss) in
    let names = standing bounded ss in
    let fine = read-fine bounded ss (ordered (marks_of ss) h.faultless).0 h.references h.calls in
    let stated : Each (Stated AnyLabel (λ p. IsPhrase p × Fine bounded names p)) ss = both bounded names ss h.sourced fine in
    let all = all_held AnyLabel (λ p. IsPhrase p × Fine bounded names p) (Fine bounded names) (kind bounded names) h.closing h.begun h.end h.ends stated h.faultless in
    let same = read-decls h.closing h.begun h.end h.inner h.ends in
    let m = (build_module h.closing ss).module_read in
    (names, subst (λ ds. Each (Held AnyLabel (Fine (bounded_names ds) names)) (statements_of m)) (sym same) all)
  where
    both : (bounded names : List (List ℕ)) (ss : List StatementTree) → Each IsSourced ss → Each (λ (s : StatementTree). Fine bounded names s.phrase) ss → Each (Stated AnyLabel (λ p. IsPhrase p × Fine bounded names p)) ss
    both bounded names [] k g = tt
    both bounded names (s ∷ ss) k g = record { first = (tt, (statements_read_back.formed k.first.body s.phrase k.first.read, g.first)); others = both bounded names ss k.others g.others }

fine-again : (p : ParsedTree) (ss : List StatementTree) → AreFine p → AreWritten p.module_read ss → StaysFine p ss
unfolding statements_of reference_fault
fine-again p ss h w =
    let m = p.module_read in
    let bounded = bounded_names m.decls in
    let l = last-of (before_end m) (card parts.End None end_module) ss refl w in
    let inner = as-cards (λ q. ends_module q ≡ false) l.fore (before_end m) l.before (before-inner m) in
    let ends = ap ends_module l.ends in
    let decls : decls_to_end (l.fore ++ l.end ∷ []) ≡ m.decls = to-end l.fore l.end inner l.ends ∙ ap decls_among (same-said l.fore (before_end m) l.before) ∙ before-decls m in
    let fine = as-cards (Fine bounded h.0) ss (statements_of m) w (each-map (Held AnyLabel (Fine bounded h.0)) (λ (c : Card). Fine bounded h.0 c.phrase) (statements_of m) (λ c k. k.1) h.1) in
    let whole : decls_to_end ss ≡ m.decls = ap decls_to_end l.is ∙ decls in
    let called = each-map (λ (s : StatementTree). Fine bounded h.0 s.phrase) (λ (s : StatementTree). is_bad_call bounded (assigned_by s.phrase) ≡ false) ss (λ s k. k.call) fine in
    record {
      references =
          ap (λ ds. bad_reference_from (bounded_names ds) (standing (bounded_names ds) ss) ss) whole
          ∙ none-bad bounded h.0 (standing bounded ss) ss (all-stand bounded h.0 ss fine) fine;
      fore = l.fore;
      end = l.end;
      is = l.is;
      inner = inner;
      ends = ends;
      calls = subst (λ ds. NoCalls (bounded_names ds) (l.fore ++ l.end ∷ [])) (sym decls) (subst (NoCalls bounded) l.is called);
    }

pub again-fine : (p : ParsedTree) (ss : List StatementTree) → IsParsed p → AreWritten p.module_read ss → StaysFine p ss
again-fine p ss h w = fine-again p ss (subst AreFine (sym h.is) (fine-built p h)) w

-- and others behind it
pub fine-then : (p : ParsedTree) (ss more : List StatementTree) → StaysFine p ss → empty_call_fault more ≡ None → empty_call_fault (ss ++ more) ≡ None
fine-then p ss more h e =
    ap empty_call_fault (ap (λ xs. xs ++ more) h.is ∙ append_assoc h.fore (h.end ∷ []) more) ∙ both-uncalled h.fore h.end more h.inner h.ends h.calls e
