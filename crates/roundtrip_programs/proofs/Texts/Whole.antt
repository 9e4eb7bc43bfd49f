-- The law of whole texts.
use Rattle.std.proofs.Common.{◌≡◌, ℕ, Bool, true, false, List, [], ◌∷◌, ◌++◌, map, refl, sym, ap, ◌∙◌, subst, append_assoc, append-nil}
use Rattle.std.specs.Prelude.{None, Ok, if◌then◌else◌}
use Rattle.f77_ast.specs.declared.places.Part.{Part}
use Rattle.f77_ast.specs.declared.places.Part.TheVariants as parts
use Rattle.f77_ast.specs.declared.places.Spot.{Spot}
use Rattle.f77_ast.specs.DeclTrees.{ModuleTree, ParsedTree}
use Rattle.f77_statements.specs.Phrases.{end_module}
use Rattle.f77_structure.specs.Lists.{is_none_of}
use Rattle.f77_parser.specs.Gives.{and_then}
use Rattle.f77_parser.specs.Statements.{StatementTree}
use Rattle.f77_parser.specs.References.{empty_call_fault}
use Rattle.f77_parser.specs.Elaborated.{meant_in}
use Rattle.f77_parser.specs.Building.{written_module, build_module}
use Rattle.f77_parser.specs.Modules.{closing_at, modules_from, parse_of}
use Rattle.f77_printer.specs.declared.added.Added.{Added}
use Rattle.f77_printer.specs.PageText.{is_part}
use Rattle.f77_printer.specs.AddedText.{part_of}
use Rattle.f77_printer.specs.ModuleText.{first_part, module_text}
use Rattle.fixed_form.specs.Reading.{reading}
use Rattle.roundtrip_programs.specs.Cards.Cards.{kept, lines_from, cards_text}
use Rattle.roundtrip_programs.specs.Cards.Good.{IsComment}
use Rattle.roundtrip_programs.proofs.Cards.Whole.{lines_read_back}
use Rattle.roundtrip_programs.specs.Statements.Formed.{Each}
use Rattle.roundtrip_programs.proofs.Statements.Phrases.{statements_read_back}
use Rattle.roundtrip_programs.specs.ModuleTexts.Cards.{Card, card, title_cards, decl_cards, cards_in, statements_of}
use Rattle.roundtrip_programs.specs.ModuleTexts.Folded.{folded}
use Rattle.roundtrip_programs.specs.ModuleTexts.Numbered.{IsWell}
use Rattle.roundtrip_programs.specs.ModuleTexts.Page.{behind, page_text}
use Rattle.roundtrip_programs.specs.ModuleTexts.ModuleLaws.{MaybeLabel, IsRead, IsCard, AreWritten}
use Rattle.roundtrip_programs.proofs.ModuleTexts.Again.{built_again}
use Rattle.roundtrip_programs.proofs.ModuleTexts.Alone.{first-same, read_next}
use Rattle.roundtrip_programs.proofs.ModuleTexts.Each.{Each-append, each-map}
use Rattle.roundtrip_programs.proofs.ModuleTexts.Kept.{Stated, Held, all_held, cards_read}
use Rattle.roundtrip_programs.proofs.ModuleTexts.Built.{built_well}
use Rattle.roundtrip_programs.specs.Texts.Texts.{IsReadAs, IsPassedOver, text_of, modules_text, plain_text, module_of}
use Rattle.roundtrip_programs.specs.Texts.Laws.{ReadBack, AllPassedOver, TextsReadBack, ReadAlone, ModulesReadBack}
use Rattle.roundtrip_programs.proofs.Texts.Sources.{IsKept, AreKept}
use Rattle.roundtrip_programs.proofs.Texts.Read.{IsSourced, IsParsed, AreParsed, all-parsed}
use Rattle.roundtrip_programs.proofs.Texts.SpotsKept.{SpotsKept, built-kept, comments-kept, behind-kept, inner-kept, inner-behind, CommentsKept}
use Rattle.roundtrip_programs.proofs.Texts.CardsFit.{Fits, IsFitting, fitting, read-fits}
use Rattle.roundtrip_programs.proofs.Texts.Rows.{Row, line_card, added_lines, lines_at, rows_of, module_rows, all_rows, last_closing, module-text, last-text}
use Rattle.roundtrip_programs.proofs.Texts.RowsBack.{IsRow, read_rows, lines_behind, rows-append, rows-read, rows-written, are-comments, are-cards, EndWell, joined-ended, rows-ended}
use Rattle.roundtrip_programs.proofs.Texts.Standing.{built-spots}
use Rattle.roundtrip_programs.proofs.Texts.SameText.{kept-same, added-dropped, same-page, same-text}
use Rattle.roundtrip_programs.proofs.Assigned.{faultless, none-uncalled, well-read}
use Rattle.roundtrip_programs.proofs.Texts.References.{again-fine, fine-then}
use Rattle.roundtrip_programs.proofs.Texts.Faultless.{IsAsWritten, all-formed, again-faultless}

-- ---- a module

-- a statement that is written: formed as the grammar says, read as it is written, and no longer than lines hold
pub record IsGood (c : Card) : Type 0 where
  pub own : IsCard c
  pub fits : Fits c.phrase

pub record IsSound (p : ParsedTree) : Type 0 where
  pub well : IsWell p.module_read
  pub cards : Each IsGood (statements_of p.module_read)
  pub spots : SpotsKept p.places.spots
  pub closing : AreKept p.places.closing

good : (cs : List Card) → Each IsCard cs → Each (Held MaybeLabel Fits) cs → Each IsGood cs
good [] h f = tt
good (c ∷ cs) h f = record { first = record { own = h.first; fits = f.first.1 }; others = good cs h.others f.others }

stated : (s : StatementTree) → IsSourced s → Stated MaybeLabel IsFitting s
stated s h = (h.label, (statements_read_back.formed h.body s.phrase h.read, read-fits h.body s.phrase h.whole h.read))

is-read : (s : StatementTree) → IsSourced s → IsRead s
is-read s h = record { label = h.label; phrase = statements_read_back.formed h.body s.phrase h.read }

sound : (p : ParsedTree) → IsParsed p → IsSound p
unfolding build_module written_module
sound p h =
    let whole = h.begun ++ h.end ∷ [] in
    let read = cards_read h.closing h.begun h.end h.ends (each-map IsSourced IsRead whole is-read h.sourced) h.faultless in
    let fits = all_held MaybeLabel IsFitting Fits fitting h.closing h.begun h.end h.ends (each-map IsSourced (Stated MaybeLabel IsFitting) whole stated h.sourced) h.faultless in
    subst IsSound (sym h.is) (record {
      well = built_well h.closing h.begun h.end h.ends (all-formed whole h.sourced) h.faultless;
      cards = good (statements_of (build_module h.closing whole).module_read) read fits;
      spots = built-kept h.closing whole (each-map IsSourced CommentsKept whole (λ s k. k.comments) h.sourced);
      closing = h.kept;
    })

-- ---- what stands before its statements

abbrev Comments : List (List ℕ) → Type 0
Comments ls = Each IsComment ls

pub plain : (ls : List (List ℕ)) → AreKept ls → Comments ls
plain ls h = each-map IsKept IsComment ls (λ l k. k.comment) h

chosen-comments : (b : Bool) (l : List ℕ) (ls : List (List ℕ)) → IsComment l → Comments ls → Comments (if b then l ∷ ls else ls)
chosen-comments true l ls h e = record { first = h; others = e }
chosen-comments false l ls h e = e

added-comments : (first : Part) (added : List Added) (part : Part) → Each IsPassedOver added → Comments (added_lines first added part)
added-comments first [] part h = tt
added-comments first (a ∷ others) part h =
    chosen-comments (is_part part (part_of first a)) a.line (added_lines first others part) h.first.comment (added-comments first others part h.others)

at-comments : (added : Part → List (List ℕ)) (part : Part) → ((x : Part) → Comments (added x)) → Comments (lines_at added part)
at-comments added parts.Title h = h parts.Title
at-comments added (parts.Decl n) h = h (parts.Decl n)
at-comments added (parts.Stmt i) h = h (parts.Stmt i)
at-comments added (parts.ElseIf i n) h = tt
at-comments added (parts.Else i) h = tt
at-comments added (parts.Close i) h = tt
at-comments added parts.End h = h parts.End

rows-good : (added : Part → List (List ℕ)) (spots : List Spot) (cs : List Card) → ((x : Part) → Comments (added x)) → SpotsKept spots → Each IsGood cs → Each IsRow (rows_of added spots cs)
rows-good added spots [] a s h = tt
rows-good added spots (c ∷ cs) a s h =
    let left = behind-kept c.part spots s in
    let before = plain _ (comments-kept c.part spots s) in
    let inner = plain _ (inner-kept c.inner _ left) in
    record {
      first = record {
        comments = Each-append IsComment _ _ (Each-append IsComment _ (lines_at added c.part) before (at-comments added c.part a)) inner;
        label = h.first.own.label;
        phrase = h.first.own.phrase;
        same = h.first.own.same;
        fits = h.first.fits;
      };
      others = rows-good added (behind c spots) cs a (inner-behind c.inner _ left) h.others;
    }

module-rows : (added : ParsedTree → List Added) (p : ParsedTree) → Each IsPassedOver (added p) → IsSound p → Each IsRow (module_rows added p)
module-rows added p a h =
    rows-good (added_lines (first_part p.module_read) (added p)) p.places.spots (statements_of p.module_read)
    (λ x. added-comments (first_part p.module_read) (added p) x a) h.spots h.cards

module-ended : (added : ParsedTree → List Added) (p : ParsedTree) → EndWell (module_rows added p)
unfolding statements_of
module-ended added p =
    let m = p.module_read in
    rows-ended (added_lines (first_part m) (added p)) p.places.spots (title_cards m ++ decl_cards 0 m.decls ++ cards_in (meant_in m).is_while (folded m).body) (card parts.End None end_module) refl

-- ---- all modules

pub all-sound : (ps : List ParsedTree) → AreParsed ps → Each IsSound ps
all-sound [] h = tt
all-sound (p ∷ ps) h = record { first = sound p h.first; others = all-sound ps h.others }

pub all-rows : (added : ParsedTree → List Added) (ps : List ParsedTree) → AllPassedOver added ps → Each IsSound ps → Each IsRow (all_rows added ps)
all-rows added [] a h = tt
all-rows added (p ∷ ps) a h = Each-append IsRow (module_rows added p) (all_rows added ps) (module-rows added p a.first h.first) (all-rows added ps a.others h.others)

pub all-ended : (added : ParsedTree → List Added) (ps : List ParsedTree) → EndWell (all_rows added ps)
all-ended added [] = tt
all-ended added (p ∷ ps) = joined-ended (module_rows added p) (all_rows added ps) (module-ended added p) (all-ended added ps)

pub closing-kept : (ps : List ParsedTree) → Each IsSound ps → AreKept (last_closing ps)
closing-kept [] h = tt
closing-kept (p ∷ []) h = h.first.closing
closing-kept (p ∷ q ∷ qs) h = closing-kept (q ∷ qs) h.others

pub all-text : (added : ParsedTree → List Added) (ps : List ParsedTree) → AreParsed ps → Each IsSound ps → modules_text added ps ≡ cards_text (map line_card (all_rows added ps)) (last_closing ps)
all-text added [] h s = refl
all-text added (p ∷ []) h s = append-nil (text_of added p) ∙ last-text added p s.first.well
all-text added (p ∷ q ∷ qs) h s =
    ap (λ (x : List ℕ). text_of added p ++ x) (all-text added (q ∷ qs) h.others s.others)
    ∙ module-text added p (all_rows added (q ∷ qs)) (last_closing (q ∷ qs)) s.first.well h.before

-- ---- they are read again

as-written : (rs : List Row) (n : ℕ) → Each IsAsWritten (read_rows n rs)
as-written [] n = tt
as-written (r ∷ rs) n = record { first = refl; others = as-written rs _ }

-- what a module is read as, before others
abbrev pub again_of : (ParsedTree → List Added) → List (List ℕ) → ℕ → ParsedTree → List ParsedTree → ParsedTree
again_of added closing n p ps =
    build_module (closing_at (is_none_of (read_rows (lines_behind n (module_rows added p)) (all_rows added ps))) closing) (read_rows n (module_rows added p))

abbrev pub all_again : (ParsedTree → List Added) → List (List ℕ) → ℕ → List ParsedTree → List ParsedTree
all_again added closing n [] = []
all_again added closing n (p ∷ ps) = again_of added closing n p ps ∷ all_again added closing (lines_behind n (module_rows added p)) ps

pub again-written : (added : ParsedTree → List Added) (n : ℕ) (p : ParsedTree) → AreWritten p.module_read (read_rows n (module_rows added p))
again-written added n p = rows-written (added_lines (first_part p.module_read) (added p)) p.places.spots (statements_of p.module_read) n

pub all-again : (added : ParsedTree → List Added) (closing : List (List ℕ)) (ps : List ParsedTree) (n : ℕ) (done : List ParsedTree) → AreParsed ps
    → modules_from closing done [] (read_rows n (all_rows added ps)) ≡ Ok (done ++ all_again added closing n ps)
all-again added closing [] n done h = ap (λ (x : List ParsedTree). Ok x) (sym (append-nil done))
all-again added closing (p ∷ ps) n done h =
    let k = lines_behind n (module_rows added p) in
    let own = read_rows n (module_rows added p) in
    let more = read_rows k (all_rows added ps) in
    let w = again-written added n p in
    ap (modules_from closing done []) (rows-append (module_rows added p) (all_rows added ps) n)
    ∙ read_next p.module_read closing done own more w (faultless own (again-faultless p h.first own w (as-written (module_rows added p) n)) (again-fine p own h.first w).references)
    ∙ all-again added closing ps k (done ++ again_of added closing n p ps ∷ []) h.others
    ∙ ap (λ (x : List ParsedTree). Ok x) (append_assoc done (again_of added closing n p ps ∷ []) (all_again added closing k ps))

-- no F() that is none of a function
pub all-uncalled : (added : ParsedTree → List Added) (ps : List ParsedTree) (n : ℕ) → AreParsed ps → empty_call_fault (read_rows n (all_rows added ps)) ≡ None
all-uncalled added [] n h = none-uncalled
all-uncalled added (p ∷ ps) n h =
    let own = read_rows n (module_rows added p) in
    let more = read_rows (lines_behind n (module_rows added p)) (all_rows added ps) in
    ap empty_call_fault (rows-append (module_rows added p) (all_rows added ps) n)
    ∙ fine-then p own more (again-fine p own h.first (again-written added n p)) (all-uncalled added ps (lines_behind n (module_rows added p)) h.others)

pub all-same : (added : ParsedTree → List Added) (closing : List (List ℕ)) (ps : List ParsedTree) (n : ℕ) → Each IsSound ps → map module_of (all_again added closing n ps) ≡ map module_of ps
all-same added closing [] n h = refl
all-same added closing (p ∷ ps) n h =
    let k = lines_behind n (module_rows added p) in
    let own = read_rows n (module_rows added p) in
    let e = built_again p.module_read (closing_at (is_none_of (read_rows k (all_rows added ps))) closing) own h.first.well (again-written added n p) in
    ap (λ (x : ModuleTree). x ∷ map module_of (all_again added closing k ps)) e
    ∙ ap (λ (x : List ModuleTree). p.module_read ∷ x) (all-same added closing ps k h.others)

-- ---- and written as the same text

pub rows-filled : (added : Part → List (List ℕ)) (spots : List Spot) (cs : List Card) (end : Card) (n : ℕ) (more : List Row) → is_none_of (read_rows n (rows_of added spots (cs ++ end ∷ []) ++ more)) ≡ false
rows-filled added spots [] end n more = refl
rows-filled added spots (c ∷ cs) end n more = refl

pub module-filled : (added : ParsedTree → List Added) (p : ParsedTree) (n : ℕ) (more : List Row) → is_none_of (read_rows n (module_rows added p ++ more)) ≡ false
unfolding statements_of
module-filled added p n more =
    let m = p.module_read in
    rows-filled (added_lines (first_part m) (added p)) p.places.spots (title_cards m ++ decl_cards 0 m.decls ++ cards_in (meant_in m).is_while (folded m).body) (card parts.End None end_module) n more

pub again-closing : (closing : List (List ℕ)) (ss : List StatementTree) → (build_module closing ss).places.closing ≡ closing
unfolding build_module written_module
again-closing closing ss = refl

one-text : (added : ParsedTree → List Added) (n : ℕ) (p : ParsedTree) (closing : List (List ℕ)) → Each IsPassedOver (added p) → IsSound p → closing ≡ p.places.closing
    → plain_text (build_module closing (read_rows n (module_rows added p))) ≡ plain_text p
one-text added n p closing a h c =
    let own = read_rows n (module_rows added p) in
    let w = again-written added n p in
    let first = first_part p.module_read in
    same-text p (build_module closing own) h.well (built_again p.module_read closing own h.well w) (again-closing closing own ∙ c)
    (ap (λ x. page_text (λ part. []) x (statements_of p.module_read)) (built-spots p.module_read closing own h.well w)
    ∙ same-page (added_lines first (added p)) p.places.spots (statements_of p.module_read) n (λ x. added-dropped first (added p) x a) h.spots)

pub all-written : (added : ParsedTree → List Added) (closing : List (List ℕ)) (ps : List ParsedTree) (n : ℕ) → AllPassedOver added ps → AreParsed ps → Each IsSound ps → closing ≡ last_closing ps
    → map plain_text (all_again added closing n ps) ≡ map plain_text ps
all-written added closing [] n a h s c = refl
all-written added closing (p ∷ []) n a h s c = ap (λ (x : List ℕ). x ∷ []) (one-text added n p closing a.first s.first c)
all-written added closing (p ∷ q ∷ qs) n a h s c =
    let k = lines_behind n (module_rows added p) in
    let own = closing_at (is_none_of (read_rows k (all_rows added (q ∷ qs)))) closing in
    let before : own ≡ p.places.closing = ap (λ b. closing_at b closing) (module-filled added q k (all_rows added qs)) ∙ sym h.before in
    ap (λ (x : List ℕ). x ∷ map plain_text (all_again added closing k (q ∷ qs))) (one-text added n p own a.first s.first before)
    ∙ ap (λ (x : List (List ℕ)). plain_text p ∷ x) (all-written added closing (q ∷ qs) k a.others h.others s.others c)

-- ---- the laws

unfoldable pub parsed-back : (ps : List ParsedTree) (added : ParsedTree → List Added) → AreParsed ps → AllPassedOver added ps → ReadBack (modules_text added ps) ps
unfolding parse_of
parsed-back ps added h a =
    let s = all-sound ps h in
    let rows = all_rows added ps in
    let good_rows = all-rows added ps a s in
    let closing = last_closing ps in
    record {
      again = all_again added (kept closing) 1 ps;
      read = record {
        lines = record { lines = lines_from 1 (map line_card rows); closing = kept closing };
        lined =
            ap reading (all-text added ps h s)
            ∙ lines_read_back (map line_card rows) closing (are-cards rows good_rows) (are-comments closing (plain closing (closing-kept ps s))) (all-ended added ps);
        parsed =
            ap (λ r. and_then r (λ ss. modules_from (kept closing) [] [] ss)) (well-read (lines_from 1 (map line_card rows)) (read_rows 1 rows) (rows-read rows 1 [] good_rows) (all-uncalled added ps 1 h))
            ∙ all-again added (kept closing) ps 1 [] h;
      };
      same = all-same added (kept closing) ps 1 s;
      written = all-written added (kept closing) ps 1 a h s (kept-same closing (closing-kept ps s));
    }

pub texts_read_back : TextsReadBack
texts_read_back text ps added r a = parsed-back ps added (all-parsed text ps r) a

-- one of these modules
one-parsed : (before behind : List ParsedTree) (p : ParsedTree) → AreParsed (before ++ p ∷ behind) → IsParsed p
one-parsed [] behind p h = h.first
one-parsed (q ∷ before) behind p h = one-parsed before behind p h.others

alone : (text : List ℕ) (p : ParsedTree) (again : List ParsedTree) → IsReadAs text again → map module_of again ≡ p.module_read ∷ [] → map plain_text again ≡ plain_text p ∷ [] → ReadAlone text p
alone text p [] r e w = cc
alone text p (q ∷ []) r e w = record { again = q; read = r; same = (first-same q.module_read p.module_read [] [] e).0; written = (first-same (plain_text q) (plain_text p) [] [] w).0 }
alone text p (q ∷ x ∷ qs) r e w = cc

pub modules_read_back : ModulesReadBack
modules_read_back text before behind p added r a =
    let one = one-parsed before behind p (all-parsed text (before ++ p ∷ behind) r) in
    let back = parsed-back (p ∷ []) (λ q. added) (record { first = one; before = tt; others = tt }) (record { first = a; others = tt }) in
    let written = module_text p.places p.module_read added in
    subst (λ t. ReadAlone t p) (append-nil written) (alone (written ++ []) p back.again back.read back.same back.written)
