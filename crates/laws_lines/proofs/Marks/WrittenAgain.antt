-- What is read of a written text is written as the same text, where the same lines are added.
use Rattle.std.proofs.Common.{◌≡◌, ℕ, ◌+◌, List, [], ◌∷◌, ◌++◌, length, refl, sym, ap, ap₂, ◌∙◌, subst, append-nil, Bool, true, false}
use Rattle.std.specs.Prelude.{Option, Some, None, if◌then◌else◌}
use Rattle.f77_ast.specs.declared.places.Part.{Part}
use Rattle.f77_ast.specs.declared.places.Spot.{Spot}
use Rattle.f77_ast.specs.DeclTrees.{ModuleTree, ParsedTree}
use Rattle.f77_structure.specs.Lists.{is_none_of}
use Rattle.f77_parser.specs.Statements.{StatementTree}
use Rattle.f77_parser.specs.Building.{build_module}
use Rattle.f77_parser.specs.Modules.{closing_at}
use Rattle.f77_printer.specs.declared.added.Added.{Added}
use Rattle.f77_printer.specs.Layout.{statement_lines}
use Rattle.f77_printer.specs.PageText.{is_part, lines_text}
use Rattle.f77_printer.specs.AddedText.{added_text}
use Rattle.f77_printer.specs.ModuleText.{first_part, module_text}
use Rattle.laws_programs.specs.roundtrip_programs.Cards.Cards.{kept}
use Rattle.laws_programs.specs.roundtrip_programs.Statements.Formed.{Each}
use Rattle.laws_programs.specs.roundtrip_programs.Statements.Written.{phrase_text}
use Rattle.laws_programs.proofs.RoundtripPrograms.Statements.Phrases.{statements_read_back}
use Rattle.laws_programs.specs.roundtrip_programs.ModuleTexts.Cards.{Card, statements_of}
use Rattle.laws_programs.specs.roundtrip_programs.ModuleTexts.Page.{comments_at, spots_behind, inner_comments, inner_behind, added_at, behind, card_text, page_text}
use Rattle.laws_programs.proofs.RoundtripPrograms.ModuleTexts.Again.{built_again}
use Rattle.laws_programs.proofs.RoundtripPrograms.ModuleTexts.Built.{written_well}
use Rattle.laws_programs.proofs.RoundtripPrograms.Texts.Faultless.{all-formed}
use Rattle.laws_programs.proofs.RoundtripPrograms.ModuleTexts.Each.{each-map}
use Rattle.laws_programs.proofs.RoundtripPrograms.ModuleTexts.ModulePages.{written_by_cards}
use Rattle.laws_programs.specs.roundtrip_programs.Texts.Texts.{IsPassedOver, text_of, modules_text}
use Rattle.laws_programs.specs.roundtrip_programs.Texts.Laws.{AllPassedOver}
use Rattle.laws_programs.proofs.RoundtripPrograms.Texts.Read.{IsSourced, IsParsed, AreParsed, all-parsed}
use Rattle.laws_programs.proofs.RoundtripPrograms.Texts.SpotsKept.{SpotsKept, comments-kept, behind-kept, inner-behind}
use Rattle.laws_programs.proofs.RoundtripPrograms.Texts.Rows.{added_lines, lines_at, row_of, rows_of, module_rows, all_rows, last_closing}
use Rattle.laws_programs.proofs.RoundtripPrograms.Texts.RowsBack.{read_rows, line_behind, lines_behind}
use Rattle.laws_programs.proofs.RoundtripPrograms.Texts.Standing.{inner_spots, own_spots, spots_of, built-spots}
use Rattle.laws_programs.proofs.RoundtripPrograms.Texts.Whole.{IsSound, all-sound, all_again, again-written, closing-kept, parsed-back, module-filled as module_filled, again-closing}
use Rattle.laws_lines.specs.Marks.WholeLaws.{TextsAreWrittenAgain}
use Rattle.laws_lines.proofs.Marks.Unique.{one_reading}
use Rattle.laws_lines.proofs.Marks.InnerSpots.{Bare, InnerHolds, AllInner, ArePhrases, built_bare}
use Rattle.f77_printer.proofs.AddedLemmas.{is_part_self as same_part}
use Rattle.laws_programs.proofs.RoundtripPrograms.Texts.SameText.{kept-same as all_kept, kept-append as kept_append, no-inner as no_inner, own-behind as own_behind, at-dropped as at_dropped, AllDropped, none-kept as none_kept, added-dropped as added_dropped}
use Rattle.fx_lists.proofs.Booleans.{chosen}

-- ---- spots of which the statement in a logical IF has no comments

bare_behind : (part other : Part) (ss : List Spot) → Bare ss part → Bare (spots_behind other ss) part
bare_behind part other [] h = tt
bare_behind part other (s ∷ ss) h = go (is_part other s.part)
  where
    go : (b : Bool) → Bare (if b then ss else s ∷ ss) part
    go true = h.others
    go false = h

inner_behind_bare : (part : Part) (inner : Option Part) (ss : List Spot) → Bare ss part → Bare (inner_behind inner ss) part
inner_behind_bare part None ss h = h
inner_behind_bare part (Some other) ss h = bare_behind part other ss h

-- of cards, before these spots
abbrev Calm : List Spot → List Card → Type 0
Calm ss cs = AllInner (Bare ss) cs

calm_at : (o : Option Part) (c : Card) (ss : List Spot) → InnerHolds (Bare ss) o → InnerHolds (Bare (behind c ss)) o
calm_at None c ss h = tt
calm_at (Some part) c ss h = inner_behind_bare part c.inner (spots_behind c.part ss) (bare_behind part c.part ss h)

calm_behind : (c : Card) (ss : List Spot) (cs : List Card) → Calm ss cs → Calm (behind c ss) cs
calm_behind c ss cs h = each-map (λ (d : Card). InnerHolds (Bare ss) d.inner) (λ (d : Card). InnerHolds (Bare (behind c ss)) d.inner) cs (λ d k. calm_at d.inner c ss k) h

bare_comments : (part : Part) (ss : List Spot) → Bare ss part → comments_at part ss ≡ []
bare_comments part [] h = refl
bare_comments part (s ∷ ss) h = go (is_part part s.part) refl
  where
    go : (b : Bool) → is_part part s.part ≡ b → (if b then s.comments else []) ≡ []
    go true e = h.first e
    go false e = refl

calm_comments : (o : Option Part) (part : Part) (ss : List Spot) → InnerHolds (Bare ss) o → inner_comments o (spots_behind part ss) ≡ []
calm_comments None part ss h = refl
calm_comments (Some inner) part ss h = bare_comments inner (spots_behind part ss) (bare_behind inner part ss h)

-- ---- one statement

row_kept : (added : Part → List (List ℕ)) (spots : List Spot) (c : Card) → AllDropped added → SpotsKept spots → InnerHolds (Bare spots) c.inner → kept (row_of added spots c).comments ≡ comments_at c.part spots
row_kept added spots c d s b =
    let before = comments_at c.part spots in
    let own = lines_at added c.part in
    ap (λ (x : List (List ℕ)). kept (before ++ own ++ x)) (calm_comments c.inner c.part spots b)
    ∙ ap kept (append-nil (before ++ own))
    ∙ kept_append before own
    ∙ ap (λ (x : List (List ℕ)). kept before ++ x) (none_kept own (at_dropped added c.part d))
    ∙ append-nil (kept before)
    ∙ all_kept before (comments-kept c.part spots s)

-- with these comments before it and in it
abbrev with_comments : (Part → List ℕ) → Card → List (List ℕ) → List (List ℕ) → List ℕ
with_comments by c before inner = lines_text before ++ added_at by c.part ++ lines_text inner ++ statement_lines c.label (phrase_text c.phrase)

own_text : (by : Part → List ℕ) (f : ℕ) (cs : List (List ℕ)) (c : Card) (more : List Spot) → card_text by (own_spots f cs c ++ more) c ≡ with_comments by c cs []
own_text by f cs c more =
    let spots = own_spots f cs c ++ more in
    let left = inner_spots f c.inner ++ more in
    ap (λ x. with_comments by c x (inner_comments c.inner (spots_behind c.part spots))) (chosen (is_part c.part c.part) cs [] (same_part c.part))
    ∙ ap (λ x. with_comments by c cs (inner_comments c.inner x)) (chosen (is_part c.part c.part) left spots (same_part c.part))
    ∙ ap (with_comments by c cs) (no_inner f c.inner more)

-- ---- a module

same_page : (by : Part → List ℕ) (added : Part → List (List ℕ)) (spots : List Spot) (cs : List Card) (n : ℕ) → AllDropped added → SpotsKept spots → Calm spots cs
    → page_text by (spots_of cs (read_rows n (rows_of added spots cs))) cs ≡ page_text by spots cs
same_page by added spots [] n d s b = refl
same_page by added spots (c ∷ cs) n d s b =
    let row = row_of added spots c in
    let left = behind c spots in
    let more = spots_of cs (read_rows (line_behind n row) (rows_of added left cs)) in
    let f = n + length row.comments in
    let before = comments_at c.part spots in
    let inner = inner_comments c.inner (spots_behind c.part spots) in
    let one =
    own_text by f (kept row.comments) c more
    ∙ ap₂ (with_comments by c) (row_kept added spots c d s b.first) (sym (calm_comments c.inner c.part spots b.first)) in
    ap (λ (x : List ℕ). x ++ page_text by (behind c (own_spots f (kept row.comments) c ++ more)) cs) one
    ∙ ap (λ x. card_text by spots c ++ page_text by x cs) (own_behind f (kept row.comments) c more)
    ∙ ap (λ (x : List ℕ). card_text by spots c ++ x)
    (same_page by added left cs (line_behind n row) d (inner-behind c.inner (spots_behind c.part spots) (behind-kept c.part spots s)) (calm_behind c spots cs b.others))

phrases : (ss : List StatementTree) → Each IsSourced ss → ArePhrases ss
phrases ss h = each-map IsSourced (λ (s : StatementTree). _) ss (λ s k. statements_read_back.formed k.body s.phrase k.read) h

module_calm : (p : ParsedTree) → IsParsed p → Calm p.places.spots (statements_of p.module_read)
module_calm p h =
    let ss = h.begun ++ h.end ∷ [] in
    subst (λ (q : ParsedTree). Calm q.places.spots (statements_of q.module_read)) (sym h.is)
    (built_bare h.closing ss (phrases ss h.sourced) (written_well h.closing h.begun h.end h.ends (all-formed ss h.sourced) h.faultless))

-- what is added to a module depends on its statements alone
abbrev IsOfTrees : (ParsedTree → List Added) → Type 0
IsOfTrees added = (p q : ParsedTree) → q.module_read ≡ p.module_read → added q ≡ added p

one_text : (added : ParsedTree → List Added) (n : ℕ) (p : ParsedTree) (closing : List (List ℕ)) → IsOfTrees added → Each IsPassedOver (added p) → IsParsed p → IsSound p → closing ≡ p.places.closing
    → text_of added (build_module closing (read_rows n (module_rows added p))) ≡ text_of added p
one_text added n p closing t a h s c =
    let own = read_rows n (module_rows added p) in
    let q = build_module closing own in
    let w = again-written added n p in
    let m = p.module_read in
    let same = built_again m closing own s.well w in
    let first = first_part m in
    let by = added_text first (added p) in
    ap (λ (x : List Added). module_text q.places q.module_read x) (t p q same)
    ∙ ap (λ (x : ModuleTree). module_text q.places x (added p)) same
    ∙ written_by_cards q.places m (added p) s.well
    ∙ ap (λ (x : List ℕ). x ++ lines_text q.places.closing)
    (ap (λ x. page_text by x (statements_of m)) (built-spots m closing own s.well w)
    ∙ same_page by (added_lines first (added p)) p.places.spots (statements_of m) n (λ x. added_dropped first (added p) x a) s.spots (module_calm p h))
    ∙ ap (λ (x : List (List ℕ)). page_text by p.places.spots (statements_of m) ++ lines_text x) (again-closing closing own ∙ c)
    ∙ sym (written_by_cards p.places m (added p) s.well)

-- ---- all modules

all_texts : (added : ParsedTree → List Added) (closing : List (List ℕ)) (ps : List ParsedTree) (n : ℕ) → IsOfTrees added → AllPassedOver added ps → AreParsed ps → Each IsSound ps → closing ≡ last_closing ps
    → modules_text added (all_again added closing n ps) ≡ modules_text added ps
all_texts added closing [] n t a h s c = refl
all_texts added closing (p ∷ []) n t a h s c = ap (λ (x : List ℕ). x ++ []) (one_text added n p closing t a.first h.first s.first c)
all_texts added closing (p ∷ q ∷ qs) n t a h s c =
    let k = lines_behind n (module_rows added p) in
    let own = closing_at (is_none_of (read_rows k (all_rows added (q ∷ qs)))) closing in
    let before : own ≡ p.places.closing = ap (λ b. closing_at b closing) (module_filled added q k (all_rows added qs)) ∙ sym h.before in
    ap (λ (x : List ℕ). x ++ modules_text added (all_again added closing k (q ∷ qs))) (one_text added n p own t a.first h.first s.first before)
    ∙ ap (λ (x : List ℕ). text_of added p ++ x) (all_texts added closing (q ∷ qs) k t a.others h.others s.others c)

pub texts_are_written_again : TextsAreWrittenAgain
unfolding parsed-back
texts_are_written_again text ps qs added r a t k =
    let h = all-parsed text ps r in
    let s = all-sound ps h in
    let closing = last_closing ps in
    let again = parsed-back ps added h a in
    ap (modules_text added) (one_reading (modules_text added ps) qs again.again k again.read)
    ∙ all_texts added (kept closing) ps 1 t a h s (all_kept closing (closing-kept ps s))
