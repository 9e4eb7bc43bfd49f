-- What is read of the written text is written as the same text, without what was added.
use Rattle.std.proofs.Common.{◌≡◌, ℕ, ◌+◌, List, [], ◌∷◌, ◌++◌, length, refl, sym, ap, ◌∙◌, append-nil, Bool, true, false}
use Rattle.std.specs.Prelude.{Option, Some, None, if◌then◌else◌}
use Rattle.fixed_form.specs.Cards.{is_dropped}
use Rattle.f77_ast.specs.declared.places.Part.{Part}
use Rattle.f77_ast.specs.declared.places.Part.TheVariants as parts
use Rattle.f77_ast.specs.declared.places.Spot.{Spot}
use Rattle.f77_ast.specs.DeclTrees.{ParsedTree}
use Rattle.f77_printer.specs.declared.added.Added.{Added}
use Rattle.f77_printer.specs.Layout.{statement_lines}
use Rattle.f77_printer.specs.PageText.{is_part, lines_text}
use Rattle.f77_printer.specs.AddedText.{part_of}
use Rattle.f77_printer.specs.ModuleText.{module_text}
use Rattle.roundtrip_programs.specs.Cards.Cards.{kept}
use Rattle.roundtrip_programs.specs.Statements.Formed.{Each}
use Rattle.roundtrip_programs.specs.Statements.Written.{phrase_text}
use Rattle.roundtrip_programs.specs.ModuleTexts.Cards.{Card, statements_of}
use Rattle.roundtrip_programs.specs.ModuleTexts.Numbered.{IsWell}
use Rattle.roundtrip_programs.specs.ModuleTexts.Page.{comments_at, spots_behind, inner_comments, inner_behind, added_at, behind, card_text, page_text}
use Rattle.roundtrip_programs.proofs.ModuleTexts.ModulePages.{written_by_cards}
use Rattle.roundtrip_programs.specs.Texts.Texts.{IsPassedOver, plain_text}
use Rattle.roundtrip_programs.proofs.Texts.Sources.{AreKept}
use Rattle.roundtrip_programs.proofs.Texts.SpotsKept.{SpotsKept, comments-kept, behind-kept, inner-kept, inner-behind}
use Rattle.roundtrip_programs.proofs.Texts.Rows.{added_lines, lines_at, row_of, rows_of, lines-append}
use Rattle.roundtrip_programs.proofs.Texts.RowsBack.{read_rows, line_behind}
use Rattle.roundtrip_programs.proofs.Texts.Standing.{inner_spots, own_spots, spots_of}
use Rattle.f77_printer.proofs.AddedLemmas.{is_part_self as same-part}
use Rattle.fx_lists.proofs.Lists.{append-by, dropped-cons, either-nothing, kept-cons}
use Rattle.fx_lists.proofs.Booleans.{chosen as chosen-true}

-- ---- comments that are kept

pub kept-same : (ls : List (List ℕ)) → AreKept ls → kept ls ≡ ls
kept-same [] h = refl
kept-same (l ∷ ls) h = kept-cons (is_dropped l) l (kept ls) h.first.not_dropped ∙ ap (λ (x : List (List ℕ)). l ∷ x) (kept-same ls h.others)

pub kept-append : (ls ms : List (List ℕ)) → kept (ls ++ ms) ≡ kept ls ++ kept ms
kept-append [] ms = refl
kept-append (l ∷ ls) ms = append-by (is_dropped l) l (kept (ls ++ ms)) (kept ls) (kept ms) (kept-append ls ms)

abbrev pub IsDropped : List ℕ → Type 0
IsDropped l = is_dropped l ≡ true

pub none-kept : (ls : List (List ℕ)) → Each IsDropped ls → kept ls ≡ []
none-kept [] h = refl
none-kept (l ∷ ls) h = dropped-cons (is_dropped l) l (kept ls) h.first ∙ none-kept ls h.others

-- ---- what is added is dropped

pub chosen-dropped : (b : Bool) (l : List ℕ) (ls : List (List ℕ)) → is_dropped l ≡ true → Each IsDropped ls → Each IsDropped (if b then l ∷ ls else ls)
chosen-dropped true l ls h e = record { first = h; others = e }
chosen-dropped false l ls h e = e

pub added-dropped : (first : Part) (added : List Added) (part : Part) → Each IsPassedOver added → Each IsDropped (added_lines first added part)
added-dropped first [] part h = tt
added-dropped first (a ∷ others) part h =
    chosen-dropped (is_part part (part_of first a)) a.line (added_lines first others part) h.first.dropped (added-dropped first others part h.others)

abbrev pub AllDropped : (Part → List (List ℕ)) → Type 0
AllDropped added = (x : Part) → Each IsDropped (added x)

pub at-dropped : (added : Part → List (List ℕ)) (part : Part) → AllDropped added → Each IsDropped (lines_at added part)
at-dropped added parts.Title h = h parts.Title
at-dropped added (parts.Decl n) h = h (parts.Decl n)
at-dropped added (parts.Stmt i) h = h (parts.Stmt i)
at-dropped added (parts.ElseIf i n) h = tt
at-dropped added (parts.Else i) h = tt
at-dropped added (parts.Close i) h = tt
at-dropped added parts.End h = h parts.End

-- the comments of a statement that was written, as they are read
row-kept : (added : Part → List (List ℕ)) (spots : List Spot) (c : Card) → AllDropped added → SpotsKept spots
    → kept (row_of added spots c).comments ≡ comments_at c.part spots ++ inner_comments c.inner (spots_behind c.part spots)
row-kept added spots c d s =
    let before = comments_at c.part spots in
    let own = lines_at added c.part in
    let inner = inner_comments c.inner (spots_behind c.part spots) in
    kept-append (before ++ own) inner
    ∙ ap (λ (x : List (List ℕ)). x ++ kept inner) (kept-append before own)
    ∙ ap (λ (x : List (List ℕ)). (kept before ++ x) ++ kept inner) (none-kept own (at-dropped added c.part d))
    ∙ ap (λ (x : List (List ℕ)). x ++ kept inner) (append-nil (kept before))
    ∙ ap (λ (x : List (List ℕ)). x ++ kept inner) (kept-same before (comments-kept c.part spots s))
    ∙ ap (λ (x : List (List ℕ)). before ++ x) (kept-same inner (inner-kept c.inner (spots_behind c.part spots) (behind-kept c.part spots s)))

-- ---- a spot is the one of its part

pub no-inner : (f : ℕ) (inner : Option Part) (more : List Spot) → inner_comments inner (inner_spots f inner ++ more) ≡ []
no-inner f None more = refl
no-inner f (Some part) more = either-nothing (is_part part part)

pub inner-left : (f : ℕ) (inner : Option Part) (more : List Spot) → inner_behind inner (inner_spots f inner ++ more) ≡ more
inner-left f None more = refl
inner-left f (Some part) more = chosen-true (is_part part part) more (inner_spots f (Some part) ++ more) (same-part part)

-- ---- the text

abbrev unadded : Part → List ℕ
unadded part = []

at-nothing : (part : Part) → added_at unadded part ≡ []
at-nothing parts.Title = refl
at-nothing (parts.Decl n) = refl
at-nothing (parts.Stmt i) = refl
at-nothing (parts.ElseIf i n) = refl
at-nothing (parts.Else i) = refl
at-nothing (parts.Close i) = refl
at-nothing parts.End = refl

-- a statement of which nothing is added, with these comments before it and in it
abbrev commented : List (List ℕ) → List (List ℕ) → Card → List ℕ
commented before inner c = lines_text before ++ [] ++ lines_text inner ++ statement_lines c.label (phrase_text c.phrase)

plain-text : (spots : List Spot) (c : Card) → card_text unadded spots c ≡ commented (comments_at c.part spots) (inner_comments c.inner (spots_behind c.part spots)) c
plain-text spots c =
    let inner = lines_text (inner_comments c.inner (spots_behind c.part spots)) in
    ap (λ (x : List ℕ). lines_text (comments_at c.part spots) ++ x ++ inner ++ statement_lines c.label (phrase_text c.phrase)) (at-nothing c.part)

joined-comments : (before inner : List (List ℕ)) (c : Card) → commented (before ++ inner) [] c ≡ commented before inner c
joined-comments before inner c =
    let own = statement_lines c.label (phrase_text c.phrase) in
    ap (λ (x : List ℕ). x ++ own) (append-nil (lines_text (before ++ inner) ++ []) ∙ append-nil (lines_text (before ++ inner)) ∙ lines-append before inner)
    ∙ ap (λ (x : List ℕ). (x ++ lines_text inner) ++ own) (sym (append-nil (lines_text before)))

-- what stands before a statement that stands at its part
own-text : (f : ℕ) (cs : List (List ℕ)) (c : Card) (more : List Spot) → card_text unadded (own_spots f cs c ++ more) c ≡ commented cs [] c
own-text f cs c more =
    let spots = own_spots f cs c ++ more in
    let left = inner_spots f c.inner ++ more in
    plain-text spots c
    ∙ ap (λ x. commented x (inner_comments c.inner (spots_behind c.part spots)) c) (chosen-true (is_part c.part c.part) cs [] (same-part c.part))
    ∙ ap (λ x. commented cs (inner_comments c.inner x) c) (chosen-true (is_part c.part c.part) left spots (same-part c.part))
    ∙ ap (λ x. commented cs x c) (no-inner f c.inner more)

pub own-behind : (f : ℕ) (cs : List (List ℕ)) (c : Card) (more : List Spot) → behind c (own_spots f cs c ++ more) ≡ more
own-behind f cs c more =
    let left = inner_spots f c.inner ++ more in
    ap (inner_behind c.inner) (chosen-true (is_part c.part c.part) left (own_spots f cs c ++ more) (same-part c.part)) ∙ inner-left f c.inner more

pub same-page : (added : Part → List (List ℕ)) (spots : List Spot) (cs : List Card) (n : ℕ) → AllDropped added → SpotsKept spots
    → page_text unadded (spots_of cs (read_rows n (rows_of added spots cs))) cs ≡ page_text unadded spots cs
same-page added spots [] n d s = refl
same-page added spots (c ∷ cs) n d s =
    let row = row_of added spots c in
    let left = behind c spots in
    let more = spots_of cs (read_rows (line_behind n row) (rows_of added left cs)) in
    let f = n + length row.comments in
    let before = comments_at c.part spots in
    let inner = inner_comments c.inner (spots_behind c.part spots) in
    let one = own-text f (kept row.comments) c more ∙ ap (λ x. commented x [] c) (row-kept added spots c d s) ∙ joined-comments before inner c ∙ sym (plain-text spots c) in
    ap (λ (x : List ℕ). x ++ page_text unadded (behind c (own_spots f (kept row.comments) c ++ more)) cs) one
    ∙ ap (λ x. card_text unadded spots c ++ page_text unadded x cs) (own-behind f (kept row.comments) c more)
    ∙ ap (λ (x : List ℕ). card_text unadded spots c ++ x) (same-page added left cs (line_behind n row) d (inner-behind c.inner (spots_behind c.part spots) (behind-kept c.part spots s)))

-- a module with the same statements, the same text of their page and the same comments at the end
pub same-text : (p q : ParsedTree) → IsWell p.module_read → q.module_read ≡ p.module_read → q.places.closing ≡ p.places.closing
    → page_text unadded q.places.spots (statements_of p.module_read) ≡ page_text unadded p.places.spots (statements_of p.module_read) → plain_text q ≡ plain_text p
same-text p q well m c e =
    ap (λ x. module_text q.places x []) m
    ∙ written_by_cards q.places p.module_read [] well
    ∙ ap (λ (x : List ℕ). x ++ lines_text q.places.closing) e
    ∙ ap (λ (x : List (List ℕ)). page_text unadded p.places.spots (statements_of p.module_read) ++ lines_text x) c
    ∙ sym (written_by_cards p.places p.module_read [] well)
