-- The statements that are written of modules, each with what stands before it.
use Rattle.std.proofs.Common.{◌≡◌, ℕ, List, [], ◌∷◌, ◌++◌, map, refl, sym, ap, ◌∙◌, append_assoc, append-nil, Bool, true, false}
use Rattle.std.specs.Prelude.{Option, codes, if◌then◌else◌}
use Rattle.f77_ast.specs.declared.places.Part.{Part}
use Rattle.f77_ast.specs.declared.places.Part.TheVariants.{Title, Decl, Stmt, ElseIf, Else, Close, End}
use Rattle.f77_ast.specs.declared.places.Spot.{Spot}
use Rattle.f77_ast.specs.DeclTrees.{ParsedTree}
use Rattle.f77_statements.specs.Phrases.{PhraseTree}
use Rattle.f77_printer.specs.declared.added.Added.{Added}
use Rattle.f77_printer.specs.Layout.{statement_lines}
use Rattle.f77_printer.specs.PageText.{is_part, lines_text}
use Rattle.f77_printer.specs.AddedText.{part_of, added_text}
use Rattle.f77_printer.specs.ModuleText.{first_part}
use Rattle.roundtrip_programs.specs.Cards.Cards.{cards_text}
use Rattle.roundtrip_programs.specs.Cards.Cards as lines
use Rattle.roundtrip_programs.specs.Statements.Written.{phrase_text}
use Rattle.roundtrip_programs.specs.ModuleTexts.Cards.{Card, statements_of}
use Rattle.roundtrip_programs.specs.ModuleTexts.Page.{comments_at, spots_behind, inner_comments, added_at, behind, card_text, page_text}
use Rattle.roundtrip_programs.specs.ModuleTexts.Numbered.{IsWell}
use Rattle.roundtrip_programs.proofs.ModuleTexts.ModulePages.{written_by_cards}
use Rattle.roundtrip_programs.specs.Texts.Texts.{text_of}

-- a statement with its label and the comments before it
pub record Row : Type 0 where
  pub comments : List (List ℕ)
  pub label : Option ℕ
  pub phrase : PhraseTree

abbrev pub line_card : Row → lines.Card
line_card r = record { comments = r.comments; label = r.label; text = phrase_text r.phrase }

-- what is added before a part, line by line
abbrev pub added_lines : Part → List Added → Part → List (List ℕ)
added_lines first [] part = []
added_lines first (a ∷ others) part = if is_part part (part_of first a) then a.line ∷ added_lines first others part else added_lines first others part

abbrev pub lines_at : (Part → List (List ℕ)) → Part → List (List ℕ)
lines_at added Title = added Title
lines_at added (Decl n) = added (Decl n)
lines_at added (Stmt i) = added (Stmt i)
lines_at added (ElseIf i n) = []
lines_at added (Else i) = []
lines_at added (Close i) = []
lines_at added End = added End

abbrev pub row_of : (Part → List (List ℕ)) → List Spot → Card → Row
row_of added spots c =
    record { comments = comments_at c.part spots ++ lines_at added c.part ++ inner_comments c.inner (spots_behind c.part spots); label = c.label; phrase = c.phrase }

abbrev pub rows_of : (Part → List (List ℕ)) → List Spot → List Card → List Row
rows_of added spots [] = []
rows_of added spots (c ∷ cs) = row_of added spots c ∷ rows_of added (behind c spots) cs

-- those of a module, and of modules one after another
abbrev pub module_rows : (ParsedTree → List Added) → ParsedTree → List Row
module_rows added p = rows_of (added_lines (first_part p.module_read) (added p)) p.places.spots (statements_of p.module_read)

abbrev pub all_rows : (ParsedTree → List Added) → List ParsedTree → List Row
all_rows added [] = []
all_rows added (p ∷ ps) = module_rows added p ++ all_rows added ps

-- the comments at the end of the last module
abbrev pub last_closing : List ParsedTree → List (List ℕ)
last_closing [] = []
last_closing (p ∷ []) = p.places.closing
last_closing (p ∷ q ∷ qs) = last_closing (q ∷ qs)

-- ---- their text

pub lines-append : (ls ms : List (List ℕ)) → lines_text (ls ++ ms) ≡ lines_text ls ++ lines_text ms
lines-append [] ms = refl
lines-append (l ∷ ls) ms = ap (λ (x : List ℕ). (l ++ codes "\n") ++ x) (lines-append ls ms) ∙ sym (append_assoc (l ++ codes "\n") (lines_text ls) (lines_text ms))

added-by : (b : Bool) (line more : List ℕ) (others : List (List ℕ)) → more ≡ lines_text others
    → (if b then line ++ codes "\n" ++ more else more) ≡ lines_text (if b then line ∷ others else others)
added-by true line more others e = ap (λ (x : List ℕ). line ++ codes "\n" ++ x) e
added-by false line more others e = e

added-text : (first : Part) (added : List Added) (part : Part) → added_text first added part ≡ lines_text (added_lines first added part)
added-text first [] part = refl
added-text first (a ∷ others) part =
    added-by (is_part part (part_of first a)) a.line (added_text first others part) (added_lines first others part) (added-text first others part)

added-at : (first : Part) (added : List Added) (part : Part) → added_at (added_text first added) part ≡ lines_text (lines_at (added_lines first added) part)
added-at first added Title = added-text first added Title
added-at first added (Decl n) = added-text first added (Decl n)
added-at first added (Stmt i) = added-text first added (Stmt i)
added-at first added (ElseIf i n) = refl
added-at first added (Else i) = refl
added-at first added (Close i) = refl
added-at first added End = added-text first added End

comments-text : (a b c : List (List ℕ)) → lines_text (a ++ b ++ c) ≡ lines_text a ++ lines_text b ++ lines_text c
comments-text a b c = lines-append (a ++ b) c ∙ ap (λ (x : List ℕ). x ++ lines_text c) (lines-append a b)

-- a statement before others
row-text : (first : Part) (added : List Added) (spots : List Spot) (c : Card) (more : List ℕ)
    → card_text (added_text first added) spots c ++ more
    ≡ lines_text (row_of (added_lines first added) spots c).comments ++ (statement_lines c.label (phrase_text c.phrase) ++ more)
row-text first added spots c more =
    let before = comments_at c.part spots in
    let inner = inner_comments c.inner (spots_behind c.part spots) in
    let own = statement_lines c.label (phrase_text c.phrase) in
    let own_lines = lines_at (added_lines first added) c.part in
    ap (λ (x : List ℕ). (lines_text before ++ x ++ lines_text inner ++ own) ++ more) (added-at first added c.part)
    ∙ ap (λ (x : List ℕ). (x ++ own) ++ more) (sym (comments-text before own_lines inner))
    ∙ append_assoc (lines_text (before ++ own_lines ++ inner)) own more

page-rows : (first : Part) (added : List Added) (spots : List Spot) (cs : List Card) (more : List Row) (closing : List (List ℕ))
    → page_text (added_text first added) spots cs ++ cards_text (map line_card more) closing ≡ cards_text (map line_card (rows_of (added_lines first added) spots cs ++ more)) closing
page-rows first added spots [] more closing = refl
page-rows first added spots (c ∷ cs) more closing =
    let row = row_of (added_lines first added) spots c in
    append_assoc (card_text (added_text first added) spots c) (page_text (added_text first added) (behind c spots) cs) (cards_text (map line_card more) closing)
    ∙ ap (λ (x : List ℕ). card_text (added_text first added) spots c ++ x) (page-rows first added (behind c spots) cs more closing)
    ∙ row-text first added spots c (cards_text (map line_card (rows_of (added_lines first added) (behind c spots) cs ++ more)) closing)

-- a module before others: only the last has comments at its end
pub module-text : (added : ParsedTree → List Added) (p : ParsedTree) (more : List Row) (closing : List (List ℕ)) → IsWell p.module_read → p.places.closing ≡ []
    → text_of added p ++ cards_text (map line_card more) closing ≡ cards_text (map line_card (module_rows added p ++ more)) closing
module-text added p more closing well e =
    let first = first_part p.module_read in
    let page = page_text (added_text first (added p)) p.places.spots (statements_of p.module_read) in
    let behind = cards_text (map line_card more) closing in
    ap (λ (x : List ℕ). x ++ behind) (written_by_cards p.places p.module_read (added p) well)
    ∙ ap (λ (x : List (List ℕ)). (page ++ lines_text x) ++ behind) e
    ∙ ap (λ (x : List ℕ). x ++ behind) (append-nil page)
    ∙ page-rows first (added p) p.places.spots (statements_of p.module_read) more closing

pub last-text : (added : ParsedTree → List Added) (p : ParsedTree) → IsWell p.module_read → text_of added p ≡ cards_text (map line_card (module_rows added p ++ [])) p.places.closing
last-text added p well =
    written_by_cards p.places p.module_read (added p) well
    ∙ page-rows (first_part p.module_read) (added p) p.places.spots (statements_of p.module_read) [] p.places.closing
