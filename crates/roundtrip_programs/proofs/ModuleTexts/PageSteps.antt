-- Statements on a page.
use Rattle.std.proofs.Common.{◌≡◌, ℕ, List, [], ◌∷◌, ◌++◌, Bool, true, false, refl, sym, ap, ◌∙◌, append_assoc, append-nil}
use Rattle.std.specs.Prelude.{Option, Some, None, if◌then◌else◌}
use Rattle.f77_ast.specs.declared.places.Part.{Part}
use Rattle.f77_ast.specs.declared.places.Part.TheVariants.{Title, Decl, Stmt, ElseIf, Else, Close, End}
use Rattle.f77_ast.specs.declared.places.Spot.{Spot}
use Rattle.f77_printer.specs.Layout.{statement_lines}
use Rattle.f77_printer.specs.PageText.{PageTree, is_part, with_text, with_spot, with_comments, with_line, lines_text}
use Rattle.f77_printer.specs.ModuleText.{with_start}
use Rattle.roundtrip_programs.specs.Statements.Written.{phrase_text}
use Rattle.roundtrip_programs.specs.ModuleTexts.Cards.{Card}
use Rattle.roundtrip_programs.specs.ModuleTexts.Page.{comments_at, spots_behind, inner_comments, inner_behind, added_at, behind, card_text, page_text}

-- a part with its comments and what is added
abbrev pub started : (Part → List ℕ) → Part → PageTree → PageTree
started added Title p = with_start added Title p
started added (Decl n) p = with_start added (Decl n) p
started added (Stmt i) p = with_start added (Stmt i) p
started added (ElseIf i n) p = with_comments (ElseIf i n) p
started added (Else i) p = with_comments (Else i) p
started added (Close i) p = with_comments (Close i) p
started added End p = with_start added End p

abbrev pub with_own : Option Part → PageTree → PageTree
with_own None p = p
with_own (Some part) p = with_comments part p

abbrev pub with_card : (Part → List ℕ) → Card → PageTree → PageTree
with_card added c p = with_line c.label (phrase_text c.phrase) (with_own c.inner (started added c.part p))

abbrev pub with_cards : (Part → List ℕ) → List Card → PageTree → PageTree
with_cards added [] p = p
with_cards added (c ∷ cs) p = with_cards added cs (with_card added c p)

pub with_cards-append : (added : Part → List ℕ) (xs ys : List Card) (p : PageTree) → with_cards added (xs ++ ys) p ≡ with_cards added ys (with_cards added xs p)
with_cards-append added [] ys p = refl
with_cards-append added (x ∷ xs) ys p = with_cards-append added xs ys (with_card added x p)

-- ---- what they are as text

abbrev page : List ℕ → List Spot → PageTree
page text spots = record { text = text; spots = spots }

next_by : (b : Bool) (text : List ℕ) (s : Spot) (ss : List Spot)
    → (if b then with_spot s ss (page text (s ∷ ss)) else page text (s ∷ ss)) ≡ page (text ++ lines_text (if b then s.comments else [])) (if b then ss else s ∷ ss)
next_by true text s ss = refl
next_by false text s ss = ap (λ t. page t (s ∷ ss)) (sym (append-nil text))

comments_by : (part : Part) (text : List ℕ) (spots : List Spot)
    → with_comments part (page text spots) ≡ page (text ++ lines_text (comments_at part spots)) (spots_behind part spots)
unfolding with_comments
comments_by part text [] = ap (λ t. page t []) (sym (append-nil text))
comments_by part text (s ∷ ss) = next_by (is_part part s.part) text s ss

added_by : (more : List ℕ) (part : Part) (text : List ℕ) (spots : List Spot)
    → with_text more (with_comments part (page text spots)) ≡ page (text ++ lines_text (comments_at part spots) ++ more) (spots_behind part spots)
unfolding with_text
added_by more part text spots = ap (with_text more) (comments_by part text spots)

unadded_by : (part : Part) (text : List ℕ) (spots : List Spot)
    → with_comments part (page text spots) ≡ page (text ++ lines_text (comments_at part spots) ++ []) (spots_behind part spots)
unadded_by part text spots = comments_by part text spots ∙ ap (λ t. page t (spots_behind part spots)) (sym (append-nil _))

started_by : (added : Part → List ℕ) (part : Part) (text : List ℕ) (spots : List Spot)
    → started added part (page text spots) ≡ page (text ++ lines_text (comments_at part spots) ++ added_at added part) (spots_behind part spots)
started_by added Title text spots = added_by (added Title) Title text spots
started_by added (Decl n) text spots = added_by (added (Decl n)) (Decl n) text spots
started_by added (Stmt i) text spots = added_by (added (Stmt i)) (Stmt i) text spots
started_by added (ElseIf i n) text spots = unadded_by (ElseIf i n) text spots
started_by added (Else i) text spots = unadded_by (Else i) text spots
started_by added (Close i) text spots = unadded_by (Close i) text spots
started_by added End text spots = added_by (added End) End text spots

own_by : (inner : Option Part) (text : List ℕ) (spots : List Spot)
    → with_own inner (page text spots) ≡ page (text ++ lines_text (inner_comments inner spots)) (inner_behind inner spots)
own_by None text spots = ap (λ t. page t spots) (sym (append-nil text))
own_by (Some part) text spots = comments_by part text spots

grouped : (t a b c d : List ℕ) → t ++ a ++ b ++ c ++ d ≡ t ++ (a ++ b ++ c ++ d)
grouped t a b c d = simp append_assoc refl

card_by : (added : Part → List ℕ) (c : Card) (text : List ℕ) (spots : List Spot)
    → with_card added c (page text spots) ≡ page (text ++ card_text added spots c) (behind c spots)
unfolding with_text
card_by added c text spots =
    let before = text ++ lines_text (comments_at c.part spots) ++ added_at added c.part in
    let left = spots_behind c.part spots in
    ap (λ p. with_line c.label (phrase_text c.phrase) (with_own c.inner p)) (started_by added c.part text spots)
    ∙ ap (with_line c.label (phrase_text c.phrase)) (own_by c.inner before left)
    ∙ ap (λ t. page t (behind c spots))
    (grouped text (lines_text (comments_at c.part spots)) (added_at added c.part) (lines_text (inner_comments c.inner left)) (statement_lines c.label (phrase_text c.phrase)))

-- the text of a page with these statements more
pub page-cards : (added : Part → List ℕ) (cs : List Card) (text : List ℕ) (spots : List Spot)
    → (with_cards added cs (page text spots)).text ≡ text ++ page_text added spots cs
page-cards added [] text spots = sym (append-nil text)
page-cards added (c ∷ cs) text spots =
    ap (λ p. (with_cards added cs p).text) (card_by added c text spots)
    ∙ page-cards added cs (text ++ card_text added spots c) (behind c spots)
    ∙ append_assoc text (card_text added spots c) (page_text added (behind c spots) cs)
