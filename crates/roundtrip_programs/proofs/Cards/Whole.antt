-- The law of the whole text.
use Rattle.std.proofs.Common.{◌≡◌, ℕ, ◌+◌, List, [], ◌∷◌, ◌++◌, length, map, refl, ap, sym, ◌∙◌, append-nil, Option, Some, None, true, false}
use Rattle.std.specs.Prelude.{Ok, bytes_eq, codes}
use Rattle.fx_lists.specs.declared.code.Code.{Code}
use Rattle.fixed_form.specs.TextLines.{text_lines}
use Rattle.fixed_form.specs.Faults.{first_fault}
use Rattle.fixed_form.specs.Reading.{Rest, rest_from, ends_well, outcome, reading}
use Rattle.f77_printer.specs.Layout.{label_field, stripped, fitted}
use Rattle.f77_printer.specs.PageText.{lines_text}
use Rattle.roundtrip_programs.specs.Cards.Cards.{Card, cards_text, kept, continuations, lines_from}
use Rattle.roundtrip_programs.specs.Cards.Good.{AreComments, IsCard, AreCards, AreEnded}
use Rattle.roundtrip_programs.specs.Cards.Laws.{LinesReadBack}
use Rattle.roundtrip_programs.proofs.Cards.Rows.{first_row, next_rows, continuation, statement_rows, statement-rows, first_allowed}
use Rattle.roundtrip_programs.proofs.Cards.TextLines.{AreWhole, IsWhole, text_lines-back, whole-append, comments_whole, allowed_whole, continuations_whole}
use Rattle.roundtrip_programs.proofs.Cards.Fields.{field_printable}
use Rattle.fixed_form.specs.Characters.{is_allowed}
use Rattle.roundtrip_programs.proofs.Cards.LineFacts.{allowed}
use Rattle.roundtrip_programs.proofs.Cards.Fit.{fitted_allowed}
use Rattle.roundtrip_programs.proofs.Cards.Statements.{rest_of, bare, next_of, statement_given, comments_given, closing_given}
use Rattle.roundtrip_programs.proofs.Cards.Faults.{Faultless, comments_faultless, statement_faultless}
use Rattle.std.proofs.lemmas.Bool.{and_from}
use Rattle.std.proofs.lemmas.List.Folds.{list_all-append}
use Rattle.roundtrip_programs.proofs.Texts.Rows.{lines-append as lines_text-append}

-- all lines
abbrev all_lines : List Card → List (List ℕ) → List (List ℕ)
all_lines [] closing = closing
all_lines (c ∷ cs) closing = c.comments ++ (statement_rows c.label c.text ++ all_lines cs closing)

text_is : (cards : List Card) (closing : List (List ℕ)) → cards_text cards closing ≡ lines_text (all_lines cards closing)
text_is [] closing = refl
text_is (c ∷ cs) closing =
    ap (λ (x : List ℕ). lines_text c.comments ++ (x ++ cards_text cs closing)) (statement-rows c.label c.text)
    ∙ ap (λ (x : List ℕ). lines_text c.comments ++ (lines_text (statement_rows c.label c.text) ++ x)) (text_is cs closing)
    ∙ ap (λ (x : List ℕ). lines_text c.comments ++ x) (sym (lines_text-append (statement_rows c.label c.text) (all_lines cs closing)))
    ∙ sym (lines_text-append c.comments (statement_rows c.label c.text ++ all_lines cs closing))

first_whole : (c : Card) → IsCard c → IsWhole (label_field c.label ++ first_row 0 (fitted c.text))
first_whole c h =
    allowed_whole (label_field c.label ++ first_row 0 (fitted c.text))
    (list_all-append is_allowed (label_field c.label) (first_row 0 (fitted c.text))
    ∙ and_from _ _ (allowed (label_field c.label) (field_printable c.label h.label)) (first_allowed 0 (fitted c.text) (fitted_allowed c.text h.text.allowed)))

lines_whole : (cards : List Card) (closing : List (List ℕ)) → AreCards cards → AreComments closing → AreWhole (all_lines cards closing)
lines_whole [] closing h g = comments_whole closing g
lines_whole (c ∷ cs) closing h g =
    whole-append c.comments (statement_rows c.label c.text ++ all_lines cs closing) (comments_whole c.comments h.first.comments)
    (record {
      first = first_whole c h.first;
      others = whole-append (map continuation (next_rows 0 (fitted c.text))) (all_lines cs closing)
          (continuations_whole (next_rows 0 (fitted c.text)) (next_of c h.first)) (lines_whole cs closing h.others g);
    })

faultless : (cards : List Card) (closing : List (List ℕ)) → AreCards cards → AreComments closing → Faultless (all_lines cards closing)
unfolding first_fault
faultless [] closing h g begun n = ap (first_fault begun n) (sym (append-nil closing)) ∙ comments_faultless closing [] g (λ b k. refl) begun n
faultless (c ∷ cs) closing h g begun n =
    comments_faultless c.comments (statement_rows c.label c.text ++ all_lines cs closing) h.first.comments
    (statement_faultless c (all_lines cs closing) h.first (faultless cs closing h.others g)) begun n

given : (cards : List Card) (closing : List (List ℕ)) (n : ℕ) → AreCards cards → AreComments closing
    → rest_from n (all_lines cards closing) ≡ rest_of [] None (lines_from n cards) (kept closing)
given [] closing n h g = closing_given closing n g
given (c ∷ cs) closing n h g =
    let m : ℕ = n + length c.comments in
    comments_given c.comments n (statement_rows c.label c.text ++ all_lines cs closing) (bare m (m + continuations c.text) c.label (stripped false c.text))
    (lines_from (m + continuations c.text + 1) cs) (kept closing) h.first.comments
    (statement_given c m (all_lines cs closing) (lines_from (m + continuations c.text + 1) cs) (kept closing) h.first (given cs closing (m + continuations c.text + 1) h.others g))

end_is : (b : List ℕ) → b ≡ codes "END" → bytes_eq b (codes "END") ≡ true
end_is b h = ap (λ (x : List ℕ). bytes_eq x (codes "END")) h

ended : (cards : List Card) (n : ℕ) → AreEnded cards → ends_well (lines_from n cards) ≡ true
ended [] n h = refl
ended (c ∷ []) n h = end_is (stripped false c.text) h
ended (c ∷ d ∷ cs) n h = ended (d ∷ cs) (n + length c.comments + continuations c.text + 1) h

outcome_by : (o : Option (ℕ × Code)) (last : ℕ) (rest : Rest) → o ≡ None → ends_well rest.statements ≡ true → outcome o last rest ≡ Ok (record { lines = rest.statements; closing = rest.closing })
outcome_by None last rest p e = rw e
outcome_by (Some f) last rest p e = cc

pub lines_read_back : LinesReadBack
unfolding reading
lines_read_back cards closing h g e =
    let ls : List (List ℕ) = all_lines cards closing in
    let t : text_lines (cards_text cards closing) ≡ ls = ap text_lines (text_is cards closing) ∙ text_lines-back ls (lines_whole cards closing h g) in
    ap (λ (x : List (List ℕ)). outcome (first_fault None 1 x) (length x) (rest_from 1 x)) t
    ∙ ap (outcome (first_fault None 1 ls) (length ls)) (given cards closing 1 h g)
    ∙ outcome_by (first_fault None 1 ls) (length ls) (rest_of [] None (lines_from 1 cards) (kept closing)) (faultless cards closing h g None 1) (ended cards 1 e)
