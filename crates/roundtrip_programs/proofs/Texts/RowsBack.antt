-- Statements that are written are read as these statements.
use Rattle.std.proofs.Common.{◌≡◌, ℕ, ◌+◌, List, [], ◌∷◌, ◌++◌, length, map, refl, sym, ap, ◌∙◌, append_assoc, append-nil}
use Rattle.std.specs.Prelude.{Option, Some, None, Ok, false, IfSome}
use Rattle.fixed_form.specs.Laws.{IsLabel}
use Rattle.f77_ast.specs.declared.places.Spot.{Spot}
use Rattle.f77_ast.specs.declared.places.Part.{Part}
use Rattle.f77_statements.specs.Phrases.{end_module}
use Rattle.f77_structure.specs.Depth.{is_deep}
use Rattle.f77_parser.specs.Gives.{and_then}
use Rattle.f77_parser.specs.Statements.{StatementTree, read_as, all_read}
use Rattle.f77_printer.specs.Layout.{stripped}
use Rattle.roundtrip_programs.specs.Cards.Cards.{kept, continuations, line_at, lines_from}
use Rattle.roundtrip_programs.specs.Cards.Good.{IsComment, AreComments, AreCards, AreEnded}
use Rattle.roundtrip_programs.specs.Statements.Formed.{Each}
use Rattle.roundtrip_programs.specs.Statements.Phrased.{IsPhrase}
use Rattle.roundtrip_programs.specs.Statements.Written.{phrase_text, as_written}
use Rattle.roundtrip_programs.specs.ModuleTexts.Cards.{Card}
use Rattle.roundtrip_programs.specs.ModuleTexts.Page.{behind}
use Rattle.roundtrip_programs.specs.ModuleTexts.ModuleLaws.{MaybeLabel, of_statement, of_card, Labelled}
use Rattle.roundtrip_programs.proofs.Texts.CardsFit.{Fits, card-back, card-text}
use Rattle.roundtrip_programs.proofs.Texts.Rows.{Row, line_card, row_of, rows_of}

-- a statement that is read as it is written
pub record IsRow (r : Row) : Type 0 where
  pub comments : Each IsComment r.comments
  pub label : MaybeLabel r.label
  pub phrase : IsPhrase r.phrase
  pub same : as_written r.phrase ≡ r.phrase
  pub fits : Fits r.phrase

-- ---- what they are read as

abbrev pub read_row : ℕ → Row → StatementTree
read_row first r = record { first = first; label = r.label; deep = is_deep (stripped false (phrase_text r.phrase)); comments = kept r.comments; phrase = r.phrase }

-- the line behind a statement, where this is the line of its first comment
abbrev pub line_behind : ℕ → Row → ℕ
line_behind n r = n + length r.comments + continuations (phrase_text r.phrase) + 1

abbrev pub lines_behind : ℕ → List Row → ℕ
lines_behind n [] = n
lines_behind n (r ∷ rs) = lines_behind (line_behind n r) rs

abbrev pub read_rows : ℕ → List Row → List StatementTree
read_rows n [] = []
read_rows n (r ∷ rs) = read_row (n + length r.comments) r ∷ read_rows (line_behind n r) rs

pub rows-append : (xs ys : List Row) (n : ℕ) → read_rows n (xs ++ ys) ≡ read_rows n xs ++ read_rows (lines_behind n xs) ys
rows-append [] ys n = refl
rows-append (x ∷ xs) ys n = ap (λ l. read_row (n + length x.comments) x ∷ l) (rows-append xs ys (line_behind n x))

pub rows-read : (rs : List Row) (n : ℕ) (done : List StatementTree) → Each IsRow rs → all_read done (lines_from n (map line_card rs)) ≡ Ok (done ++ read_rows n rs)
rows-read [] n done h = ap (λ (x : List StatementTree). Ok x) (sym (append-nil done))
rows-read (r ∷ rs) n done h =
    let line = line_at (n + length r.comments) (line_card r) in
    let s = read_row (n + length r.comments) r in
    ap (λ x. and_then (read_as line x) (λ t. all_read (done ++ t ∷ []) (lines_from (line_behind n r) (map line_card rs)))) (card-back r.phrase h.first.phrase h.first.same)
    ∙ rows-read rs (line_behind n r) (done ++ s ∷ []) h.others
    ∙ ap (λ (x : List StatementTree). Ok x) (append_assoc done (s ∷ []) (read_rows (line_behind n r) rs))

-- with the labels and phrases that are written
pub rows-written : (added : Part → List (List ℕ)) (spots : List Spot) (cs : List Card) (n : ℕ) → map of_statement (read_rows n (rows_of added spots cs)) ≡ map of_card cs
rows-written added spots [] n = refl
rows-written added spots (c ∷ cs) n =
    ap (λ (l : List Labelled). of_card c ∷ l) (rows-written added (behind c spots) cs (line_behind n (row_of added spots c)))

-- ---- their lines have no fault

pub are-comments : (ls : List (List ℕ)) → Each IsComment ls → AreComments ls
are-comments [] h = tt
are-comments (l ∷ ls) h = record { first = h.first; others = are-comments ls h.others }

pub label-is : (label : Option ℕ) → MaybeLabel label → IfSome label IsLabel
label-is None h = tt
label-is (Some l) h = (h.least, h.most)

pub are-cards : (rs : List Row) → Each IsRow rs → AreCards (map line_card rs)
are-cards [] h = tt
are-cards (r ∷ rs) h = record {
  first = record {
    comments = are-comments r.comments h.first.comments;
    label = label-is r.label h.first.label;
    text = card-text r.phrase h.first.phrase h.first.same h.first.fits;
  };
  others = are-cards rs h.others;
}

abbrev pub EndWell : List Row → Type 0
EndWell rs = AreEnded (map line_card rs)

pub joined-ended : (xs ys : List Row) → EndWell xs → EndWell ys → EndWell (xs ++ ys)
joined-ended [] ys h e = e
joined-ended (x ∷ []) [] h e = h
joined-ended (x ∷ []) (y ∷ ys) h e = e
joined-ended (x ∷ y ∷ xs) ys h e = joined-ended (y ∷ xs) ys h e

pub rows-ended : (added : Part → List (List ℕ)) (spots : List Spot) (cs : List Card) (end : Card) → end.phrase ≡ end_module → EndWell (rows_of added spots (cs ++ end ∷ []))
rows-ended added spots [] end e = ap (λ x. stripped false (phrase_text x)) e
rows-ended added spots (c ∷ []) end e = rows-ended added (behind c spots) [] end e
rows-ended added spots (c ∷ d ∷ cs) end e = rows-ended added (behind c spots) (d ∷ cs) end e
