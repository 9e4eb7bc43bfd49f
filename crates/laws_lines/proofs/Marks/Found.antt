-- The directives of a text of statements, each with the lines before it.
use Rattle.std.proofs.Common.{◌≡◌, ℕ, ◌+◌, Bool, true, false, List, [], ◌∷◌, ◌++◌, length, map, refl, sym, ap, ◌∙◌, arith, append_assoc, append-nil, length-append, Option, Some, None, if◌then◌else◌}
use Rattle.std.specs.Prelude.{nat_eq, codes}
use Rattle.std.specs.List.{list_any, AllByRecursion}
use Rattle.std.proofs.lemmas.Bool.{or_parts, eqb-false, ne_eqb}
use Rattle.fixed_form.specs.TextLines.{lines_of, without_returns, text_lines}
use Rattle.f77_printer.specs.PageText.{lines_text}
use Rattle.f77_printer.specs.Layout.{statement_lines}
use Rattle.laws_programs.specs.roundtrip_programs.Cards.Cards.{cards_text, continuations}
use Rattle.laws_programs.specs.roundtrip_programs.Cards.Good.{IsComment}
use Rattle.laws_programs.specs.roundtrip_programs.Statements.Formed.{Each}
use Rattle.laws_programs.specs.roundtrip_programs.Statements.Written.{phrase_text}
use Rattle.system_text.specs.Reading.{Bytes, ◌>>=◌}
use Rattle.laws_programs.proofs.RoundtripPrograms.Texts.CardsFit.{card-text}
use Rattle.laws_programs.proofs.RoundtripPrograms.Texts.Rows.{Row, line_card}
use Rattle.laws_programs.proofs.RoundtripPrograms.Texts.RowsBack.{IsRow, line_behind, lines_behind, label-is as label_is}
use Rattle.laws_lines.specs.Marks.Directives.{Clauses, is_sentinel, read_lines, Directive, with_directive, directives_from}
use Rattle.laws_lines.proofs.Marks.Rows.{AreOthers, statement_rows, rows_are, rows_count, statement_others}

-- ---- the lines of a text

record IsOne (l : Bytes) : Type 0 where
  one_line : list_any (nat_eq 10) l ≡ false
  no_return : without_returns l ≡ l

abbrev AreOne : List Bytes → Type 0
AreOne ls = AllByRecursion IsOne ls

line_first : (l rest : Bytes) → list_any (nat_eq 10) l ≡ false → lines_of (l ++ (10 ∷ rest)) ≡ l ∷ lines_of rest
line_first [] rest h = refl
line_first (c ∷ cs) rest h =
    let p = or_parts (nat_eq 10 c) (list_any (nat_eq 10) cs) h in
    let n = eqb-false 10 c p.0 in
    let e : nat_eq c 10 ≡ false = ne_eqb c 10 (λ q. n (sym q)) in
    let r : lines_of (cs ++ (10 ∷ rest)) ≡ cs ∷ lines_of rest = line_first cs rest p.1 in
    rw (e, r)

block_lines : (ls : List Bytes) (rest : Bytes) → AreOne ls → text_lines (lines_text ls ++ rest) ≡ ls ++ text_lines rest
block_lines [] rest h = refl
block_lines (l ∷ ls) rest h =
    ap text_lines (append_assoc (l ++ codes "\n") (lines_text ls) rest ∙ append_assoc l (codes "\n") (lines_text ls ++ rest))
    ∙ ap (map without_returns) (line_first l (lines_text ls ++ rest) h.0.one_line)
    ∙ ap (λ (x : Bytes). x ∷ text_lines (lines_text ls ++ rest)) h.0.no_return
    ∙ ap (λ (x : List Bytes). l ∷ x) (block_lines ls rest h.1)

comments_one : (ls : List Bytes) → Each IsComment ls → AreOne ls
comments_one [] h = tt
comments_one (l ∷ ls) h = (record { one_line = h.first.one_line; no_return = h.first.no_return }, comments_one ls h.others)

others_one : (ls : List Bytes) → AreOthers ls → AreOne ls
others_one [] h = tt
others_one (l ∷ ls) h = (record { one_line = h.0.one_line; no_return = h.0.no_return }, others_one ls h.1)

abbrev pub own_rows : Row → List Bytes
own_rows r = statement_rows r.label (phrase_text r.phrase)

abbrev pub lines_of_rows : List Row → List Bytes → List Bytes
lines_of_rows [] closing = closing
lines_of_rows (r ∷ rs) closing = r.comments ++ (own_rows r ++ lines_of_rows rs closing)

pub own_others : (r : Row) → IsRow r → AreOthers (own_rows r)
own_others r h = statement_others r.label (phrase_text r.phrase) (label_is r.label h.label) (card-text r.phrase h.phrase h.same h.fits).allowed

closing_lines : (ls : List Bytes) → AreOne ls → text_lines (lines_text ls) ≡ ls
closing_lines ls h = ap text_lines (sym (append-nil (lines_text ls))) ∙ block_lines ls [] h ∙ append-nil ls

pub lines_are : (rs : List Row) (closing : List Bytes) → Each IsRow rs → Each IsComment closing → text_lines (cards_text (map line_card rs) closing) ≡ lines_of_rows rs closing
lines_are [] closing h k = closing_lines closing (comments_one closing k)
lines_are (r ∷ rs) closing h k =
    let more = cards_text (map line_card rs) closing in
    block_lines r.comments (statement_lines r.label (phrase_text r.phrase) ++ more) (comments_one r.comments h.first.comments)
    ∙ ap (λ (x : Bytes). r.comments ++ text_lines (x ++ more)) (rows_are r.label (phrase_text r.phrase))
    ∙ ap (λ (x : List Bytes). r.comments ++ x) (block_lines (own_rows r) more (others_one (own_rows r) (own_others r h.first)))
    ∙ ap (λ (x : List Bytes). r.comments ++ (own_rows r ++ x)) (lines_are rs closing h.others k)

-- ---- lines that are passed, and lines that are held

abbrev pub ArePlain : List Bytes → Type 0
ArePlain ls = AllByRecursion (λ (l : Bytes). is_sentinel l ≡ false) ls

abbrev pub AreSentinels : List Bytes → Type 0
AreSentinels ls = AllByRecursion (λ (l : Bytes). is_sentinel l ≡ true) ls

others_plain : (ls : List Bytes) → AreOthers ls → ArePlain ls
others_plain [] h = tt
others_plain (l ∷ ls) h = (h.0.plain, others_plain ls h.1)

flushed : (n : ℕ) (held : List Bytes) (l : Bytes) (more : List Bytes) → is_sentinel l ≡ false → directives_from n held (l ∷ more) ≡ with_directive n held (directives_from (n + 1) [] more)
unfolding directives_from
flushed n held l more e = ap (λ (b : Bool). if b then directives_from (n + 1) (held ++ l ∷ []) more else with_directive n held (directives_from (n + 1) [] more)) e

holding : (n : ℕ) (held : List Bytes) (l : Bytes) (more : List Bytes) → is_sentinel l ≡ true → directives_from n held (l ∷ more) ≡ directives_from (n + 1) (held ++ l ∷ []) more
unfolding directives_from
holding n held l more e = ap (λ (b : Bool). if b then directives_from (n + 1) (held ++ l ∷ []) more else with_directive n held (directives_from (n + 1) [] more)) e

passed : (ls more : List Bytes) (n : ℕ) → ArePlain ls → directives_from n [] (ls ++ more) ≡ directives_from (n + length ls) [] more
passed [] more n h = let e : n ≡ n + 0 = omega arith in ap (λ (k : ℕ). directives_from k [] more) e
passed (l ∷ ls) more n h =
    let e : (n + 1) + length ls ≡ n + length (l ∷ ls) = omega arith in
    flushed n [] l (ls ++ more) h.0 ∙ passed ls more (n + 1) h.1 ∙ ap (λ (k : ℕ). directives_from k [] more) e

held : (ls more before : List Bytes) (n : ℕ) → AreSentinels ls → directives_from n before (ls ++ more) ≡ directives_from (n + length ls) (before ++ ls) more
held [] more before n h =
    let e : n ≡ n + 0 = omega arith in
    ap (λ (k : ℕ). directives_from k before more) e ∙ ap (λ (x : List Bytes). directives_from (n + 0) x more) (sym (append-nil before))
held (l ∷ ls) more before n h =
    let e : (n + 1) + length ls ≡ n + length (l ∷ ls) = omega arith in
    holding n before l (ls ++ more) h.0
    ∙ held ls more (before ++ l ∷ []) (n + 1) h.1
    ∙ ap (λ (k : ℕ). directives_from k ((before ++ l ∷ []) ++ ls) more) e
    ∙ ap (λ (x : List Bytes). directives_from (n + length (l ∷ ls)) x more) (append_assoc before (l ∷ []) ls)

-- what is held belongs to the line of the first of these lines
belongs : (ls more before : List Bytes) (n k : ℕ) → length ls ≡ k + 1 → ArePlain ls → directives_from n before (ls ++ more) ≡ with_directive n before (directives_from (n + (k + 1)) [] more)
belongs [] more before n k e h = absurd (omega (arith, e))
belongs (l ∷ ls) more before n k e h =
    let f : (n + 1) + length ls ≡ n + (k + 1) = omega (arith, e) in
    flushed n before l (ls ++ more) h.0
    ∙ ap (with_directive n before) (passed ls more (n + 1) h.1 ∙ ap (λ (j : ℕ). directives_from j [] more) f)

-- ---- statements

-- lines before a statement whose directive stands directly before it, and says this
pub record IsDirected (ls : List Bytes) (says : Clauses) : Type 0 where
  pub before : List Bytes
  pub own : List Bytes
  pub parts : ls ≡ before ++ own
  pub plain : ArePlain before
  pub sentinels : AreSentinels own
  pub read : read_lines own ≡ Some says

-- or that has none
abbrev pub LinesAre : List Bytes → Option Clauses → Type 0
LinesAre ls None = ArePlain ls
LinesAre ls (Some says) = IsDirected ls says

abbrev pub RowIs : Row → Option Clauses → Type 0
RowIs r m = LinesAre r.comments m

abbrev pub AreRows : List Row → List (Option Clauses) → Type 0
AreRows [] [] = Unit {0}
AreRows [] (m ∷ ms) = ⊥
AreRows (r ∷ rs) [] = ⊥
AreRows (r ∷ rs) (m ∷ ms) = RowIs r m × AreRows rs ms

abbrev pub found_at : ℕ → Option Clauses → List Directive → List Directive
found_at k None ds = ds
found_at k (Some says) ds = record { line = k; says = says } ∷ ds

-- the directives of statements, where the first comment of the first of them stands in line n
abbrev pub found : ℕ → List Row → List (Option Clauses) → List Directive
found n [] ms = []
found n (r ∷ rs) [] = []
found n (r ∷ rs) (m ∷ ms) = found_at (n + length r.comments) m (found (line_behind n r) rs ms)

with_own : (k : ℕ) (own : List Bytes) (says : Clauses) (ds : List Directive) → read_lines own ≡ Some says → with_directive k own (Some ds) ≡ Some (record { line = k; says = says } ∷ ds)
with_own k [] says ds h = cc
with_own k (l ∷ ls) says ds h = ap (λ (o : Option Clauses). o >>= (λ (x : Clauses). Some (record { line = k; says = x } ∷ ds))) h

pub row_count : (n : ℕ) (r : Row) → (n + length r.comments) + (continuations (phrase_text r.phrase) + 1) ≡ line_behind n r
row_count n r = omega arith

row_found : (m : Option Clauses) (r : Row) (n : ℕ) (more : List Bytes) (ds : List Directive) → IsRow r → RowIs r m → directives_from (line_behind n r) [] more ≡ Some ds
    → directives_from n [] (r.comments ++ (own_rows r ++ more)) ≡ Some (found_at (n + length r.comments) m ds)
row_found None r n more ds g h e =
    let plain = others_plain (own_rows r) (own_others r g) in
    passed r.comments (own_rows r ++ more) n h
    ∙ belongs (own_rows r) more [] (n + length r.comments) (continuations (phrase_text r.phrase)) (rows_count r.label (phrase_text r.phrase)) plain
    ∙ ap (λ (k : ℕ). directives_from k [] more) (row_count n r)
    ∙ e
row_found (Some says) r n more ds g h e =
    let plain = others_plain (own_rows r) (own_others r g) in
    let l : (n + length h.before) + length h.own ≡ n + length r.comments = omega (arith, length-append h.before h.own, ap length h.parts) in
    ap (λ (x : List Bytes). directives_from n [] (x ++ (own_rows r ++ more))) h.parts
    ∙ ap (directives_from n []) (append_assoc h.before h.own (own_rows r ++ more))
    ∙ passed h.before (h.own ++ (own_rows r ++ more)) n h.plain
    ∙ held h.own (own_rows r ++ more) [] (n + length h.before) h.sentinels
    ∙ ap (λ (k : ℕ). directives_from k h.own (own_rows r ++ more)) l
    ∙ belongs (own_rows r) more h.own (n + length r.comments) (continuations (phrase_text r.phrase)) (rows_count r.label (phrase_text r.phrase)) plain
    ∙ ap (λ (k : ℕ). with_directive (n + length r.comments) h.own (directives_from k [] more)) (row_count n r)
    ∙ ap (with_directive (n + length r.comments) h.own) e
    ∙ with_own (n + length r.comments) h.own says ds h.read

closing_found : (ls : List Bytes) (n : ℕ) → ArePlain ls → directives_from n [] ls ≡ Some []
unfolding directives_from
closing_found ls n h = ap (directives_from n []) (sym (append-nil ls)) ∙ passed ls [] n h

pub rows_found : (rs : List Row) (ms : List (Option Clauses)) (closing : List Bytes) (n : ℕ) → Each IsRow rs → AreRows rs ms → ArePlain closing
    → directives_from n [] (lines_of_rows rs closing) ≡ Some (found n rs ms)
rows_found [] [] closing n g h c = closing_found closing n c
rows_found [] (m ∷ ms) closing n g h c = absurd h
rows_found (r ∷ rs) [] closing n g h c = absurd h
rows_found (r ∷ rs) (m ∷ ms) closing n g h c =
    row_found m r n (lines_of_rows rs closing) (found (line_behind n r) rs ms) g.first h.0 (rows_found rs ms closing (line_behind n r) g.others h.1 c)

pub rows_join : (xs ys : List Row) (ms ns : List (Option Clauses)) → AreRows xs ms → AreRows ys ns → AreRows (xs ++ ys) (ms ++ ns)
rows_join [] ys [] ns h k = k
rows_join [] ys (m ∷ ms) ns h k = absurd h
rows_join (x ∷ xs) ys [] ns h k = absurd h
rows_join (x ∷ xs) ys (m ∷ ms) ns h k = (h.0, rows_join xs ys ms ns h.1 k)

found_split : (k : ℕ) (m : Option Clauses) (ds es : List Directive) → found_at k m (ds ++ es) ≡ found_at k m ds ++ es
found_split k None ds es = refl
found_split k (Some says) ds es = refl

pub found_append : (xs ys : List Row) (ms ns : List (Option Clauses)) (n : ℕ) → AreRows xs ms → found n (xs ++ ys) (ms ++ ns) ≡ found n xs ms ++ found (lines_behind n xs) ys ns
found_append [] ys [] ns n h = refl
found_append [] ys (m ∷ ms) ns n h = absurd h
found_append (x ∷ xs) ys [] ns n h = absurd h
found_append (x ∷ xs) ys (m ∷ ms) ns n h =
    ap (found_at (n + length x.comments) m) (found_append xs ys ms ns (line_behind n x) h.1)
    ∙ found_split (n + length x.comments) m (found (line_behind n x) xs ms) (found (lines_behind (line_behind n x) xs) ys ns)
