-- What reading gives of the lines of one statement and of comments.
use Rattle.std.proofs.Common.{◌≡◌, ℕ, sym, suc, ◌+◌, ◌-◌, ◌/◌, List, [], ◌∷◌, ◌++◌, length, map, refl, ap, ◌∙◌, arith, Option, Some, None, Bool, true, false, if◌then◌else◌}
use Rattle.std.specs.Prelude.{unwrap_or}
use Rattle.std.proofs.lemmas.Bool.{or_parts}
use Rattle.fixed_form.specs.declared.label.LabelField.{LabelField}
use Rattle.fixed_form.specs.declared.line.Line.{Line}
use Rattle.fixed_form.specs.Body as body
use Rattle.fixed_form.specs.Cards.{is_comment, is_dropped, card, columns, is_initial, label_field}
use Rattle.fixed_form.specs.Reading.{Rest, with_comment, with_initial, with_continuation, label_of, rest_from}
use Rattle.f77_printer.specs.Layout.{stripped, fitted}
use Rattle.roundtrip_programs.specs.Cards.Cards.{Card, kept, continuations}
use Rattle.roundtrip_programs.specs.Cards.Good.{AreComments, IsCard, starts}
use Rattle.roundtrip_programs.proofs.Cards.Rows.{first_row, next_rows, continuation, statement_rows, AreRows, padded, joined, short, first_allowed, rows, count, columns_joined}
use Rattle.roundtrip_programs.proofs.Cards.Fields.{as_field}
use Rattle.roundtrip_programs.proofs.Cards.LineFacts.{first_line, IsFirst, first_is, next_is}
use Rattle.roundtrip_programs.proofs.Cards.Fit.{fitted_read, fitted_allowed, fitted_tabless, has_tab-append, fitted_starts}

-- what lines give that begin with continuation lines
abbrev pub rest_of : List ℕ → Option ℕ → List Line → List (List ℕ) → Rest
rest_of more last ss cs = record { more = more; last = last; inside = []; statements = ss; closing = cs }

-- the number of the last of these rows, where the first one is in line n
abbrev pub last_of : ℕ → List (List ℕ) → Option ℕ
last_of n [] = None
last_of n (r ∷ rs) = Some (n + length rs)

last_is : (n : ℕ) (rs : List (List ℕ)) → unwrap_or (last_of (n + 1) rs) n ≡ n + length rs
last_is n [] = omega arith
last_is n (r ∷ rs) = omega arith

-- ---- continuation lines

next_by : (b i d : Bool) (n : ℕ) (line c : List ℕ) (rest : Rest) → b ≡ false → i ≡ false
    → (if b then (if d then rest else with_comment line rest) else if i then with_initial n c rest else with_continuation n c rest) ≡ with_continuation n c rest
next_by false false d n line c rest p q = refl
next_by true i d n line c rest p q = cc
next_by false true d n line c rest p q = cc

next_given : (n : ℕ) (r : List ℕ) (rs : List (List ℕ)) (ss : List Line) (cs : List (List ℕ)) → columns (card (continuation r)) ≡ padded r
    → with_continuation n (card (continuation r)) (rest_of (joined rs) (last_of (n + 1) rs) ss cs) ≡ rest_of (joined (r ∷ rs)) (last_of n (r ∷ rs)) ss cs
next_given n r rs ss cs e =
    ap (λ (x : List ℕ). rest_of (x ++ joined rs) (Some (unwrap_or (last_of (n + 1) rs) n)) ss cs) e
    ∙ ap (λ (k : ℕ). rest_of (joined (r ∷ rs)) (Some k) ss cs) (last_is n rs)

pub continuations_given : (rs : List (List ℕ)) (n : ℕ) (more : List (List ℕ)) (ss : List Line) (cs : List (List ℕ)) → AreRows rs
    → rest_from (n + length rs) more ≡ rest_of [] None ss cs → rest_from n (map continuation rs ++ more) ≡ rest_of (joined rs) (last_of n rs) ss cs
unfolding rest_from
continuations_given [] n more ss cs h e = let z : n ≡ n + 0 = omega arith in ap (λ (k : ℕ). rest_from k more) z ∙ e
continuations_given (r ∷ rs) n more ss cs h e =
    let x = next_is r h.first in
    let z : (n + 1) + length rs ≡ n + suc (length rs) = omega arith in
    let i : rest_from (n + 1) (map continuation rs ++ more) ≡ rest_of (joined rs) (last_of (n + 1) rs) ss cs =
    continuations_given rs (n + 1) more ss cs h.others (ap (λ (k : ℕ). rest_from k more) z ∙ e) in
    next_by (is_comment (continuation r)) (is_initial (card (continuation r))) (is_dropped (continuation r)) n (continuation r) (card (continuation r)) (rest_from (n + 1) (map continuation rs ++ more)) x.comment x.initial
    ∙ ap (with_continuation n (card (continuation r))) i
    ∙ next_given n r rs ss cs x.columns

-- ---- the first line

first_by : (b i d : Bool) (n : ℕ) (line c : List ℕ) (rest : Rest) → b ≡ false → i ≡ true
    → (if b then (if d then rest else with_comment line rest) else if i then with_initial n c rest else with_continuation n c rest) ≡ with_initial n c rest
first_by false true d n line c rest p q = refl
first_by true i d n line c rest p q = cc
first_by false false d n line c rest p q = cc

abbrev pub bare : ℕ → ℕ → Option ℕ → List ℕ → Line
bare first last label b = record { first = first; last = last; label = label; body = b; comments = [] }

label_back : (label : Option ℕ) → label_of (as_field label) ≡ label
label_back None = refl
label_back (Some n) = refl

initial_given : (n : ℕ) (c r b : List ℕ) (label : Option ℕ) (rs : List (List ℕ)) (ss : List Line) (cs : List (List ℕ))
    → columns c ≡ padded r → label_field c ≡ as_field label → body.stripped false (padded r ++ joined rs) ≡ b
    → with_initial n c (rest_of (joined rs) (last_of (n + 1) rs) ss cs) ≡ rest_of [] None (bare n (n + length rs) label b ∷ ss) cs
initial_given n c r b label rs ss cs p q e =
    let made : ℕ → Option ℕ → List ℕ → Rest = λ k l x. rest_of [] None (bare n k l x ∷ ss) cs in
    ap (λ (l : LabelField). made (unwrap_or (last_of (n + 1) rs) n) (label_of l) (body.stripped false (columns c ++ joined rs))) q
    ∙ ap (λ (l : Option ℕ). made (unwrap_or (last_of (n + 1) rs) n) l (body.stripped false (columns c ++ joined rs))) (label_back label)
    ∙ ap (λ (k : ℕ). made k label (body.stripped false (columns c ++ joined rs))) (last_is n rs)
    ∙ ap (λ (x : List ℕ). made (n + length rs) label (body.stripped false (x ++ joined rs))) p
    ∙ ap (made (n + length rs) label) e

first_starts : (t : List ℕ) → starts t ≡ true → starts (first_row 0 t) ≡ true
first_starts [] h = h
first_starts (c ∷ cs) h = h

-- the facts of a statement's first line
pub columns_tabless : (c : Card) → IsCard c → body.has_tab false (padded (first_row 0 (fitted c.text)) ++ joined (next_rows 0 (fitted c.text))) ≡ false
columns_tabless c h =
    let j = columns_joined (fitted c.text) in
    ap (body.has_tab false) j.1 ∙ fitted_tabless c.text j.0 h.text.lined h.text.tabless

pub first_of : (c : Card) → IsCard c → IsFirst c.label (first_row 0 (fitted c.text))
first_of c h =
    let f : List ℕ = fitted c.text in
    let p = fitted_allowed c.text h.text.allowed in
    let t = or_parts _ _ (sym (has_tab-append (padded (first_row 0 f)) (joined (next_rows 0 f)) false) ∙ columns_tabless c h) in
    first_is c.label (first_row 0 f) h.label (omega (arith, short 0 f (omega arith))) (first_allowed 0 f p) t.0 (first_starts f (fitted_starts c.text h.text.front))

pub next_of : (c : Card) → IsCard c → AreRows (next_rows 0 (fitted c.text))
next_of c h = rows 0 (fitted c.text) (fitted_allowed c.text h.text.allowed)

pub count_of : (c : Card) → length (next_rows 0 (fitted c.text)) ≡ continuations c.text
count_of c =
    let e : 0 + length (fitted c.text) - 1 ≡ length (fitted c.text) - 1 = omega arith in
    count 0 (fitted c.text) (omega arith) ∙ ap (λ (k : ℕ). k / 66) e

pub statement_given : (c : Card) (n : ℕ) (more : List (List ℕ)) (ss : List Line) (cs : List (List ℕ)) → IsCard c
    → rest_from (n + continuations c.text + 1) more ≡ rest_of [] None ss cs
    → rest_from n (statement_rows c.label c.text ++ more) ≡ rest_of [] None (bare n (n + continuations c.text) c.label (stripped false c.text) ∷ ss) cs
unfolding rest_from
statement_given c n more ss cs h e =
    let f : List ℕ = fitted c.text in
    let rs : List (List ℕ) = next_rows 0 f in
    let l : List ℕ = first_line c.label (first_row 0 f) in
    let x = first_of c h in
    let k = count_of c in
    let z : (n + 1) + length rs ≡ n + continuations c.text + 1 = omega (arith, k) in
    let i : rest_from (n + 1) (map continuation rs ++ more) ≡ rest_of (joined rs) (last_of (n + 1) rs) ss cs =
    continuations_given rs (n + 1) more ss cs (next_of c h) (ap (λ (m : ℕ). rest_from m more) z ∙ e) in
    let j = columns_joined f in
    let b : body.stripped false (padded (first_row 0 f) ++ joined rs) ≡ stripped false c.text = ap (body.stripped false) j.1 ∙ fitted_read c.text j.0 h.text.lined in
    first_by (is_comment l) (is_initial (card l)) (is_dropped l) n l (card l) (rest_from (n + 1) (map continuation rs ++ more)) x.comment x.initial
    ∙ ap (with_initial n (card l)) i
    ∙ initial_given n (card l) (first_row 0 f) (stripped false c.text) c.label rs ss cs x.columns x.labelled b
    ∙ ap (λ (m : ℕ). rest_of [] None (bare n (n + m) c.label (stripped false c.text) ∷ ss) cs) k

-- ---- comments

abbrev pub commented : Line → List (List ℕ) → Line
commented s ls = record s { comments = ls }

comment_by : (b d i : Bool) (n : ℕ) (line c : List ℕ) (ls : List (List ℕ)) (s : Line) (ss : List Line) (cs : List (List ℕ)) (rest : Rest) → b ≡ true → rest ≡ rest_of [] None (commented s ls ∷ ss) cs
    → (if b then (if d then rest else with_comment line rest) else if i then with_initial n c rest else with_continuation n c rest)
    ≡ rest_of [] None (commented s (if d then ls else line ∷ ls) ∷ ss) cs
comment_by true true i n line c ls s ss cs rest p e = e
comment_by true false i n line c ls s ss cs rest p e = ap (with_comment line) e
comment_by false d i n line c ls s ss cs rest p e = cc

pub comments_given : (ls : List (List ℕ)) (n : ℕ) (more : List (List ℕ)) (s : Line) (ss : List Line) (cs : List (List ℕ)) → AreComments ls
    → rest_from (n + length ls) more ≡ rest_of [] None (commented s [] ∷ ss) cs → rest_from n (ls ++ more) ≡ rest_of [] None (commented s (kept ls) ∷ ss) cs
unfolding rest_from
comments_given [] n more s ss cs h e = let z : n ≡ n + 0 = omega arith in ap (λ (k : ℕ). rest_from k more) z ∙ e
comments_given (l ∷ ls) n more s ss cs h e =
    let z : (n + 1) + length ls ≡ n + suc (length ls) = omega arith in
    comment_by (is_comment l) (is_dropped l) (is_initial (card l)) n l (card l) (kept ls) s ss cs (rest_from (n + 1) (ls ++ more)) h.first.comment
    (comments_given ls (n + 1) more s ss cs h.others (ap (λ (k : ℕ). rest_from k more) z ∙ e))

closing_by : (b d i : Bool) (n : ℕ) (line c : List ℕ) (ls : List (List ℕ)) (rest : Rest) → b ≡ true → rest ≡ rest_of [] None [] ls
    → (if b then (if d then rest else with_comment line rest) else if i then with_initial n c rest else with_continuation n c rest) ≡ rest_of [] None [] (if d then ls else line ∷ ls)
closing_by true true i n line c ls rest p e = e
closing_by true false i n line c ls rest p e = ap (with_comment line) e
closing_by false d i n line c ls rest p e = cc

pub closing_given : (ls : List (List ℕ)) (n : ℕ) → AreComments ls → rest_from n ls ≡ rest_of [] None [] (kept ls)
unfolding rest_from
closing_given [] n h = refl
closing_given (l ∷ ls) n h =
    closing_by (is_comment l) (is_dropped l) (is_initial (card l)) n l (card l) (kept ls) (rest_from (n + 1) ls) h.first.comment (closing_given ls (n + 1) h.others)
