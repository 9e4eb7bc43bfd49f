-- No line that is written has a fault.
use Rattle.std.proofs.Common.{◌≡◌, ℕ, ap, sym, ◌∙◌, ◌+◌, ◌≤◌, List, [], ◌∷◌, ◌++◌, length, map, refl, arith, Option, Some, None, Bool, true, false, if◌then◌else◌}
use Rattle.fx_lists.specs.declared.code.Code.{Code}
use Rattle.fixed_form.specs.declared.fault.Begun.{Begun}
use Rattle.fixed_form.specs.Cards.{is_comment, card, columns, is_initial}
use Rattle.fixed_form.specs.Body.{quoted_after, has_tab}
use Rattle.std.proofs.lemmas.Bool.{or_parts}
use Rattle.fixed_form.specs.Faults.{is_quoted, fault_of, begun_behind, continuations_of, first_fault, or_later}
use Rattle.f77_printer.specs.Layout.{fitted}
use Rattle.roundtrip_programs.specs.Cards.Cards.{Card}
use Rattle.roundtrip_programs.specs.Cards.Good.{AreComments, IsCard}
use Rattle.roundtrip_programs.proofs.Cards.Rows.{padded, joined, first_row, next_rows, continuation, statement_rows, AreRows}
use Rattle.roundtrip_programs.proofs.Cards.LineFacts.{first_line, next_is}
use Rattle.roundtrip_programs.proofs.Cards.Statements.{columns_tabless, first_of, next_of, count_of}
use Rattle.roundtrip_programs.proofs.Cards.Fit.{has_tab-append}

-- whatever was begun before them
abbrev pub Faultless : List (List ℕ) → Type 0
Faultless ls = (begun : Option Begun) (n : ℕ) → first_fault begun n ls ≡ None

comment_by : (b : Bool) (x y : Option (ℕ × Code)) → b ≡ true → x ≡ None → (if b then x else y) ≡ None
comment_by true x y p h = h
comment_by false x y p h = cc

pub comments_faultless : (ls more : List (List ℕ)) → AreComments ls → Faultless more → Faultless (ls ++ more)
unfolding first_fault
comments_faultless [] more h f begun n = f begun n
comments_faultless (l ∷ ls) more h f begun n = comment_by (is_comment l) _ _ h.first.comment (comments_faultless ls more h.others f begun (n + 1))

line_by : (b : Bool) (o : Option Code) (n : ℕ) (x y : Option (ℕ × Code)) → b ≡ false → o ≡ None → y ≡ None → (if b then x else or_later n o y) ≡ None
line_by false None n x y p q h = h
line_by false (Some f) n x y p q h = cc
line_by true o n x y p q h = cc

next_count : (i : Bool) (k : ℕ) → i ≡ false → (if i then 0 else k + 1) ≡ k + 1
next_count true k e = cc
next_count false k e = refl

first_count : (i : Bool) (k : ℕ) → i ≡ true → (if i then 0 else k + 1) ≡ 0
first_count true k e = refl
first_count false k e = cc

next_quoted : (i q : Bool) (x y : List ℕ) → i ≡ false → x ≡ y → quoted_after (if i then false else q) x ≡ quoted_after q y
next_quoted true q x y e h = cc
next_quoted false q x y e h = ap (quoted_after q) h

first_quoted : (i q : Bool) (x y : List ℕ) → i ≡ true → x ≡ y → quoted_after (if i then false else q) x ≡ quoted_after false y
first_quoted true q x y e h = ap (quoted_after false) h
first_quoted false q x y e h = cc

pub continuations_faultless : (rs more : List (List ℕ)) (begun : Begun) (n : ℕ) → AreRows rs → begun.continuations + length rs ≤ 19 → has_tab begun.quoted (joined rs) ≡ false → Faultless more
    → first_fault (Some begun) n (map continuation rs ++ more) ≡ None
unfolding first_fault
continuations_faultless [] more begun n h l t f = f (Some begun) n
continuations_faultless (r ∷ rs) more begun n h l t f =
    let x = next_is r h.first in
    let next : Begun = begun_behind (Some begun) (card (continuation r)) in
    let k : next.continuations ≡ begun.continuations + 1 = next_count (is_initial (card (continuation r))) begun.continuations x.initial in
    let p = or_parts _ _ (sym (has_tab-append (padded r) (joined rs) begun.quoted) ∙ t) in
    let q : next.quoted ≡ quoted_after begun.quoted (padded r) = next_quoted (is_initial (card (continuation r))) begun.quoted (columns (card (continuation r))) (padded r) x.initial x.columns in
    line_by (is_comment (continuation r)) (fault_of (Some begun) (card (continuation r))) n _ _ x.comment (x.fault begun (omega arith) p.0)
    (continuations_faultless rs more next (n + 1) h.others (omega (arith, k)) (ap (λ (b : Bool). has_tab b (joined rs)) q ∙ p.1) f)

pub statement_faultless : (c : Card) (more : List (List ℕ)) → IsCard c → Faultless more → Faultless (statement_rows c.label c.text ++ more)
unfolding first_fault
statement_faultless c more h f begun n =
    let t : List ℕ = fitted c.text in
    let line : List ℕ = first_line c.label (first_row 0 t) in
    let x = first_of c h in
    let next : Begun = begun_behind begun (card line) in
    let k : next.continuations ≡ 0 = first_count (is_initial (card line)) (continuations_of begun) x.initial in
    let fits = h.text.fits in
    let l : next.continuations + length (next_rows 0 t) ≤ 19 = omega (arith, k, count_of c, fits) in
    let p = or_parts _ _ (sym (has_tab-append (padded (first_row 0 t)) (joined (next_rows 0 t)) false) ∙ columns_tabless c h) in
    let q : next.quoted ≡ quoted_after false (padded (first_row 0 t)) = first_quoted (is_initial (card line)) (is_quoted begun) (columns (card line)) (padded (first_row 0 t)) x.initial x.columns in
    line_by (is_comment line) (fault_of begun (card line)) n _ _ x.comment (x.fault begun)
    (continuations_faultless (next_rows 0 t) more next (n + 1) (next_of c h) l (ap (λ (b : Bool). has_tab b (joined (next_rows 0 t))) q ∙ p.1) f)
