-- The lines of a statement that is written: none is a line for compilers, and how many they are.
use Rattle.std.proofs.Common.{◌≡◌, ℕ, suc, ◌+◌, ◌-◌, ◌/◌, ◌≤◌, Bool, true, false, List, [], ◌∷◌, ◌++◌, length, refl, sym, ap, ◌∙◌, arith, append_assoc, append-nil, Option, if◌then◌else◌}
use Rattle.std.specs.Prelude.{nat_eq, nat_le, nat_lt, codes, not, drop, ◌&&◌, IfSome}
use Rattle.std.specs.List.{list_all, list_any, starts_with, AllByRecursion}
use Rattle.std.proofs.lemmas.Bool.{eqb-true, eqb-false, ne_eqb, and_parts, and_from, and_left, or_cases, or_from, or_left, or_parts}
use Rattle.std.proofs.lemmas.List.Folds.{list_all-append}
use Rattle.fixed_form.specs.Cards.{has_comment_mark}
use Rattle.fixed_form.specs.Characters.{is_allowed, is_tab}
use Rattle.fixed_form.specs.Laws.{IsLabel}
use Rattle.fixed_form.specs.TextLines.{unless_return, without_returns}
use Rattle.f77_printer.specs.Layout.{label_field, over_lines, stripped, fitted, statement_lines}
use Rattle.f77_printer.specs.PageText.{lines_text}
use Rattle.laws_programs.specs.roundtrip_programs.Cards.Cards.{continuations}
use Rattle.laws_programs.specs.roundtrip_programs.Cards.Good.{is_printable}
use Rattle.laws_programs.proofs.RoundtripPrograms.Cards.Fields.{field, field_printable}
use Rattle.system_text.specs.Reading.{Bytes}
use Rattle.laws_lines.specs.Marks.ClaimsRead.{is_claim}
use Rattle.laws_lines.specs.Marks.Directives.{is_sentinel}
use Rattle.laws_programs.proofs.RoundtripPrograms.Cards.TextLines.{harmless_by}
use Rattle.laws_lines.proofs.Marks.Passed.{unless_other}

-- a line so far, with `used` characters from column 7 on, and the rest of a text
abbrev pub rows : Bytes → ℕ → Bytes → List Bytes
rows line used [] = line ∷ []
rows line used (c ∷ cs) = if nat_eq used 66 then line ∷ rows (codes "     &" ++ c ∷ []) 1 cs else rows (line ++ c ∷ []) (used + 1) cs

-- ---- they are the lines that are written

rows_by : (b : Bool) (line : Bytes) (used c : ℕ) (cs : Bytes)
    → (codes "     &" ++ c ∷ []) ++ over_lines 1 cs ≡ lines_text (rows (codes "     &" ++ c ∷ []) 1 cs)
    → (line ++ c ∷ []) ++ over_lines (used + 1) cs ≡ lines_text (rows (line ++ c ∷ []) (used + 1) cs)
    → line ++ (if b then codes "\n     &" ++ c ∷ over_lines 1 cs else c ∷ over_lines (used + 1) cs)
    ≡ lines_text (if b then line ∷ rows (codes "     &" ++ c ∷ []) 1 cs else rows (line ++ c ∷ []) (used + 1) cs)
rows_by true line used c cs h g = sym (append_assoc line (codes "\n") ((codes "     &" ++ c ∷ []) ++ over_lines 1 cs)) ∙ ap (λ (x : Bytes). (line ++ codes "\n") ++ x) h
rows_by false line used c cs h g = sym (append_assoc line (c ∷ []) (over_lines (used + 1) cs)) ∙ g

rows_text : (t line : Bytes) (used : ℕ) → line ++ over_lines used t ≡ lines_text (rows line used t)
rows_text [] line used = sym (append-nil (line ++ codes "\n"))
rows_text (c ∷ cs) line used = rows_by (nat_eq used 66) line used c cs (rows_text cs (codes "     &" ++ c ∷ []) 1) (rows_text cs (line ++ c ∷ []) (used + 1))

abbrev pub statement_rows : Option ℕ → Bytes → List Bytes
statement_rows label text = rows (label_field label) 0 (fitted text)

pub rows_are : (label : Option ℕ) (text : Bytes) → statement_lines label text ≡ lines_text (statement_rows label text)
rows_are label text = rows_text (fitted text) (label_field label) 0

-- ---- how many they are

count_by : (b : Bool) (line : Bytes) (used c n : ℕ) (cs : Bytes) → nat_eq used 66 ≡ b → used ≤ 66 → length (rows (codes "     &" ++ c ∷ []) 1 cs) ≡ 1 + (1 + n - 1) / 66
    → (used + 1 ≤ 66 → length (rows (line ++ c ∷ []) (used + 1) cs) ≡ 1 + ((used + 1) + n - 1) / 66)
    → length (if b then line ∷ rows (codes "     &" ++ c ∷ []) 1 cs else rows (line ++ c ∷ []) (used + 1) cs) ≡ 1 + (used + suc n - 1) / 66
count_by true line used c n cs e h f g = let u = eqb-true used 66 e in omega (arith, f)
count_by false line used c n cs e h f g =
    let u = eqb-false used 66 e in
    let l : used + 1 ≤ 66 = omega (arith, u) in
    let i = g l in
    omega (arith, i)

count : (t line : Bytes) (used : ℕ) → used ≤ 66 → length (rows line used t) ≡ 1 + (used + length t - 1) / 66
count [] line used h = omega arith
count (c ∷ cs) line used h = count_by (nat_eq used 66) line used c (length cs) cs refl h (count cs (codes "     &" ++ c ∷ []) 1 (omega arith)) (λ l. count cs (line ++ c ∷ []) (used + 1) l)

pub rows_count : (label : Option ℕ) (text : Bytes) → length (statement_rows label text) ≡ continuations text + 1
rows_count label text = let e = count (fitted text) (label_field label) 0 (omega arith) in omega (arith, e)

-- ---- they are no lines for compilers, and each is one line

-- no line for compilers and no claim, without LF, and without CR at its end
pub record IsOther (l : Bytes) : Type 0 where
  pub plain : is_sentinel l ≡ false
  pub no_claim : is_claim l ≡ false
  pub one_line : list_any (nat_eq 10) l ≡ false
  pub no_return : without_returns l ≡ l

abbrev pub AreOthers : List Bytes → Type 0
AreOthers ls = AllByRecursion IsOther ls

record IsWhole (l : Bytes) : Type 0 where
  one_line : list_any (nat_eq 10) l ≡ false
  no_return : without_returns l ≡ l

allowed_whole : (l : Bytes) → list_all is_allowed l ≡ true → IsWhole l
allowed_whole [] h = record { one_line = refl; no_return = refl }
allowed_whole (c ∷ cs) h =
    let p = and_parts (is_allowed c) (list_all is_allowed cs) h in
    let x = harmless_by c (or_cases (nat_le 32 c && nat_le c 126) (nat_eq c 9) p.0) in
    let w = allowed_whole cs p.1 in
    record {
      one_line = or_from (nat_eq 10 c) (list_any (nat_eq 10) cs) x.feed w.one_line;
      no_return = ap (unless_return c) w.no_return ∙ unless_other c cs x.return;
    }

-- a line begins so: of allowed characters, without a comment mark in column 1
record Begins (l : Bytes) : Type 0 where
  allowed : list_all is_allowed l ≡ true
  unmarked : (x : Bytes) → has_comment_mark (l ++ x) ≡ false

longer : (l : Bytes) (c : ℕ) → is_allowed c ≡ true → Begins l → Begins (l ++ c ∷ [])
longer l c e h = record {
  allowed = list_all-append is_allowed l (c ∷ []) ∙ and_from (list_all is_allowed l) (list_all is_allowed (c ∷ [])) h.allowed (and_from (is_allowed c) true e refl);
  unmarked = λ x. ap has_comment_mark (append_assoc l (c ∷ []) x) ∙ h.unmarked (c ∷ x);
}

-- a line without a comment mark is no claim
no_mark : (l : Bytes) → has_comment_mark l ≡ false → is_claim l ≡ false
no_mark [] h = refl
no_mark (c ∷ cs) h =
    let p = or_parts (nat_eq c 67) (list_any (nat_eq c) (codes "c*!")) h in
    let n = eqb-false c 67 p.0 in
    and_left (nat_eq 67 c) _ (ne_eqb 67 c (λ e. n (sym e)))

whole_line : (l : Bytes) → Begins l → IsOther l
whole_line l h =
    let w = allowed_whole l h.allowed in
    let u : has_comment_mark l ≡ false = ap has_comment_mark (sym (append-nil l)) ∙ h.unmarked [] in
    record { plain = and_left (has_comment_mark l) (starts_with nat_eq (drop 1 l) (codes "$")) u; no_claim = no_mark l u; one_line = w.one_line; no_return = w.no_return }

rows_choice : (b : Bool) (l : Bytes) (x y : List Bytes) → IsOther l → AreOthers x → AreOthers y → AreOthers (if b then l ∷ x else y)
rows_choice true l x y h a b = (h, a)
rows_choice false l x y h a b = b

rows_others : (t l : Bytes) (used : ℕ) → list_all is_allowed t ≡ true → Begins l → AreOthers (rows l used t)
rows_others [] l used h b = (whole_line l b, tt)
rows_others (c ∷ cs) l used h b =
    let p = and_parts (is_allowed c) (list_all is_allowed cs) h in
    rows_choice (nat_eq used 66) l (rows (codes "     &" ++ c ∷ []) 1 cs) (rows (l ++ c ∷ []) (used + 1) cs) (whole_line l b)
    (rows_others cs (codes "     &" ++ c ∷ []) 1 p.1 (longer (codes "     &") c p.0 (record { allowed = refl; unmarked = λ x. refl })))
    (rows_others cs (l ++ c ∷ []) (used + 1) p.1 (longer l c p.0 b))

printable_allowed : (l : Bytes) → list_all is_printable l ≡ true → list_all is_allowed l ≡ true
printable_allowed [] h = refl
printable_allowed (c ∷ cs) h =
    let p = and_parts (is_printable c) (list_all is_printable cs) h in
    and_from (is_allowed c) (list_all is_allowed cs) (or_left (is_printable c) (is_tab c) p.0) (printable_allowed cs p.1)

field_begins : (label : Option ℕ) → IfSome label IsLabel → Begins (label_field label)
field_begins label h =
    let f = field label h in
    record {
      allowed = printable_allowed (label_field label) (field_printable label h);
      unmarked = λ x. ap (λ (y : Bytes). has_comment_mark (y ++ x)) f.is ∙ ap has_comment_mark (append_assoc f.front (32 ∷ []) x) ∙ f.unmarked (32 ∷ x);
    }

-- what is written of a character, by whether it is an apostrophe or a blank
stripped_choice : (a s q : Bool) (c : ℕ) (x y : Bytes) → is_allowed c ≡ true → list_all is_allowed x ≡ true → list_all is_allowed y ≡ true
    → list_all is_allowed (if a then c ∷ x else if s then (if q then c ∷ y else y) else c ∷ y) ≡ true
stripped_choice true s q c x y h k l = and_from (is_allowed c) (list_all is_allowed x) h k
stripped_choice false true true c x y h k l = and_from (is_allowed c) (list_all is_allowed y) h l
stripped_choice false true false c x y h k l = l
stripped_choice false false q c x y h k l = and_from (is_allowed c) (list_all is_allowed y) h l

stripped_allowed : (q : Bool) (t : Bytes) → list_all is_allowed t ≡ true → list_all is_allowed (stripped q t) ≡ true
stripped_allowed q [] h = refl
stripped_allowed q (c ∷ cs) h =
    let p = and_parts (is_allowed c) (list_all is_allowed cs) h in
    stripped_choice (nat_eq c 39) (nat_eq c 32) q c (stripped (not q) cs) (stripped q cs) p.0 (stripped_allowed (not q) cs p.1) (stripped_allowed q cs p.1)

fitted_allowed : (b : Bool) (t : Bytes) → list_all is_allowed t ≡ true → list_all is_allowed (if b then stripped false t else t) ≡ true
fitted_allowed true t h = stripped_allowed false t h
fitted_allowed false t h = h

pub statement_others : (label : Option ℕ) (text : Bytes) → IfSome label IsLabel → list_all is_allowed text ≡ true → AreOthers (statement_rows label text)
statement_others label text h k = rows_others (fitted text) (label_field label) 0 (fitted_allowed (nat_lt 1320 (length text)) text k) (field_begins label h)
