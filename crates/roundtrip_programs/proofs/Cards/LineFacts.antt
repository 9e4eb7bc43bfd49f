-- What reading makes of one written line: it is no comment, it has no fault, and its columns are those of its row.
use Rattle.std.proofs.Common.{◌≡◌, ℕ, zero, suc, ◌-◌, ◌≤◌, List, [], ◌∷◌, ◌++◌, length, take, get_or, replicate, refl, ap, ◌∙◌, arith, append_assoc, length-append, Option, Some, None, Bool, true, false, if◌then◌else◌, not}
use Rattle.std.specs.Prelude.{nat_eq, nat_le, codes, ◌&&◌, IfSome}
use Rattle.std.specs.List.{list_all, list_any}
use Rattle.std.proofs.lemmas.Bool.{or_parts, ne_eqb, not-true, and_parts, and_from, and_left, and_right, or_left, or_from, leb-true, lt-leb}
use Rattle.std.proofs.lemmas.List.{take_all, take_at, drop_at, get_or_at}
use Rattle.std.proofs.lemmas.List.Folds.{list_all-append}
use Rattle.fixed_form.specs.declared.label.LabelField.{LabelField}
use Rattle.fx_lists.specs.declared.code.Code.{Code}
use Rattle.fx_lists.specs.declared.code.Code.TheVariants.{NonAscii, Tab, BadLabelField, TooManyContinuations}
use Rattle.fixed_form.specs.declared.fault.Begun.{Begun}
use Rattle.fixed_form.specs.Characters.{is_allowed, is_tab, is_blank, is_space}
use Rattle.fixed_form.specs.Body.{has_tab}
use Rattle.fixed_form.specs.Cards.{front, filled, card, columns, is_comment, has_comment_mark, is_initial, label_field}
use Rattle.fixed_form.specs.Faults.{is_quoted, fault_of, has_bad_field, is_bad}
use Rattle.fixed_form.specs.Laws.{IsLabel}
use Rattle.f77_printer.specs.Layout as layout
use Rattle.roundtrip_programs.specs.Cards.Good.{is_printable, starts}
use Rattle.roundtrip_programs.proofs.Cards.Rows.{padded, continuation, IsRow}
use Rattle.roundtrip_programs.proofs.Cards.Fields.{label_in, as_field, field}

-- ---- columns

front-all : (line : List ℕ) → length line ≤ 72 → front line ≡ line
unfolding front
front-all line h = take_all 72 line h

-- a line of six columns and a row, as a card
pub card-is : (f r : List ℕ) → length f ≡ 6 → length r ≤ 66 → card (f ++ r) ≡ f ++ padded r
unfolding filled
card-is f r e h =
    let l : length (f ++ r) ≤ 72 = omega (arith, length-append f r) in
    let n : 72 - length (f ++ r) ≡ 66 - length r = omega (arith, length-append f r) in
    ap filled (front-all (f ++ r) l)
    ∙ ap (λ (k : ℕ). (f ++ r) ++ replicate k 32) n
    ∙ append_assoc f r (replicate (66 - length r) 32)

pub columns-is : (f r : List ℕ) → length f ≡ 6 → columns (f ++ padded r) ≡ padded r
columns-is f r e = drop_at f (padded r) 6 e

blanks_allowed : (k : ℕ) → list_all is_allowed (replicate k 32) ≡ true
blanks_allowed zero = refl
blanks_allowed (suc k) = blanks_allowed k

padded_allowed : (r : List ℕ) → list_all is_allowed r ≡ true → list_all is_allowed (padded r) ≡ true
padded_allowed r h = list_all-append is_allowed r (replicate (66 - length r) 32) ∙ and_from _ _ h (blanks_allowed (66 - length r))

-- ---- printable characters

pub allowed : (l : List ℕ) → list_all is_printable l ≡ true → list_all is_allowed l ≡ true
allowed [] h = refl
allowed (c ∷ cs) h =
    let p = and_parts (is_printable c) (list_all is_printable cs) h in
    and_from (is_allowed c) (list_all is_allowed cs) (or_left (is_printable c) (is_tab c) p.0) (allowed cs p.1)

not_tab : (c : ℕ) → is_printable c ≡ true → is_tab c ≡ false
not_tab c h =
    let q = and_parts (nat_le 32 c) (nat_le c 126) h in
    let low = leb-true 32 c q.0 in
    ne_eqb c 9 (λ e. omega arith)

no_tab : (l : List ℕ) → list_all is_printable l ≡ true → list_any is_tab l ≡ false
no_tab [] h = refl
no_tab (c ∷ cs) h =
    let p = and_parts (is_printable c) (list_all is_printable cs) h in
    or_from (is_tab c) (list_any is_tab cs) (not_tab c p.0) (no_tab cs p.1)

-- ---- faults

fault_by : (a b d i : Bool) (o : Option Code) → a ≡ true → b ≡ false → d ≡ false → (i ≡ false → o ≡ None)
    → (if not a then Some NonAscii else if b then Some Tab else if d then Some BadLabelField else if i then None else o) ≡ None
fault_by true false false true o p q r f = refl
fault_by true false false false o p q r f = f refl
fault_by false b d i o p q r f = cc
fault_by true true d i o p q r f = cc
fault_by true false true i o p q r f = cc

-- ---- the first line of a statement

abbrev pub first_line : Option ℕ → List ℕ → List ℕ
first_line label r = layout.label_field label ++ r

-- what reading asks of a line that is no comment
pub record Reads (line r : List ℕ) : Type 0 where
  pub comment : is_comment line ≡ false
  pub columns : columns (card line) ≡ padded r

initial-front : (f t : List ℕ) → length f ≡ 5 → is_initial ((f ++ (32 ∷ [])) ++ t) ≡ true
initial-front f t e =
    let s : get_or ((f ++ (32 ∷ [])) ++ t) 5 0 ≡ 32 = ap (λ (x : List ℕ). get_or x 5 0) (append_assoc f (32 ∷ []) t) ∙ get_or_at f 32 t 0 5 e in
    rw s

label-front : (f t : List ℕ) → length f ≡ 5 → label_field ((f ++ (32 ∷ [])) ++ t) ≡ label_in f
label-front f t e = ap label_in (ap (take 5) (append_assoc f (32 ∷ []) t) ∙ take_at f (32 ∷ t) 5 e)

and-true : (b : Bool) → (b && true) ≡ false → b ≡ false
and-true true h = cc
and-true false h = refl

-- a row that begins with no blank does not begin with a tab either
not_blank : (r : List ℕ) → has_tab false (padded r) ≡ false → starts r ≡ true → list_all is_blank r ≡ false
not_blank [] h s = cc
not_blank (c ∷ cs) h s =
    let p = or_parts (is_tab c && true) _ h in
    and_left (is_blank c) (list_all is_blank cs) (or_from (is_space c) (is_tab c) (not-true (nat_eq c 32) s) (and-true (is_tab c) p.0))

good_label : (label : Option ℕ) (l : LabelField) → l ≡ as_field label → is_bad l ≡ false
good_label None l e = rw e
good_label (Some n) l e = rw e

-- the card of a first line
pub record IsFirst (label : Option ℕ) (r : List ℕ) : Type 0 where
  pub comment : is_comment (first_line label r) ≡ false
  pub initial : is_initial (card (first_line label r)) ≡ true
  pub columns : columns (card (first_line label r)) ≡ padded r
  pub labelled : label_field (card (first_line label r)) ≡ as_field label
  pub fault : (begun : Option Begun) → fault_of begun (card (first_line label r)) ≡ None

first_comment : (f r : List ℕ) → length f ≡ 5 → ((t : List ℕ) → has_comment_mark (f ++ t) ≡ false) → length r ≤ 66 → has_tab false (padded r) ≡ false → starts r ≡ true
    → is_comment ((f ++ (32 ∷ [])) ++ r) ≡ false
first_comment f r e m l p s =
    let g : List ℕ = f ++ (32 ∷ []) in
    let n : length (g ++ r) ≤ 72 = omega (arith, length-append g r, length-append f (32 ∷ [])) in
    or_from (has_comment_mark (g ++ r)) (list_all is_blank (front (g ++ r)))
    (ap has_comment_mark (append_assoc f (32 ∷ []) r) ∙ m (32 ∷ r))
    (ap (list_all is_blank) (front-all (g ++ r) n) ∙ list_all-append is_blank g r ∙ and_right (list_all is_blank g) (list_all is_blank r) (not_blank r p s))

quoted_first : (i q : Bool) (t : List ℕ) → i ≡ true → has_tab (if i then false else q) t ≡ has_tab false t
quoted_first true q t e = refl
quoted_first false q t e = cc

quoted_next : (i q : Bool) (t : List ℕ) → i ≡ false → has_tab (if i then false else q) t ≡ has_tab q t
quoted_next true q t e = cc
quoted_next false q t e = refl

first_fault-none : (f t : List ℕ) (begun : Option Begun) → length f ≡ 5 → list_all is_printable f ≡ true → list_all is_allowed t ≡ true → has_tab false t ≡ false → is_bad (label_in f) ≡ false
    → fault_of begun ((f ++ (32 ∷ [])) ++ t) ≡ None
unfolding fault_of
first_fault-none f t begun e p q u b =
    let g : List ℕ = f ++ (32 ∷ []) in
    let n : length g ≡ 6 = omega (arith, length-append f (32 ∷ [])) in
    let i : is_initial (g ++ t) ≡ true = initial-front f t e in
    let k : list_all is_printable g ≡ true = list_all-append is_printable f (32 ∷ []) ∙ and_from _ _ p refl in
    let w : list_all is_allowed (g ++ t) ≡ true = list_all-append is_allowed g t ∙ and_from _ _ (allowed g k) q in
    let z : has_bad_field (g ++ t) ≡ false = rw i (ap is_bad (label-front f t e) ∙ b) in
    fault_by (list_all is_allowed (g ++ t)) _ _ (is_initial (g ++ t)) _ w
    (or_from _ _ (ap (list_any is_tab) (take_at g t 6 n) ∙ no_tab g k) (quoted_first (is_initial (g ++ t)) (is_quoted begun) (columns (g ++ t)) i ∙ ap (has_tab false) (drop_at g t 6 n) ∙ u))
    z (λ j. absurd (apart i j))
  where
    apart : {b : Bool} → b ≡ true → b ≡ false → ⊥
    apart x y = cc

pub first_is : (label : Option ℕ) (r : List ℕ) → IfSome label IsLabel → length r ≤ 66 → list_all is_allowed r ≡ true → has_tab false (padded r) ≡ false → starts r ≡ true → IsFirst label r
first_is label r h l p u s =
    let x = field label h in
    let g : List ℕ = x.front ++ (32 ∷ []) in
    let n : length g ≡ 6 = omega (arith, length-append x.front (32 ∷ []), x.long) in
    let w : first_line label r ≡ g ++ r = ap (λ (f : List ℕ). f ++ r) x.is in
    let c : card (first_line label r) ≡ g ++ padded r = ap card w ∙ card-is g r n l in
    record {
      comment = ap is_comment w ∙ first_comment x.front r x.long x.unmarked l u s;
      initial = ap is_initial c ∙ initial-front x.front (padded r) x.long;
      columns = ap columns c ∙ columns-is g r n;
      labelled = ap label_field c ∙ label-front x.front (padded r) x.long ∙ x.read;
      fault = λ begun. ap (fault_of begun) c ∙ first_fault-none x.front (padded r) begun x.long x.printable (padded_allowed r p) u (good_label label (label_in x.front) x.read);
    }

-- ---- a continuation line

pub record IsNext (r : List ℕ) : Type 0 where
  pub comment : is_comment (continuation r) ≡ false
  pub initial : is_initial (card (continuation r)) ≡ false
  pub columns : columns (card (continuation r)) ≡ padded r
  pub fault : (begun : Begun) → begun.continuations ≤ 18 → has_tab begun.quoted (padded r) ≡ false → fault_of (Some begun) (card (continuation r)) ≡ None

few : (begun : Begun) → begun.continuations ≤ 18 → (if nat_le 19 begun.continuations then Some TooManyContinuations else None) ≡ None
few begun h = let b : nat_le 19 begun.continuations ≡ false = lt-leb 19 begun.continuations (omega arith) in rw b

next_fault-none : (t : List ℕ) (begun : Begun) → list_all is_allowed t ≡ true → begun.continuations ≤ 18 → has_tab begun.quoted t ≡ false → fault_of (Some begun) (continuation t) ≡ None
unfolding fault_of
next_fault-none t begun q h u = fault_by (list_all is_allowed (continuation t)) _ _ (is_initial (continuation t)) _ q u refl (λ j. few begun h)

pub next_is : (r : List ℕ) → IsRow r → IsNext r
next_is r h =
    let n : length (continuation r) ≤ 72 = omega (arith, h.short) in
    let c : card (continuation r) ≡ continuation (padded r) = card-is (codes "     &") r refl h.short in
    record {
      comment = ap (list_all is_blank) (front-all (continuation r) n);
      initial = ap is_initial c;
      columns = ap columns c;
      fault = λ begun l u. ap (fault_of (Some begun)) c ∙ next_fault-none (padded r) begun (padded_allowed r h.allowed) l u;
    }
