-- What is written of a text, read from its columns, is the text without its blanks.
use Rattle.std.proofs.Common.{◌≡◌, ℕ, zero, suc, ◌-◌, ◌≤◌, List, [], ◌∷◌, ◌++◌, length, replicate, refl, ap, sym, ◌∙◌, arith, append-nil, Bool, true, false, if◌then◌else◌, not}
use Rattle.std.specs.Prelude.{◌||◌, nat_eq, nat_le, nat_lt, ◌&&◌}
use Rattle.std.specs.List.{list_all}
use Rattle.std.proofs.lemmas.Bool.{or_from, ne_eqb, eqb-true, and_parts, and_from, and_left, leb-true, lt-leb, not-true}
use Rattle.std.proofs.lemmas.List.{append_cancel_left}
use Rattle.fixed_form.specs.Characters.{is_allowed, upper_case}
use Rattle.fixed_form.specs.Body as body
use Rattle.fixed_form.proofs.Joining.{stripped-append}
use Rattle.f77_printer.specs.Layout.{stripped, fitted}
use Rattle.roundtrip_programs.specs.Cards.Good.{starts, IsLined, HasNoTab}

-- ---- folding twice is folding once

record Folds (b : ℕ) (d : ℕ) : Type 0 where
  pub same : upper_case d ≡ d
  pub blank : nat_eq d 32 ≡ nat_eq b 32
  pub apostrophe : nat_eq d 39 ≡ nat_eq b 39
  pub tab : nat_eq d 9 ≡ nat_eq b 9

folds_low : (b : ℕ) → 97 ≤ b → b ≤ 122 → Folds b (b - 32)
folds_low b l u =
    let f : (nat_le 97 (b - 32) && nat_le (b - 32) 122) ≡ false = and_left (nat_le 97 (b - 32)) (nat_le (b - 32) 122) (lt-leb 97 (b - 32) (omega arith)) in
    record {
      same = rw f;
      blank = ne_eqb (b - 32) 32 (λ e. omega arith) ∙ sym (ne_eqb b 32 (λ e. omega arith));
      apostrophe = ne_eqb (b - 32) 39 (λ e. omega arith) ∙ sym (ne_eqb b 39 (λ e. omega arith));
      tab = ne_eqb (b - 32) 9 (λ e. omega arith) ∙ sym (ne_eqb b 9 (λ e. omega arith));
    }

folds_at : (t : Bool) (b : ℕ) → (nat_le 97 b && nat_le b 122) ≡ t → Folds b (if t then b - 32 else b)
folds_at true b e = let p = and_parts (nat_le 97 b) (nat_le b 122) e in folds_low b (leb-true 97 b p.0) (leb-true b 122 p.1)
folds_at false b e = record { same = rw e; blank = refl; apostrophe = refl; tab = refl }

folds : (b : ℕ) → Folds b (upper_case b)
folds b = folds_at (nat_le 97 b && nat_le b 122) b refl

-- ---- stripping twice is stripping once

outside_at : (s : Bool) (b : ℕ) (bs u : List ℕ) → nat_eq b 32 ≡ s
    → ((q : Bool) → body.stripped q (body.stripped q bs ++ u) ≡ body.stripped q bs ++ body.stripped (body.quoted_after q bs) u)
    → body.stripped false ((if s then body.stripped false bs else upper_case b ∷ body.stripped (body.quoted_after_byte false b) bs) ++ u)
    ≡ (if s then body.stripped false bs else upper_case b ∷ body.stripped (body.quoted_after_byte false b) bs) ++ body.stripped (body.quoted_after (body.quoted_after_byte false b) bs) u
outside_at true b bs u e h =
    let n = eqb-true b 32 e in
    let a : nat_eq b 39 ≡ false = ne_eqb b 39 (λ q. omega arith) in
    rw a (h false)
outside_at false b bs u e h =
    let f = folds b in
    let s : nat_eq (upper_case b) 32 ≡ false = f.blank ∙ e in
    let a : body.quoted_after_byte false (upper_case b) ≡ body.quoted_after_byte false b = ap (λ (t : Bool). if t then true else false) f.apostrophe in
    ap (λ (t : Bool). if t then body.stripped false (body.stripped (body.quoted_after_byte false b) bs ++ u)
    else upper_case (upper_case b) ∷ body.stripped (body.quoted_after_byte false (upper_case b)) (body.stripped (body.quoted_after_byte false b) bs ++ u)) s
    ∙ ap (λ (c : ℕ). c ∷ body.stripped (body.quoted_after_byte false (upper_case b)) (body.stripped (body.quoted_after_byte false b) bs ++ u)) f.same
    ∙ ap (λ (t : Bool). upper_case b ∷ body.stripped t (body.stripped (body.quoted_after_byte false b) bs ++ u)) a
    ∙ ap (λ (x : List ℕ). upper_case b ∷ x) (h (body.quoted_after_byte false b))

pub twice : (t u : List ℕ) (q : Bool) → body.stripped q (body.stripped q t ++ u) ≡ body.stripped q t ++ body.stripped (body.quoted_after q t) u
twice [] u q = refl
twice (b ∷ bs) u true = ap (λ (x : List ℕ). b ∷ x) (twice bs u (body.quoted_after_byte true b))
twice (b ∷ bs) u false = outside_at (nat_eq b 32) b bs u refl (λ q. twice bs u q)

-- ---- blanks behind a text

blanks_stripped : (k : ℕ) → body.stripped false (replicate k 32) ≡ []
blanks_stripped zero = refl
blanks_stripped (suc k) = blanks_stripped k

closed_at : (q : Bool) (x y : List ℕ) → x ++ body.stripped q (32 ∷ []) ≡ y ++ [] → x ≡ y → q ≡ false
closed_at false x y h e = refl
closed_at true x y h e = absurd (apart (append_cancel_left y (32 ∷ []) [] (ap (λ (z : List ℕ). z ++ (32 ∷ [])) (sym e) ∙ h)))
  where
    apart : ◌≡◌ {A = List ℕ} (32 ∷ []) [] → ⊥
    apart z = cc

same_text : (text : List ℕ) → IsLined text → body.stripped false text ≡ stripped false text
same_text text h = ap (body.stripped false) (sym (append-nil text)) ∙ h [] ∙ append-nil (stripped false text)

-- a lined text ends outside its character constants
ends_outside : (text : List ℕ) → IsLined text → body.quoted_after false text ≡ false
ends_outside text h =
    closed_at (body.quoted_after false text) (body.stripped false text) (stripped false text) (sym (stripped-append false text (32 ∷ [])) ∙ h (32 ∷ [])) (same_text text h)

text_read : (text : List ℕ) (k : ℕ) → IsLined text → body.stripped false (text ++ replicate k 32) ≡ stripped false text
text_read text k h = h (replicate k 32) ∙ ap (λ (x : List ℕ). stripped false text ++ x) (blanks_stripped k) ∙ append-nil (stripped false text)

stripped_read : (text : List ℕ) (k : ℕ) → IsLined text → body.stripped false (stripped false text ++ replicate k 32) ≡ stripped false text
stripped_read text k h =
    ap (λ (x : List ℕ). body.stripped false (x ++ replicate k 32)) (sym (same_text text h))
    ∙ twice text (replicate k 32) false
    ∙ ap (λ (q : Bool). body.stripped false text ++ body.stripped q (replicate k 32)) (ends_outside text h)
    ∙ ap (λ (x : List ℕ). body.stripped false text ++ x) (blanks_stripped k)
    ∙ append-nil (body.stripped false text)
    ∙ same_text text h

read_by : (b : Bool) (text : List ℕ) (k : ℕ) → IsLined text → body.stripped false ((if b then stripped false text else text) ++ replicate k 32) ≡ stripped false text
read_by true text k h = stripped_read text k h
read_by false text k h = text_read text k h

pub fitted_read : (text : List ℕ) (k : ℕ) → IsLined text → body.stripped false (fitted text ++ replicate k 32) ≡ stripped false text
fitted_read text k h = read_by (nat_lt 1320 (length text)) text k h

-- ---- no tab stands outside its constants

tab_at : (s : Bool) (b : ℕ) (bs : List ℕ) → nat_eq b 32 ≡ s → ((q : Bool) → body.has_tab q (body.stripped q bs) ≡ body.has_tab q bs)
    → body.has_tab false (if s then body.stripped false bs else upper_case b ∷ body.stripped (body.quoted_after_byte false b) bs) ≡ ((nat_eq b 9 && true) || body.has_tab (body.quoted_after_byte false b) bs)
tab_at true b bs e h =
    let n = eqb-true b 32 e in
    let a : nat_eq b 39 ≡ false = ne_eqb b 39 (λ q. omega arith) in
    let t : nat_eq b 9 ≡ false = ne_eqb b 9 (λ q. omega arith) in
    rw (a, t) (h false)
tab_at false b bs e h =
    let f = folds b in
    let a : body.quoted_after_byte false (upper_case b) ≡ body.quoted_after_byte false b = ap (λ (t : Bool). if t then true else false) f.apostrophe in
    ap (λ (t : Bool). (t && true) || body.has_tab (body.quoted_after_byte false (upper_case b)) (body.stripped (body.quoted_after_byte false b) bs)) f.tab
    ∙ ap (λ (t : Bool). (nat_eq b 9 && true) || body.has_tab t (body.stripped (body.quoted_after_byte false b) bs)) a
    ∙ ap (λ (t : Bool). (nat_eq b 9 && true) || t) (h (body.quoted_after_byte false b))

tabs_kept : (t : List ℕ) (q : Bool) → body.has_tab q (body.stripped q t) ≡ body.has_tab q t
tabs_kept [] q = refl
tabs_kept (b ∷ bs) true = ap (λ (t : Bool). (nat_eq b 9 && false) || t) (tabs_kept bs (body.quoted_after_byte true b))
tabs_kept (b ∷ bs) false = tab_at (nat_eq b 32) b bs refl (λ q. tabs_kept bs q)

pub has_tab-append : (a b : List ℕ) (q : Bool) → body.has_tab q (a ++ b) ≡ (body.has_tab q a || body.has_tab (body.quoted_after q a) b)
has_tab-append [] b q = refl
has_tab-append (c ∷ cs) b q =
    ap (λ (t : Bool). (nat_eq c 9 && not q) || t) (has_tab-append cs b (body.quoted_after_byte q c))
    ∙ sym (or-assoc (nat_eq c 9 && not q) (body.has_tab (body.quoted_after_byte q c) cs) (body.has_tab (body.quoted_after (body.quoted_after_byte q c) cs) b))
  where
    or-assoc : (x y z : Bool) → ((x || y) || z) ≡ (x || (y || z))
    or-assoc true y z = refl
    or-assoc false y z = refl

blanks_tabless : (k : ℕ) (q : Bool) → body.has_tab q (replicate k 32) ≡ false
blanks_tabless zero q = refl
blanks_tabless (suc k) q = blanks_tabless k q

text_tabless : (text : List ℕ) → HasNoTab text → body.has_tab false text ≡ false
text_tabless text h = ap (body.has_tab false) (sym (append-nil text)) ∙ h []

tabless_by : (b : Bool) (text : List ℕ) (k : ℕ) → IsLined text → HasNoTab text → body.has_tab false ((if b then stripped false text else text) ++ replicate k 32) ≡ false
tabless_by true text k h g =
    has_tab-append (stripped false text) (replicate k 32) false
    ∙ or_from (body.has_tab false (stripped false text)) (body.has_tab (body.quoted_after false (stripped false text)) (replicate k 32))
    (ap (body.has_tab false) (sym (same_text text h)) ∙ tabs_kept text false ∙ text_tabless text g) (blanks_tabless k (body.quoted_after false (stripped false text)))
tabless_by false text k h g = g (replicate k 32) ∙ blanks_tabless k false

pub fitted_tabless : (text : List ℕ) (k : ℕ) → IsLined text → HasNoTab text → body.has_tab false (fitted text ++ replicate k 32) ≡ false
fitted_tabless text k h g = tabless_by (nat_lt 1320 (length text)) text k h g

-- ---- its characters are allowed, and it begins with no blank

pub strip_at : (a b q : Bool) (c : ℕ) (cs : List ℕ) → is_allowed c ≡ true → ((r : Bool) → list_all is_allowed (stripped r cs) ≡ true)
    → list_all is_allowed (if a then c ∷ stripped (not q) cs else if b then (if q then c ∷ stripped q cs else stripped q cs) else c ∷ stripped q cs) ≡ true
strip_at true b q c cs p h = and_from (is_allowed c) (list_all is_allowed (stripped (not q) cs)) p (h (not q))
strip_at false true true c cs p h = and_from (is_allowed c) (list_all is_allowed (stripped true cs)) p (h true)
strip_at false true false c cs p h = h false
strip_at false false q c cs p h = and_from (is_allowed c) (list_all is_allowed (stripped q cs)) p (h q)

pub stripped_allowed : (t : List ℕ) (q : Bool) → list_all is_allowed t ≡ true → list_all is_allowed (stripped q t) ≡ true
stripped_allowed [] q h = refl
stripped_allowed (c ∷ cs) q h =
    let p = and_parts (is_allowed c) (list_all is_allowed cs) h in
    strip_at (nat_eq c 39) (nat_eq c 32) q c cs p.0 (λ r. stripped_allowed cs r p.1)

start_at : (a b : Bool) (c : ℕ) (cs : List ℕ) → nat_eq c 32 ≡ b → b ≡ false
    → starts (if a then c ∷ stripped true cs else if b then stripped false cs else c ∷ stripped false cs) ≡ true
start_at true b c cs e h = let f : nat_eq c 32 ≡ false = e ∙ h in rw f
start_at false true c cs e h = cc
start_at false false c cs e h = rw e

stripped_starts : (t : List ℕ) → starts t ≡ true → starts (stripped false t) ≡ true
stripped_starts [] h = h
stripped_starts (c ∷ cs) h = start_at (nat_eq c 39) (nat_eq c 32) c cs refl (not-true (nat_eq c 32) h)

by : (P : List ℕ → Type 0) (b : Bool) (x y : List ℕ) → P x → P y → P (if b then x else y)
by P true x y h g = h
by P false x y h g = g

pub fitted_allowed : (t : List ℕ) → list_all is_allowed t ≡ true → list_all is_allowed (fitted t) ≡ true
fitted_allowed t h = by (λ x. list_all is_allowed x ≡ true) (nat_lt 1320 (length t)) (stripped false t) t (stripped_allowed t false h) h

pub fitted_starts : (t : List ℕ) → starts t ≡ true → starts (fitted t) ≡ true
fitted_starts t h = by (λ x. starts x ≡ true) (nat_lt 1320 (length t)) (stripped false t) t (stripped_starts t h) h
