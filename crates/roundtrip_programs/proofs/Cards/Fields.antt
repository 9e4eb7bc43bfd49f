-- The label field of a first line is read as the label that was written.
use Rattle.std.proofs.Common.{◌≡◌, ℕ, zero, suc, ◌+◌, ◌-◌, ◌*◌, ◌/◌, ◌%◌, ◌<◌, ◌≤◌, List, [], ◌∷◌, ◌++◌, length, replicate, refl, ap, sym, ◌∙◌, arith, append_assoc, length-append, Option, Some, None, Bool, true, false, if◌then◌else◌, decimal, ◌&&◌}
use Rattle.std.specs.Prelude.{nat_eq, nat_le, nat_lt, codes, IfSome}
use Rattle.std.specs.List.{list_all}
use Rattle.std.proofs.lemmas.Bool.{ne_eqb, le-leb, and_from, and_left, lt-ltb}
use Rattle.std.proofs.lemmas.List.{length-replicate, replicate_more}
use Rattle.std.proofs.lemmas.List.Folds.{list_all-append}
use Rattle.std.proofs.lemmas.Fmt.{decimal_by_steps, length-decimal-le}
use Rattle.fixed_form.specs.declared.label.LabelField.{LabelField}
use Rattle.fixed_form.specs.declared.label.LabelField.TheVariants.{Blank, Label, Bad}
use Rattle.fixed_form.specs.Characters.{is_space}
use Rattle.fixed_form.specs.Cards.{has_comment_mark, number_from, is_label_mark}
use Rattle.fixed_form.specs.Laws.{IsLabel}
use Rattle.f77_printer.specs.Layout.{label_field}
use Rattle.roundtrip_programs.specs.Cards.Good.{is_printable}

-- what columns 1 to 5 are read as
abbrev pub label_in : List ℕ → LabelField
label_in g = if list_all is_space g then Blank else if list_all is_label_mark g && nat_lt 0 (number_from 0 g) then Label (number_from 0 g) else Bad

abbrev pub as_field : Option ℕ → LabelField
as_field None = Blank
as_field (Some n) = Label n

-- columns 1 to 6 of a first line: five of the label, and a blank
pub record IsField (label : Option ℕ) : Type 0 where
  pub front : List ℕ
  pub is : label_field label ≡ front ++ (32 ∷ [])
  pub long : length front ≡ 5
  pub printable : list_all is_printable front ≡ true
  pub unmarked : (t : List ℕ) → has_comment_mark (front ++ t) ≡ false
  pub read : label_in front ≡ as_field label

-- ---- digits

-- digits that are n as a decimal number
record Spells (n : ℕ) (ds : List ℕ) : Type 0 where
  pub printable : list_all is_printable ds ≡ true
  pub marks : list_all is_label_mark ds ≡ true
  pub unmarked : (t : List ℕ) → has_comment_mark (ds ++ t) ≡ false
  pub digit : (t : List ℕ) → list_all is_space (ds ++ t) ≡ false
  pub value : (t : List ℕ) → number_from 0 (ds ++ t) ≡ number_from n t

number_step : (v d n : ℕ) (t : List ℕ) → d < 10 → 10 * v + (48 + d - 48) ≡ n → number_from v ((48 + d) ∷ t) ≡ number_from n t
number_step v d n t h e =
    let s : nat_eq (48 + d) 32 ≡ false = ne_eqb (48 + d) 32 (λ q. omega arith) in
    rw (s, e)

one_printable : (d : ℕ) → d < 10 → list_all is_printable ((48 + d) ∷ []) ≡ true
one_printable d h =
    let a : nat_le 32 (48 + d) ≡ true = le-leb 32 (48 + d) (omega arith) in
    let b : nat_le (48 + d) 126 ≡ true = le-leb (48 + d) 126 (omega arith) in
    rw (a, b)

one_mark : (d : ℕ) → d < 10 → list_all is_label_mark ((48 + d) ∷ []) ≡ true
one_mark d h =
    let a : nat_le 48 (48 + d) ≡ true = le-leb 48 (48 + d) (omega arith) in
    let b : nat_le (48 + d) 57 ≡ true = le-leb (48 + d) 57 (omega arith) in
    let s : nat_eq (48 + d) 32 ≡ false = ne_eqb (48 + d) 32 (λ q. omega arith) in
    rw (s, a, b)

one_unmarked : (d : ℕ) (t : List ℕ) → d < 10 → has_comment_mark ((48 + d) ∷ t) ≡ false
one_unmarked d t h =
    let a : nat_eq (48 + d) 67 ≡ false = ne_eqb (48 + d) 67 (λ q. omega arith) in
    let b : nat_eq (48 + d) 99 ≡ false = ne_eqb (48 + d) 99 (λ q. omega arith) in
    let e : nat_eq (48 + d) 42 ≡ false = ne_eqb (48 + d) 42 (λ q. omega arith) in
    let f : nat_eq (48 + d) 33 ≡ false = ne_eqb (48 + d) 33 (λ q. omega arith) in
    rw (a, b, e, f)

one_digit : (n : ℕ) → n < 10 → Spells n ((48 + n) ∷ [])
one_digit n h = record {
  printable = one_printable n h;
  marks = one_mark n h;
  unmarked = λ t. one_unmarked n t h;
  digit = λ t. and_left (is_space (48 + n)) (list_all is_space t) (ne_eqb (48 + n) 32 (λ q. omega arith));
  value = λ t. number_step 0 n n t h (omega arith);
}

more_digits : (n : ℕ) (ds : List ℕ) → 10 ≤ n → Spells (n / 10) ds → Spells n (ds ++ ((48 + n % 10) ∷ []))
more_digits n ds h x = record {
  printable = list_all-append is_printable ds ((48 + n % 10) ∷ []) ∙ and_from _ _ x.printable (one_printable (n % 10) (omega arith));
  marks = list_all-append is_label_mark ds ((48 + n % 10) ∷ []) ∙ and_from _ _ x.marks (one_mark (n % 10) (omega arith));
  unmarked = λ t. rw append_assoc (x.unmarked ((48 + n % 10) ∷ t));
  digit = λ t. rw append_assoc (x.digit ((48 + n % 10) ∷ t));
  value = λ t. rw append_assoc (x.value ((48 + n % 10) ∷ t) ∙ number_step (n / 10) (n % 10) n t (omega arith) (omega arith));
}

-- ---- blanks behind them

pub blanks_printable : (k : ℕ) → list_all is_printable (replicate k 32) ≡ true
blanks_printable zero = refl
blanks_printable (suc k) = blanks_printable k

blanks_marks : (k : ℕ) → list_all is_label_mark (replicate k 32) ≡ true
blanks_marks zero = refl
blanks_marks (suc k) = blanks_marks k

blanks_value : (n k : ℕ) → number_from n (replicate k 32) ≡ n
blanks_value n zero = refl
blanks_value n (suc k) = blanks_value n k

read_by : (a b c : Bool) (m n : ℕ) → a ≡ false → b ≡ true → c ≡ true → m ≡ n → (if a then Blank else if b && c then Label m else Bad) ≡ Label n
read_by a b c m n p q r e = rw (p, q, r, e)

label_read : (n : ℕ) (ds : List ℕ) (k : ℕ) → 1 ≤ n → Spells n ds → label_in (ds ++ replicate k 32) ≡ Label n
label_read n ds k h x =
    let v : number_from 0 (ds ++ replicate k 32) ≡ n = x.value (replicate k 32) ∙ blanks_value n k in
    read_by (list_all is_space (ds ++ replicate k 32)) (list_all is_label_mark (ds ++ replicate k 32)) (nat_lt 0 (number_from 0 (ds ++ replicate k 32)))
    (number_from 0 (ds ++ replicate k 32)) n (x.digit (replicate k 32))
    (list_all-append is_label_mark ds (replicate k 32) ∙ and_from _ _ x.marks (blanks_marks k)) (lt-ltb 0 (number_from 0 (ds ++ replicate k 32)) (omega arith)) v

spelled : (n : ℕ) → n < 2147483648 → Spells n (decimal n)
spelled n h = decimal_by_steps Spells one_digit more_digits n (omega arith)

pub decimal_printable : (n : ℕ) → n < 2147483648 → list_all is_printable (decimal n) ≡ true
decimal_printable n h = (spelled n h).printable

some_field : (n : ℕ) → IsLabel n → IsField (Some n)
some_field n h =
    let x = spelled n (omega (arith, h.1)) in
    let l : length (decimal n) ≤ 5 = length-decimal-le 5 n (omega arith) (omega arith) (omega arith) in
    let k : ℕ = 5 - length (decimal n) in
    let e : 6 - length (decimal n) ≡ k + 1 = omega arith in
    record {
      front = decimal n ++ replicate k 32;
      is =
          ap (λ (m : ℕ). decimal n ++ replicate m 32) e
          ∙ ap (λ (t : List ℕ). decimal n ++ t) (sym (replicate_more k 32))
          ∙ sym (append_assoc (decimal n) (replicate k 32) (32 ∷ []));
      long = omega (arith, length-append (decimal n) (replicate k 32), length-replicate {A = ℕ} k 32);
      printable = list_all-append is_printable (decimal n) (replicate k 32) ∙ and_from _ _ x.printable (blanks_printable k);
      unmarked = λ t. rw append_assoc (x.unmarked (replicate k 32 ++ t));
      read = label_read n (decimal n) k h.0 x;
    }

pub field : (label : Option ℕ) → IfSome label IsLabel → IsField label
field None h = record { front = codes "     "; is = refl; long = refl; printable = refl; unmarked = λ t. refl; read = refl }
field (Some n) h = some_field n h

pub field_printable : (label : Option ℕ) → IfSome label IsLabel → list_all is_printable (label_field label) ≡ true
field_printable label h =
    let x = field label h in
    ap (list_all is_printable) x.is ∙ list_all-append is_printable x.front (32 ∷ []) ∙ and_from _ _ x.printable refl
