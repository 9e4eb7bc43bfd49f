-- Names and numbers are read as they were written.
use Rattle.std.proofs.Common.{◌≡◌, ℕ, zero, suc, ◌+◌, ◌-◌, ◌*◌, ◌/◌, ◌%◌, ◌^◌, ◌<◌, ◌≤◌, true, false, List, [], ◌∷◌, ◌++◌, length, get_or, refl, sym, ap, subst, ◌∙◌, arith, append_assoc, append-nil, Some, None, decimal}
use Rattle.std.specs.Prelude.{nat_eq, nat_le, ◌||◌, bytes_eq}
use Rattle.std.specs.List.{list_all, IsDistinct, AllByRecursion}
use Rattle.std.specs.Char.{is_ascii_digit, is_ascii_uppercase}
use Rattle.std.proofs.lemmas.Bool.{and_from, and_parts, and_right, le-leb, leb-true, lt-leb, ne_eqb, or_left, or_right}
use Rattle.std.proofs.lemmas.Fmt.{decimal_by_steps_wide}
use Rattle.std.proofs.lemmas.Slice.Eq.{bytes_eq-Decides}
use Rattle.system_text.specs.SystemText.{name_at}
use Rattle.system_text.specs.Reading.{Bytes, digits_from, read_number, number_from, read_name}
use Rattle.system_text.specs.Printed.{in_name, is_name, AreNames, IsNumber}
use Rattle.system_text.proofs.Texts.{IsFree}
use Rattle.fx_lists.proofs.Numbers.{is_digit, letter_is_no_digit}

-- ---- characters of names

abbrev pub IsMade : Bytes → Type 0
IsMade [] = Unit {0}
IsMade (c ∷ cs) = (in_name c ≡ true) × IsMade cs

made-append : (x y : Bytes) → IsMade x → IsMade y → IsMade (x ++ y)
made-append [] y h k = k
made-append (c ∷ cs) y h k = (h.0, made-append cs y h.1 k)

pub other_character : (c m : ℕ) → in_name c ≡ true → in_name m ≡ false → nat_eq c m ≡ false
other_character c m h k = ne_eqb c m (λ e. let f : in_name m ≡ true = subst (λ z. in_name z ≡ true) e h in cc)

pub made_free : (m : ℕ) (x : Bytes) → in_name m ≡ false → IsMade x → IsFree m x
made_free m [] k h = tt
made_free m (c ∷ cs) k h = (other_character c m h.0 k, made_free m cs k h.1)

all_made : (x : Bytes) → list_all in_name x ≡ true → IsMade x
all_made [] h = tt
all_made (c ∷ cs) h = let p = and_parts (in_name c) (list_all in_name cs) h in (p.0, all_made cs p.1)

digit_in_name : (c : ℕ) → is_ascii_digit c ≡ true → in_name c ≡ true
digit_in_name c h = or_right (is_ascii_uppercase c) (is_ascii_digit c || nat_eq c 95) (or_left (is_ascii_digit c) (nat_eq c 95) h)

pub name_made : (x : Bytes) → is_name x ≡ true → IsMade x
name_made [] h = tt
name_made (c ∷ cs) h =
    let p = and_parts (is_ascii_uppercase c) (list_all in_name cs) h in
    (or_left (is_ascii_uppercase c) (is_ascii_digit c || nat_eq c 95) p.0, all_made cs p.1)

-- a name is no number, and does not begin one
pub name_is_no_number : (x t : Bytes) → is_name x ≡ true → read_number (x ++ t) ≡ None
name_is_no_number [] t h = cc
name_is_no_number (c ∷ cs) t h =
    let p = and_parts (is_ascii_uppercase c) (list_all in_name cs) h in
    let d : is_ascii_digit c ≡ false = letter_is_no_digit c p.0 in
    rw d

pub name_is_no_blank : (x t : Bytes) → is_name x ≡ true → bytes_eq (x ++ t) [] ≡ false
name_is_no_blank [] t h = cc
name_is_no_blank (c ∷ cs) t h = refl

-- ---- numbers

-- digits that are n as a decimal number
record Spells (n : ℕ) (ds : Bytes) : Type 0 where
  pub made : IsMade ds
  pub read : (t : Bytes) → read_number (ds ++ t) ≡ digits_from n t

digit_step : (v d n : ℕ) (t : Bytes) → d < 10 → 10 * v + (48 + d - 48) ≡ n → digits_from v ((48 + d) ∷ t) ≡ digits_from n t
digit_step v d n t h e =
    let b : is_ascii_digit (48 + d) ≡ true = is_digit d h in
    rw (b, e)

one_digit : (n : ℕ) → n < 10 → Spells n ((48 + n) ∷ [])
one_digit n h = record {
  made = (digit_in_name (48 + n) (is_digit n h), tt);
  read = λ t. digit_step 0 n n t h (omega arith);
}

more_digits : (n : ℕ) (ds : Bytes) → 10 ≤ n → Spells (n / 10) ds → Spells n (ds ++ ((48 + n % 10) ∷ []))
more_digits n ds h x = record {
  made = made-append ds ((48 + n % 10) ∷ []) x.made (digit_in_name (48 + n % 10) (is_digit (n % 10) (omega arith)), tt);
  read = λ t. rw append_assoc (x.read ((48 + n % 10) ∷ t) ∙ digit_step (n / 10) (n % 10) n t (omega arith) (omega arith));
}

spelled : (n : ℕ) → n < 10 ^ 64 → Spells n (decimal n)
spelled n h = decimal_by_steps_wide Spells one_digit more_digits n h

pub decimal_made : (n : ℕ) → n < 10 ^ 64 → IsMade (decimal n)
decimal_made n h = (spelled n h).made

pub number-back : (n : ℕ) → n < 10 ^ 64 → read_number (decimal n) ≡ Some n
number-back n h = ap read_number (sym (append-nil (decimal n))) ∙ (spelled n h).read []

-- ---- the names of numbers

name_there : (names : List Bytes) (k : ℕ) → k < length names → list_all is_name names ≡ true → is_name (get_or names k []) ≡ true
name_there [] k l h = absurd (omega arith)
name_there (x ∷ xs) zero l h = (and_parts (is_name x) (list_all is_name xs) h).0
name_there (x ∷ xs) (suc k) l h = name_there xs k (omega arith) (and_parts (is_name x) (list_all is_name xs) h).1

differs_there : (x : Bytes) (xs : List Bytes) (k : ℕ) → k < length xs → AllByRecursion (λ y. bytes_eq x y ≡ false) xs → bytes_eq x (get_or xs k []) ≡ false
differs_there x [] k l h = absurd (omega arith)
differs_there x (y ∷ ys) zero l h = h.0
differs_there x (y ∷ ys) (suc k) l h = differs_there x ys k (omega arith) h.1

number_there : (names : List Bytes) (k n : ℕ) → k < length names → IsDistinct bytes_eq names → number_from n names (get_or names k []) ≡ Some (n + k)
unfolding IsDistinct
number_there [] k n l d = absurd (omega arith)
number_there (x ∷ xs) zero n l d =
    let e : bytes_eq x x ≡ true = (bytes_eq-Decides x x).1 refl in
    let f : n ≡ n + 0 = omega arith in
    rw e (ap Some f)
number_there (x ∷ xs) (suc k) n l d =
    let e : bytes_eq x (get_or xs k []) ≡ false = differs_there x xs k (omega arith) d.0 in
    let f : suc n + k ≡ n + suc k = omega arith in
    rw e (number_there xs k (suc n) (omega arith) d.1 ∙ ap Some f)

pub name_of_number : (names : List Bytes) (n : ℕ) → AreNames names → IsNumber names n → is_name (name_at names n) ≡ true
name_of_number names zero h k = absurd (omega arith)
name_of_number names (suc k) h l = name_there names k (omega arith) h.each

pub name-back : (names : List Bytes) (n : ℕ) → AreNames names → IsNumber names n → read_name names (name_at names n) ≡ Some n
name-back names zero h k = absurd (omega arith)
name-back names (suc k) h l =
    let f : 1 + k ≡ suc k = omega arith in
    number_there names k 1 (omega arith) h.distinct ∙ ap Some f
