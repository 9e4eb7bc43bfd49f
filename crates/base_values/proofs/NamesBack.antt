-- Variables that are written are read again, and those that are read fit.
use Rattle.std.proofs.Common.{◌≡◌, ℕ, zero, suc, ◌+◌, ◌-◌, ◌<◌, ◌≤◌, ◌^◌, ◌==◌, Bool, true, false, not, ◌&&◌, ◌||◌, ◌⊎◌, inl, inr, List, [], ◌∷◌, ◌++◌, length, take, drop, get_or, Option, Some, None, option_map, option_and_then, refl, ap, ap₂, ◌∙◌, sym, subst, arith, append_assoc, append-nil, length-append, if◌then◌else◌}
use Rattle.std.specs.Prelude.{nat_lt, nat_le, nat_eq, bytes_eq, is_none, slice_index, slice_index_or, slice_range, position}
use Rattle.std.specs.List.{list_all, prefix_len}
use Rattle.std.specs.Str.{chars, encode_utf8_all}
use Rattle.std.specs.Char.{is_ascii_digit, is_ascii_uppercase}
use Rattle.std.proofs.lemmas.Bool.{false_from_ne_true}
use Rattle.std.proofs.lemmas.Bool.Decides.{Decides-ltb, Decides-eqb, nat_tests}
use Rattle.std.proofs.lemmas.List.{get_or_at, take_at, drop_at}
use Rattle.std.proofs.lemmas.Slice.Eq.{bytes_eq-Decides}
use Rattle.std.proofs.lemmas.Str.{chars-encodes}
use lib.Utf8.{scalar, scalars, low_scalar}
use Rattle.serde_json.specs.Data.{Data, string}
use Rattle.f77_ast.specs.declared.variable.Variable.{Variable}
use Rattle.f77_ast.specs.declared.variable.Variable.TheVariants.{Own, Block, Saved}
use Rattle.f77_ast.specs.Symbols.{number_from}
use Rattle.system_text.specs.SystemText.{name_at}
use Rattle.base_json.specs.Shapes.{when, is_latin, latin, text_of}
use Rattle.base_json.specs.Written.{text_data}
use Rattle.base_json.specs.Scopes.{ScopeTree, is_symbol, in_name, is_name, is_short_name, is_block, block_named, block_in, saved_named, saved_at, foreign_variable, own_or, variable_named, variable_of}
use Rattle.base_json.specs.Distinct.{are_new}
use Rattle.base_values.specs.Naming.{Each, AreBytes, AreNames, VariableFits}
use Rattle.base_values.proofs.Options.{Decides-leb, and_then_some, when_some, if_some, each_map, each_all, all_each}
use Rattle.base_values.proofs.RowsBack.{when_true, either_some}
use Rattle.fx_lists.proofs.Texts.{same_name as same_bytes}
use Rattle.fx_lists.proofs.Booleans.{and_parts, and_from, or_cases, and_false, chosen, not_chosen}
use Rattle.fx_lists.proofs.Numbers.{below_is}
use Rattle.f77_ast.proofs.NumberedNames.{number_from-between}

-- ---- texts

pub scalars_of : (x : List ℕ) → AreBytes x → scalars x ≡ true
scalars_of [] h = refl
scalars_of (c ∷ cs) h = let l : c < 256 = h.0 in and_from (scalar c) (scalars cs) (low_scalar c (omega arith)) (scalars_of cs h.1)

pub text_back : (x : List ℕ) → AreBytes x → text_of (text_data x) ≡ Some x
text_back x h =
    let e : chars (encode_utf8_all x) ≡ x = chars-encodes x (scalars_of x h) in
    ap (λ y. when (is_latin y) y) e ∙ when_true (is_latin x) x (all_each (λ c. nat_lt c 256) x (each_map (λ c. c < 256) (λ c. nat_lt c 256 ≡ true) (λ c l. below_is c 256 l) x h))

pub bytes_append : (x y : List ℕ) → AreBytes x → AreBytes y → AreBytes (x ++ y)
bytes_append [] y h k = k
bytes_append (c ∷ cs) y h k = (h.0, bytes_append cs y h.1 k)

-- ---- names

-- what a character of a name is
upper_below : (c : ℕ) → is_ascii_uppercase c ≡ true → (64 < c) × (c < 91)
upper_below c e =
    let a = and_parts (nat_le 65 c) (nat_le c 90) e in
    let x : 65 ≤ c = (Decides-leb 65 c).0 a.0 in
    let y : c ≤ 90 = (Decides-leb c 90).0 a.1 in
    (omega arith, omega arith)

name_char : (c : ℕ) → in_name c ≡ true → (47 < c) × (c < 256) × (c ≡ 58 → ⊥)
name_char c e = go (or_cases (is_ascii_uppercase c) (is_ascii_digit c || nat_eq c 95) e) where
  other : (is_ascii_digit c ≡ true) ⊎ (nat_eq c 95 ≡ true) → (47 < c) × (c < 256) × (c ≡ 58 → ⊥)
  other (inl d) =
      let a = and_parts (nat_le 48 c) (nat_le c 57) d in
      let x : 48 ≤ c = (Decides-leb 48 c).0 a.0 in
      let y : c ≤ 57 = (Decides-leb c 57).0 a.1 in
      (omega arith, omega arith, λ q. omega arith)
  other (inr d) = let x : c ≡ 95 = (Decides-eqb c 95).0 d in (omega arith, omega arith, λ q. omega arith)

  go : (is_ascii_uppercase c ≡ true) ⊎ ((is_ascii_digit c || nat_eq c 95) ≡ true) → (47 < c) × (c < 256) × (c ≡ 58 → ⊥)
  go (inl u) =
      let k = upper_below c u in
      let x : 64 < c = k.0 in
      let y : c < 91 = k.1 in
      (omega arith, omega arith, λ q. omega arith)
  go (inr r) = other (or_cases (is_ascii_digit c) (nat_eq c 95) r)

pub name_bytes : (x : List ℕ) → is_name x ≡ true → AreBytes x
name_bytes [] e = tt
name_bytes (c ∷ cs) e =
    let a = and_parts (is_ascii_uppercase c) (list_all in_name cs) e in
    let u = upper_below c a.0 in
    let l : c < 91 = u.1 in
    (omega arith, each_map (λ d. in_name d ≡ true) (λ d. d < 256) (λ d k. (name_char d k).1) cs (each_all in_name cs a.1))

pub short_name : (x : List ℕ) → is_short_name x ≡ true → is_name x ≡ true
short_name x e = (and_parts (is_name x) (nat_le (length x) 31) e).0

pub block_bytes : (b : List ℕ) → is_block b ≡ true → AreBytes b
block_bytes [] e = tt
block_bytes (c ∷ cs) e = name_bytes (c ∷ cs) (short_name (c ∷ cs) e)

-- a text with a character that no name has is no name
not_all : (p : ℕ → Bool) (xs : List ℕ) (c : ℕ) (ys : List ℕ) → p c ≡ false → list_all p (xs ++ c ∷ ys) ≡ false
not_all p [] c ys e = ap (λ b. b && list_all p ys) e
not_all p (x ∷ xs) c ys e = ap (λ b. p x && b) (not_all p xs c ys e) ∙ and_false (p x)

apart : (x y : List ℕ) → is_name x ≡ false → is_name y ≡ true → bytes_eq x y ≡ false
apart x y e f = false_from_ne_true (bytes_eq x y) (λ h. let s : x ≡ y = (bytes_eq-Decides x y).0 h in cc)

pub absent : (n : ℕ) (names : List (List ℕ)) (x : List ℕ) → is_name x ≡ false → Each (λ y. is_name y ≡ true) names → number_from n names x ≡ None
absent n [] x e h = refl
absent n (y ∷ ys) x e h = not_chosen (bytes_eq x y) (Some n) (number_from (suc n) ys x) (apart x y e h.0) ∙ absent (suc n) ys x e h.1

-- ---- own variables

found_after : (n : ℕ) (before : List (List ℕ)) (k : List ℕ) (ks : List (List ℕ)) → number_from n before k ≡ None → number_from n (before ++ k ∷ ks) k ≡ Some (n + length before)
found_after n [] k ks e = chosen (bytes_eq k k) (Some n) (number_from (suc n) ks k) (same_bytes k) ∙ (let z : n ≡ n + 0 = omega arith in ap Some z)
found_after n (y ∷ ys) k ks e = go (bytes_eq k y) refl (λ f. found_after (suc n) ys k ks f) where
  none_some : Some n ≡ None → ⊥
  none_some q = cc

  go : (b : Bool) → bytes_eq k y ≡ b → (number_from (suc n) ys k ≡ None → number_from (suc n) (ys ++ k ∷ ks) k ≡ Some (suc n + length ys)) → number_from n (y ∷ ys ++ k ∷ ks) k ≡ Some (n + suc (length ys))
  go true f rest = absurd (none_some (sym (chosen (bytes_eq k y) (Some n) (number_from (suc n) ys k) f) ∙ e))
  go false f rest =
      let z : suc n + length ys ≡ n + suc (length ys) = omega arith in
      not_chosen (bytes_eq k y) (Some n) (number_from (suc n) (ys ++ k ∷ ks) k) f ∙ (rest (sym (not_chosen (bytes_eq k y) (Some n) (number_from (suc n) ys k) f) ∙ e) ∙ ap Some z)

none_is : {A : Type 0} (o : Option A) → is_none o ≡ true → o ≡ None
none_is None e = refl
none_is (Some a) e = cc

numbered_new : (before ks : List (List ℕ)) (i : ℕ) → are_new before ks ≡ true → i < length ks → number_from 1 (before ++ ks) (slice_index_or ks i []) ≡ Some (1 + length before + i)
numbered_new before [] i e l = absurd (omega arith)
numbered_new before (k ∷ ks) zero e l =
    let a = and_parts (is_none (number_from 1 before k)) (are_new (before ++ k ∷ []) ks) e in
    let z : 1 + length before ≡ 1 + length before + 0 = omega arith in
    found_after 1 before k ks (none_is (number_from 1 before k) a.0) ∙ ap Some z
numbered_new before (k ∷ ks) (suc j) e l =
    let a = and_parts (is_none (number_from 1 before k)) (are_new (before ++ k ∷ []) ks) e in
    let z : 1 + length (before ++ k ∷ []) + j ≡ 1 + length before + suc j = omega (arith, length-append before (k ∷ [])) in
    ap (λ xs. number_from 1 xs (slice_index_or ks j [])) (sym (append_assoc before (k ∷ []) ks))
    ∙ (numbered_new (before ++ k ∷ []) ks j a.1 (omega arith) ∙ ap Some z)

pub symbol_between : (names : List (List ℕ)) (n : ℕ) → is_symbol names n ≡ true → (0 < n) × (n ≤ length names)
symbol_between names n e =
    let h = and_parts (nat_lt 0 n) (nat_le n (length names)) e in
    ((Decides-ltb 0 n).0 h.0, (Decides-leb n (length names)).0 h.1)

-- a symbol has its own number
pub own_number : (names : List (List ℕ)) (n : ℕ) → are_new [] names ≡ true → is_symbol names n ≡ true → number_from 1 names (name_at names n) ≡ Some n
own_number names zero e h = let k = symbol_between names 0 h in absurd (omega (arith, k.0))
own_number names (suc i) e h =
    let k = symbol_between names (suc i) h in
    let z : 1 + 0 + i ≡ suc i = omega arith in
    numbered_new [] names i e (omega (arith, k.1)) ∙ ap Some z

at_each_place : (P : List ℕ → Type 0) (names : List (List ℕ)) (i : ℕ) → Each P names → i < length names → P (slice_index_or names i [])
at_each_place P [] i h l = absurd (omega arith)
at_each_place P (x ∷ xs) zero h l = h.0
at_each_place P (x ∷ xs) (suc j) h l = at_each_place P xs j h.1 (omega arith)

pub own_bytes : (names : List (List ℕ)) (n : ℕ) → Each (λ x. is_name x ≡ true) names → is_symbol names n ≡ true → AreBytes (name_at names n)
own_bytes names zero h e = tt
own_bytes names (suc i) h e = let k = symbol_between names (suc i) e in name_bytes (slice_index_or names i []) (at_each_place (λ x. is_name x ≡ true) names i h (omega (arith, k.1)))

-- ---- blocks and saved locals

abbrev pub slashed : List ℕ → List ℕ
slashed b = 47 ∷ (b ++ 47 ∷ [])

slashed-length : (b : List ℕ) → length (slashed b) ≡ suc (suc (length b))
slashed-length b = omega (arith, length-append b (47 ∷ []))

slashed_last : (b : List ℕ) → (slice_index (slashed b) (length (slashed b) - 1) == 47) ≡ true
slashed_last b =
    let k : length (47 ∷ b) ≡ length (slashed b) - 1 = omega (arith, slashed-length b) in
    ap (λ c. c == 47) (get_or_at (47 ∷ b) 47 [] 0 (length (slashed b) - 1) k)

slashed_inner : (b : List ℕ) → slice_range (slashed b) 1 (length (slashed b) - 1) ≡ b
slashed_inner b =
    let k : length b ≡ (length (slashed b) - 1) - 1 = omega (arith, slashed-length b) in
    take_at b (47 ∷ []) ((length (slashed b) - 1) - 1) k

block_in_slashes : (b : List ℕ) → is_block b ≡ true → block_in (slashed b) ≡ Some (Block b)
block_in_slashes b e =
    let x = slashed b in
    let two : 2 ≤ length (slashed b) = omega (arith, slashed-length b) in
    chosen (nat_le 2 (length x) && (slice_index x (length x - 1) == 47)) (block_named (slice_range x 1 (length x - 1))) None
    (and_from (nat_le 2 (length x)) (slice_index x (length x - 1) == 47) ((Decides-leb 2 (length x)).1 two) (slashed_last b))
    ∙ (ap block_named (slashed_inner b) ∙ when_true (is_block b) (Block b) e)

block_back : (b : List ℕ) → is_block b ≡ true → foreign_variable (slashed b) ≡ Some (Block b)
block_back b e =
    let x = slashed b in
    let some : 0 < length (slashed b) = omega (arith, slashed-length b) in
    chosen (nat_lt 0 (length x) && (slice_index x 0 == 47)) (block_in x) (saved_at x (position (λ c. c == 58) x)) (and_from (nat_lt 0 (length x)) (slice_index x 0 == 47) (below_is 0 (length x) some) refl)
    ∙ block_in_slashes b e

prefix_at : (p : ℕ → Bool) (xs : List ℕ) (c : ℕ) (ys : List ℕ) → Each (λ x. p x ≡ false) xs → p c ≡ true → prefix_len (λ x. not (p x)) (xs ++ c ∷ ys) ≡ length xs
prefix_at p [] c ys h e = not_chosen (not (p c)) (1 + prefix_len (λ x. not (p x)) ys) 0 (ap not e)
prefix_at p (x ∷ xs) c ys h e =
    let z : 1 + length xs ≡ suc (length xs) = omega arith in
    chosen (not (p x)) (1 + prefix_len (λ x. not (p x)) (xs ++ c ∷ ys)) 0 (ap not h.0) ∙ (ap (λ n. 1 + n) (prefix_at p xs c ys h.1 e) ∙ z)

position_at : (p : ℕ → Bool) (xs : List ℕ) (c : ℕ) (ys : List ℕ) → Each (λ x. p x ≡ false) xs → p c ≡ true → position p (xs ++ c ∷ ys) ≡ Some (length xs)
position_at p xs c ys h e =
    let n = length (xs ++ c ∷ ys) in
    let l : length xs < length (xs ++ c ∷ ys) = omega (arith, length-append xs (c ∷ ys)) in
    ap (λ k. if nat_lt k n then Some k else None) (prefix_at p xs c ys h e) ∙ chosen (nat_lt (length xs) n) (Some (length xs)) None (below_is (length xs) n l)

not_colon : (c : ℕ) → (c ≡ 58 → ⊥) → (c == 58) ≡ false
not_colon c h = false_from_ne_true (c == 58) (λ q. h ((Decides-eqb c 58).0 q))

no_colon : (m : List ℕ) → is_name m ≡ true → Each (λ c. (c == 58) ≡ false) m
no_colon [] e = tt
no_colon (c ∷ cs) e =
    let a = and_parts (is_ascii_uppercase c) (list_all in_name cs) e in
    let u : 64 < c = (upper_below c a.0).0 in
    (not_colon c (λ q. omega arith), each_map (λ d. in_name d ≡ true) (λ d. (d == 58) ≡ false) (λ d k. not_colon d (name_char d k).2) cs (each_all in_name cs a.1))

saved_cut : (m x : List ℕ) → (is_short_name m && is_short_name x) ≡ true → saved_at (m ++ 58 ∷ x) (Some (length m)) ≡ Some (Saved m x)
saved_cut m x e =
    let k : length (m ++ 58 ∷ []) ≡ length m + 1 = length-append m (58 ∷ []) in
    let back : drop (length m + 1) (m ++ 58 ∷ x) ≡ x = ap (drop (length m + 1)) (sym (append_assoc m (58 ∷ []) x)) ∙ drop_at (m ++ 58 ∷ []) x (length m + 1) k in
    ap₂ saved_named (take_at m (58 ∷ x) (length m) refl) back ∙ when_true (is_short_name m && is_short_name x) (Saved m x) e

saved_back : (m x : List ℕ) → (is_short_name m && is_short_name x) ≡ true → foreign_variable (m ++ 58 ∷ x) ≡ Some (Saved m x)
saved_back [] x e = cc
saved_back (c ∷ cs) x e =
    let y = c ∷ (cs ++ 58 ∷ x) in
    let n = short_name (c ∷ cs) (and_parts (is_short_name (c ∷ cs)) (is_short_name x) e).0 in
    let u : 64 < c = (upper_below c (and_parts (is_ascii_uppercase c) (list_all in_name cs) n).0).0 in
    let f : (c == 47) ≡ false = false_from_ne_true (c == 47) (λ q. let z : c ≡ 47 = (Decides-eqb c 47).0 q in omega arith) in
    not_chosen (nat_lt 0 (length y) && (slice_index y 0 == 47)) (block_in y) (saved_at y (position (λ d. d == 58) y)) (ap (λ b. nat_lt 0 (length y) && b) f ∙ and_false (nat_lt 0 (length y)))
    ∙ (ap (saved_at y) (position_at (λ d. d == 58) (c ∷ cs) 58 x (no_colon (c ∷ cs) n) refl) ∙ saved_cut (c ∷ cs) x e)

-- ---- variables, by what is written of them

pub own_read_back : (s : ScopeTree) (n : ℕ) → AreNames s.names → is_symbol s.names n ≡ true → variable_of s (text_data (name_at s.names n)) ≡ Some (Own n)
own_read_back s n h e =
    let x = name_at s.names n in
    ap (option_and_then (variable_named s.names)) (text_back x (own_bytes s.names n h.are e)) ∙ ap (own_or x) (own_number s.names n h.once e)

other_back : (s : ScopeTree) (x : List ℕ) (v : Variable) → AreNames s.names → AreBytes x → is_name x ≡ false → foreign_variable x ≡ Some v → variable_of s (text_data x) ≡ Some v
other_back s x v h b e f =
    ap (option_and_then (variable_named s.names)) (text_back x b) ∙ (ap (own_or x) (absent 1 s.names x e h.are) ∙ f)

pub block_read_back : (s : ScopeTree) (b : List ℕ) → AreNames s.names → is_block b ≡ true → variable_of s (text_data (slashed b)) ≡ Some (Block b)
block_read_back s b h e =
    let slash : 47 < 256 = omega arith in
    other_back s (slashed b) (Block b) h (slash, bytes_append b (47 ∷ []) (block_bytes b e) (slash, tt)) refl (block_back b e)

saved_no_name : (m x : List ℕ) → is_name (m ++ 58 ∷ x) ≡ false
saved_no_name [] x = refl
saved_no_name (c ∷ cs) x = ap (λ b. is_ascii_uppercase c && b) (not_all in_name cs 58 x refl) ∙ and_false (is_ascii_uppercase c)

pub saved_read_back : (s : ScopeTree) (m x : List ℕ) → AreNames s.names → (is_short_name m && is_short_name x) ≡ true → variable_of s (text_data (m ++ 58 ∷ x)) ≡ Some (Saved m x)
saved_read_back s m x h e =
    let a = and_parts (is_short_name m) (is_short_name x) e in
    let colon : 58 < 256 = omega arith in
    other_back s (m ++ 58 ∷ x) (Saved m x) h (bytes_append m (58 ∷ x) (name_bytes m (short_name m a.0)) (colon, name_bytes x (short_name x a.1))) (saved_no_name m x) (saved_back m x e)

-- ---- what is read fits

own_fits : (names : List (List ℕ)) (x : List ℕ) (n : ℕ) → number_from 1 names x ≡ Some n → is_symbol names n ≡ true
own_fits names x n e =
    let h = number_from-between 1 names x n e in
    let a : 0 < n = omega (arith, h.0) in
    let b : n ≤ length names = omega (arith, h.1) in
    and_from (nat_lt 0 n) (nat_le n (length names)) (below_is 0 n a) ((Decides-leb n (length names)).1 b)

foreign_fits : (names : List (List ℕ)) (x : List ℕ) (v : Variable) → foreign_variable x ≡ Some v → VariableFits names v
foreign_fits names x v e =
    either_some (VariableFits names v) (nat_lt 0 (length x) && (slice_index x 0 == 47)) (block_in x) (saved_at x (position (λ c. c == 58) x)) v block (saved (position (λ c. c == 58) x)) e
  where
    named : (b : List ℕ) → block_named b ≡ Some v → VariableFits names v
    named b f = let w = when_some (is_block b) (Block b) v f in subst (VariableFits names) w.1 w.0

    block : block_in x ≡ Some v → VariableFits names v
    block f = named (slice_range x 1 (length x - 1)) (if_some (nat_le 2 (length x) && (slice_index x (length x - 1) == 47)) (block_named (slice_range x 1 (length x - 1))) v f).1

    saved : (o : Option ℕ) → saved_at x o ≡ Some v → VariableFits names v
    saved None f = cc
    saved (Some i) f =
        let w = when_some (is_short_name (take i x) && is_short_name (drop (i + 1) x)) (Saved (take i x) (drop (i + 1) x)) v f in
        subst (VariableFits names) w.1 w.0

named_fits : (names : List (List ℕ)) (x : List ℕ) (v : Variable) (o : Option ℕ) → number_from 1 names x ≡ o → own_or x o ≡ Some v → VariableFits names v
named_fits names x v (Some n) e f = let z : Own n ≡ v = cc in subst (VariableFits names) z (own_fits names x n e)
named_fits names x v None e f = foreign_fits names x v f

pub variable_read : (s : ScopeTree) (d : Data) (v : Variable) → variable_of s d ≡ Some v → VariableFits s.names v
variable_read s d v e = let a = and_then_some (variable_named s.names) (text_of d) v e in named_fits s.names a.0 v (number_from 1 s.names a.0) refl a.2
