-- Elements of arrays: the first subscript varies fastest, and each element lies one unit behind the one before it.
use Rattle.std.proofs.Common.{◌≡◌, ℕ, suc, ◌+◌, ◌*◌, Bool, true, false, ℤ, pos, negsuc, [], ◌∷◌, map, Option, Some, None, inl, inr, refl, sym, ap, ◌∙◌, arith, mul-suc}
use Rattle.std.specs.Prelude.{if◌then◌else◌, ◌+ℤ◌, ◌-ℤ◌, ◌≤ℤ◌, int_le}
use Rattle.std.proofs.lemmas.Int.{ints}
use Rattle.std.proofs.lemmas.Bool.{and_parts, and_from}
use Rattle.f77_ast.specs.Places.{Dim, as_count, size_from, dim_size, at_most, dim_has, in_column, position}
use Rattle.storage_data.specs.Laws.{IsNext, FirstElementHasNumberZero, NextElementHasNextNumber}
use Rattle.fx_lists.proofs.Numbers.{at_most_true, at_most_is}

-- ---- numbers

lower_at_most : (low n : ℤ) (o : Option ℤ) → low ≤ℤ n → at_most n o ≡ true → at_most low o ≡ true
lower_at_most low n None h e = refl
lower_at_most low n (Some high) h e = let to = at_most_true n high e in at_most_is low high (omega (arith, ints))

none_between : (n : ℤ) → as_count (n -ℤ n) ≡ 0
none_between n = let none : n -ℤ n ≡ pos 0 = omega (arith, ints) in ap as_count none

count_next : (z : ℤ) → pos 0 ≤ℤ z → as_count (z +ℤ pos 1) ≡ suc (as_count z)
count_next (pos n) h = omega arith
count_next (negsuc n) h = absurd (omega (arith, ints))

one_more : (low n : ℤ) → low ≤ℤ n → as_count ((n +ℤ pos 1) -ℤ low) ≡ suc (as_count (n -ℤ low))
one_more low n h =
    let turned : (n +ℤ pos 1) -ℤ low ≡ (n -ℤ low) +ℤ pos 1 = omega (arith, ints) in
    ap as_count turned ∙ count_next (n -ℤ low) (omega (arith, ints))

-- ---- one dimension

low_fits : (d : Dim) (n : ℤ) → dim_has d n ≡ true → dim_has d d.low ≡ true
low_fits d n t =
    let p = and_parts (int_le d.low n) (at_most n d.high) t in
    and_from (int_le d.low d.low) (at_most d.low d.high) (at_most_is d.low d.low (omega (arith, ints))) (lower_at_most d.low n d.high (at_most_true d.low n p.0) p.1)

-- the element with the lower bound in this dimension
at_low : (d : Dim) (n : ℤ) (o : Option ℕ) (j : ℕ) → dim_has d n ≡ true → o ≡ Some j → (if dim_has d d.low then in_column d d.low o else None) ≡ Some (dim_size d * j)
at_low d n o j t q =
    let none = none_between d.low in
    let only : as_count (d.low -ℤ d.low) + dim_size d * j ≡ dim_size d * j = omega (arith, none) in
    ap (λ b. if b then in_column d d.low o else None) (low_fits d n t) ∙ ap (in_column d d.low) q ∙ ap Some only

pub first_element_has_number_zero : FirstElementHasNumberZero
first_element_has_number_zero [] [] k e = refl
first_element_has_number_zero [] (n ∷ ns) k e = cc
first_element_has_number_zero (d ∷ ds) [] k e = cc
first_element_has_number_zero (d ∷ ds) (n ∷ ns) k e = go (dim_has d n) (position ds ns) refl e (λ j q. first_element_has_number_zero ds ns j q)
  where
    go : (b : Bool) (o : Option ℕ) → dim_has d n ≡ b → (if b then in_column d n o else None) ≡ Some k → ((j : ℕ) → o ≡ Some j → position ds (map (λ x. x.low) ds) ≡ Some 0) → position (d ∷ ds) (map (λ x. x.low) (d ∷ ds)) ≡ Some 0
    go true (Some j) t f ih = let none : dim_size d * 0 ≡ 0 = omega arith in at_low d n (position ds (map (λ x. x.low) ds)) 0 t (ih j refl) ∙ ap Some none
    go true None t f ih = cc
    go false o t f ih = cc

-- ---- the next element

pub next_element_has_next_number : NextElementHasNextNumber
next_element_has_next_number [] ns ms k e h = absurd h
next_element_has_next_number (d ∷ ds) [] ms k e h = absurd h
next_element_has_next_number (d ∷ ds) (n ∷ ns) [] k e h = absurd h
next_element_has_next_number (d ∷ ds) (n ∷ ns) (m ∷ ms) k e h = go (dim_has d n) (position ds ns) refl refl e h (λ j q r. next_element_has_next_number ds ns ms j q r)
  where
    up : (j : ℕ) → dim_has d n ≡ true → position ds ns ≡ Some j → as_count (n -ℤ d.low) + dim_size d * j ≡ k → at_most m d.high ≡ true → m ≡ n +ℤ pos 1 → ns ≡ ms → position (d ∷ ds) (m ∷ ms) ≡ Some (suc k)
    up j t q f a b c =
        let p = and_parts (int_le d.low n) (at_most n d.high) t in
        let from = at_most_true d.low n p.0 in
        let fits = and_from (int_le d.low m) (at_most m d.high) (at_most_is d.low m (omega (arith, ints))) a in
        let more : as_count (m -ℤ d.low) ≡ suc (as_count (n -ℤ d.low)) = ap (λ z. as_count (z -ℤ d.low)) b ∙ one_more d.low n from in
        let all : as_count (m -ℤ d.low) + dim_size d * j ≡ suc k = omega (arith, more, f) in
        ap (λ x. if x then in_column d m (position ds ms) else None) fits ∙ ap (in_column d m) (ap (position ds) (sym c) ∙ q) ∙ ap Some all

    carry : (j : ℕ) → dim_has d n ≡ true → as_count (n -ℤ d.low) + dim_size d * j ≡ k → d.high ≡ Some n → m ≡ d.low → position ds ms ≡ Some (suc j) → position (d ∷ ds) (m ∷ ms) ≡ Some (suc k)
    carry j t f a b r =
        let p = and_parts (int_le d.low n) (at_most n d.high) t in
        let from = at_most_true d.low n p.0 in
        let size : dim_size d ≡ suc (as_count (n -ℤ d.low)) = ap (size_from d.low) a ∙ count_next (n -ℤ d.low) (omega (arith, ints)) in
        let column : dim_size d * suc j ≡ suc k = omega (arith, mul-suc (dim_size d) j, size, f) in
        ap (λ z. position (d ∷ ds) (z ∷ ms)) b ∙ at_low d n (position ds ms) (suc j) t r ∙ ap Some column

    go : (b : Bool) (o : Option ℕ) → dim_has d n ≡ b → position ds ns ≡ o → (if b then in_column d n o else None) ≡ Some k → IsNext (d ∷ ds) (n ∷ ns) (m ∷ ms) → ((j : ℕ) → position ds ns ≡ Some j → IsNext ds ns ms → position ds ms ≡ Some (suc j)) → position (d ∷ ds) (m ∷ ms) ≡ Some (suc k)
    go false o t q f c ih = cc
    go true None t q f c ih = cc
    go true (Some j) t q f (inl w) ih = let at : as_count (n -ℤ d.low) + dim_size d * j ≡ k = cc in up j t q at w.0 w.1 w.2
    go true (Some j) t q f (inr w) ih = let at : as_count (n -ℤ d.low) + dim_size d * j ≡ k = cc in carry j t at w.0 w.1 (ih j q w.2)
