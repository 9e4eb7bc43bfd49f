-- Two texts, byte by byte.
use Rattle.std.proofs.Common.{◌≡◌, ℕ, zero, suc, ◌+◌, ◌<◌, ◌≤◌, List, [], ◌∷◌, drop, length, Some, None, refl, arith, sym, ap, ◌∙◌, add-one}
use Rattle.std.proofs.lemmas.Option.{slice_get_past}
use Rattle.std.specs.Prelude.{slice_get}
use Rattle.std.specs.declared.cmp.Ordering.{Ordering}
use Rattle.std.specs.declared.cmp.Ordering.TheVariants.{Less, Equal, Greater}
use Rattle.std.specs.Ordering.{nat_cmp, ordering_then, MatchOrdering}
use Rattle.std.specs.Cmp.{ranks}
use Rattle.f77_ast.specs.Variables.{text_cmp}

-- both have a byte there
pub both_at : (xs ys : List ℕ) (n x y : ℕ) → slice_get xs n ≡ Some x → slice_get ys n ≡ Some y → text_cmp (drop n xs) (drop n ys) ≡ ordering_then (nat_cmp x y) (text_cmp (drop (suc n) xs) (drop (suc n) ys))
both_at [] ys n x y a b = cc
both_at (u ∷ xs) [] n x y a b = cc
both_at (u ∷ xs) (v ∷ ys) zero x y a b =
    let p : u ≡ x = cc in
    let q : v ≡ y = cc in
    λ i. ordering_then (nat_cmp (p i) (q i)) (text_cmp xs ys)
both_at (u ∷ xs) (v ∷ ys) (suc n) x y a b = both_at xs ys n x y a b

nothing : (n m : ℕ) → drop {A = ℕ} n [] ≡ drop m []
nothing zero zero = refl
nothing zero (suc m) = refl
nothing (suc n) zero = refl
nothing (suc n) (suc m) = refl

pub first_alone : (xs ys : List ℕ) (n x : ℕ) → slice_get xs n ≡ Some x → slice_get ys n ≡ None → text_cmp (drop n xs) (drop n ys) ≡ Greater
first_alone [] ys n x a b = cc
first_alone (u ∷ xs) [] zero x a b = refl
first_alone (u ∷ xs) [] (suc n) x a b = ap (λ zs. text_cmp (drop n xs) zs) (nothing (suc n) n) ∙ first_alone xs [] n x a b
first_alone (u ∷ xs) (v ∷ ys) zero x a b = cc
first_alone (u ∷ xs) (v ∷ ys) (suc n) x a b = first_alone xs ys n x a b

pub second_alone : (xs ys : List ℕ) (n y : ℕ) → slice_get xs n ≡ None → slice_get ys n ≡ Some y → text_cmp (drop n xs) (drop n ys) ≡ Less
second_alone xs [] n y a b = cc
second_alone [] (v ∷ ys) zero y a b = refl
second_alone [] (v ∷ ys) (suc n) y a b = ap (λ zs. text_cmp zs (drop n ys)) (nothing (suc n) n) ∙ second_alone [] ys n y refl b
second_alone (u ∷ xs) (v ∷ ys) zero y a b = cc
second_alone (u ∷ xs) (v ∷ ys) (suc n) y a b = second_alone xs ys n y a b

pub none_at : (xs ys : List ℕ) (n : ℕ) → slice_get xs n ≡ None → slice_get ys n ≡ None → text_cmp (drop n xs) (drop n ys) ≡ Equal
none_at [] [] zero a b = refl
none_at [] [] (suc n) a b = refl
none_at [] (v ∷ ys) zero a b = cc
none_at [] (v ∷ ys) (suc n) a b = ap (λ zs. text_cmp zs (drop n ys)) (nothing (suc n) n) ∙ none_at [] ys n refl b
none_at (u ∷ xs) ys zero a b = cc
none_at (u ∷ xs) [] (suc n) a b = ap (λ zs. text_cmp (drop n xs) zs) (nothing (suc n) n) ∙ none_at xs [] n a refl
none_at (u ∷ xs) (v ∷ ys) (suc n) a b = none_at xs ys n a b

-- ---- the answer

picked_less : (o : Ordering) (x y : ℕ) → MatchOrdering o (x < y) (x ≡ y) (y < x) → x < y → o ≡ Less
picked_less Less x y m h = refl
picked_less Equal x y m h = let e : x ≡ y = m in absurd (omega arith)
picked_less Greater x y m h = let e : y < x = m in absurd (omega arith)

picked_greater : (o : Ordering) (x y : ℕ) → MatchOrdering o (x < y) (x ≡ y) (y < x) → y < x → o ≡ Greater
picked_greater Less x y m h = let e : x < y = m in absurd (omega arith)
picked_greater Equal x y m h = let e : x ≡ y = m in absurd (omega arith)
picked_greater Greater x y m h = refl

picked_equal : (o : Ordering) (x y : ℕ) → MatchOrdering o (x < y) (x ≡ y) (y < x) → x ≤ y → y ≤ x → o ≡ Equal
picked_equal Less x y m h k = let e : x < y = m in absurd (omega arith)
picked_equal Equal x y m h k = refl
picked_equal Greater x y m h k = let e : y < x = m in absurd (omega arith)

pub is_less : (xs ys : List ℕ) (n x y : ℕ) → slice_get xs n ≡ Some x → slice_get ys n ≡ Some y → x < y → text_cmp (drop n xs) (drop n ys) ≡ text_cmp xs ys → Less ≡ text_cmp xs ys
is_less xs ys n x y a b h so_far =
    sym (both_at xs ys n x y a b ∙ ap (λ o. ordering_then o (text_cmp (drop (suc n) xs) (drop (suc n) ys))) (picked_less (nat_cmp x y) x y (ranks x y) h)) ∙ so_far

pub is_greater : (xs ys : List ℕ) (n x y : ℕ) → slice_get xs n ≡ Some x → slice_get ys n ≡ Some y → y < x → text_cmp (drop n xs) (drop n ys) ≡ text_cmp xs ys → Greater ≡ text_cmp xs ys
is_greater xs ys n x y a b h so_far =
    sym (both_at xs ys n x y a b ∙ ap (λ o. ordering_then o (text_cmp (drop (suc n) xs) (drop (suc n) ys))) (picked_greater (nat_cmp x y) x y (ranks x y) h)) ∙ so_far

pub goes_on : (xs ys : List ℕ) (n x y : ℕ) → slice_get xs n ≡ Some x → slice_get ys n ≡ Some y → x ≤ y → y ≤ x → text_cmp (drop n xs) (drop n ys) ≡ text_cmp xs ys → text_cmp (drop (n + 1) xs) (drop (n + 1) ys) ≡ text_cmp xs ys
goes_on xs ys n x y a b h k so_far =
    ap (λ m. text_cmp (drop m xs) (drop m ys)) (add-one n)
    ∙ sym (both_at xs ys n x y a b ∙ ap (λ o. ordering_then o (text_cmp (drop (suc n) xs) (drop (suc n) ys))) (picked_equal (nat_cmp x y) x y (ranks x y) h k)) ∙ so_far

-- the first has no byte there
pub past_equal : (xs ys : List ℕ) (n m : ℕ) → n ≡ m → length xs ≤ m → slice_get ys m ≡ None → text_cmp (drop n xs) (drop n ys) ≡ text_cmp xs ys → Equal ≡ text_cmp xs ys
past_equal xs ys n m e past b so_far =
    sym (none_at xs ys m (slice_get_past xs m past) b) ∙ ap (λ k. text_cmp (drop k xs) (drop k ys)) (sym e) ∙ so_far

pub past_less : (xs ys : List ℕ) (n m y : ℕ) → n ≡ m → length xs ≤ m → slice_get ys m ≡ Some y → text_cmp (drop n xs) (drop n ys) ≡ text_cmp xs ys → Less ≡ text_cmp xs ys
past_less xs ys n m y e past b so_far =
    sym (second_alone xs ys m y (slice_get_past xs m past) b) ∙ ap (λ k. text_cmp (drop k xs) (drop k ys)) (sym e) ∙ so_far
