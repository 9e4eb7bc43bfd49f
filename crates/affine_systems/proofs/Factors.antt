-- Loops over the factors of a row.
use Rattle.std.proofs.Common.{◌≡◌, ℕ, zero, suc, ◌^◌, negsuc, ◌-ℤ◌, unsigned_abs, SFits, ◌+◌, ◌-◌, ◌<◌, ◌≤◌, int_lt, true, ◌&&◌, List, [], ◌∷◌, ◌++◌, take, drop, length-append, take-append-drop, set, length, get_or, drop-cons, drop_of_length-le, add-one, take_all, append-nil, ℤ, pos, neg_ℤ, arith, ap, ap₂, refl, sym, ◌∙◌}
use Rattle.std.specs.Int.{int_div_euclid, w128}
use Rattle.std.proofs.lemmas.Int.{ints}
use borrow.Author.Differences.{fits_in}
use Rattle.affine_systems.specs.declared.row.Term.{Term}
use Rattle.affine_systems.specs.Terms.{term, negated_terms}
use Rattle.affine_systems.specs.Normal.{divided, last_is_negative, is_small, are_small}
use Rattle.affine_systems.proofs.FitLaws.{small_is}
use Rattle.std.proofs.lemmas.List.Edits.{map_over_more}
use Rattle.std.proofs.lemmas.Bool.{and_parts}

pub divided_more : (g : ℕ) (xs ys : List Term) (i : ℕ) (x : Term) → i < length xs → ys ≡ divided g (take i xs) ++ drop i xs → x ≡ get_or ys i x → set ys i (term x.var (int_div_euclid x.factor (pos g))) ≡ divided g (take (i + 1) xs) ++ drop (i + 1) xs
divided_more g xs ys i x h e r = map_over_more (λ t. term t.var (int_div_euclid t.factor (pos g))) xs ys i x h e r

pub divided_all : (g : ℕ) (xs ys : List Term) (i : ℕ) → length xs ≤ i → ys ≡ divided g (take i xs) ++ drop i xs → ys ≡ divided g xs
divided_all g xs ys i h e = e ∙ (ap₂ (λ (a b : List Term). divided g a ++ b) (take_all i xs h) (drop_of_length-le xs h) ∙ append-nil (divided g xs))

pub ruleset divide_loop = (divided_more, divided_all)

pub negated_more : (xs ys : List Term) (i : ℕ) (x : Term) → i < length xs → ys ≡ negated_terms (take i xs) ++ drop i xs → x ≡ get_or ys i x → set ys i (term x.var (neg_ℤ x.factor)) ≡ negated_terms (take (i + 1) xs) ++ drop (i + 1) xs
negated_more xs ys i x h e r = map_over_more (λ t. term t.var (neg_ℤ t.factor)) xs ys i x h e r

pub negated_all : (xs ys : List Term) (i : ℕ) → length xs ≤ i → ys ≡ negated_terms (take i xs) ++ drop i xs → ys ≡ negated_terms xs
negated_all xs ys i h e = e ∙ (ap₂ (λ (a b : List Term). negated_terms a ++ b) (take_all i xs h) (drop_of_length-le xs h) ∙ append-nil (negated_terms xs))

pub ruleset negate_loop = (negated_more, negated_all)

pub last_at : (ts : List Term) (x : Term) → x ≡ get_or ts (length ts - 1) x → 0 < length ts → int_lt x.factor (pos 0) ≡ last_is_negative ts
last_at [] x e h = absurd (omega arith)
last_at (t ∷ []) x e h = ap (λ y. int_lt y.factor (pos 0)) e
last_at (t ∷ (u ∷ us)) x e h =
    let k : length (t ∷ u ∷ us) - 1 ≡ suc (length (u ∷ us) - 1) = omega arith in
    last_at (u ∷ us) x (e ∙ ap (λ n. get_or (t ∷ u ∷ us) n x) k) (omega arith)

-- what a loop that negates in place reads
pub negated_at : (xs ys : List Term) (i : ℕ) (d : Term) → i < length xs → ys ≡ negated_terms (take i xs) ++ drop i xs → get_or ys i d ≡ get_or xs i d
negated_at [] ys i d h e = absurd (omega arith)
negated_at (x ∷ xs) ys zero d h e = ap (λ zs. get_or zs zero d) e
negated_at (x ∷ xs) ys (suc i) d h e = ap (λ zs. get_or zs (suc i) d) e ∙ negated_at xs (negated_terms (take i xs) ++ drop i xs) i d (omega arith) refl

pub is_small_at : (ts : List Term) (i : ℕ) (d : Term) → are_small ts ≡ true → i < length ts → is_small (get_or ts i d).factor ≡ true
is_small_at [] i d e h = absurd (omega arith)
is_small_at (t ∷ ts) zero d e h = (and_parts (is_small t.factor) (are_small ts) e).0
is_small_at (t ∷ ts) (suc i) d e h = is_small_at ts i d (and_parts (is_small t.factor) (are_small ts) e).1 (omega arith)

pub negation_fits : (z : ℤ) → unsigned_abs z < 2 ^ 62 → SFits w128 (pos 0 -ℤ z)
negation_fits (pos n) h = fits_in w128 (pos 0 -ℤ pos n) (omega (arith, ints))
negation_fits (negsuc n) h = fits_in w128 (pos 0 -ℤ negsuc n) (omega (arith, ints))

pub are_small_divided-drop : (g : ℕ) (ts : List Term) (i : ℕ) (d : Term) → i < length ts → are_small (divided g (drop i ts)) ≡ (is_small (int_div_euclid (get_or ts i d).factor (pos g)) && are_small (divided g (drop (i + 1) ts)))
are_small_divided-drop g ts i d h = rw (add-one, drop-cons ts i d)

pub are_small_divided-all : (g : ℕ) (ts : List Term) (i : ℕ) → length ts ≤ i → are_small (divided g (drop i ts)) ≡ true
are_small_divided-all g ts i h = ap (λ us. are_small (divided g us)) (drop_of_length-le ts h)

pub ruleset are_small_divided_loop = (are_small_divided-drop, are_small_divided-all)

pub negation_small : (z : ℤ) → is_small z ≡ true → SFits w128 (pos 0 -ℤ z)
negation_small z e = negation_fits z (small_is z e)

-- the lists of these loops keep their length
length-halves : (xs us vs : List Term) (i : ℕ) → length us ≡ length vs → vs ≡ take i xs → length (us ++ drop i xs) ≡ length xs
length-halves xs us vs i e f =
    length-append us (drop i xs) ∙ (ap (λ n. n + length (drop i xs)) (e ∙ ap length f) ∙ (sym (length-append (take i xs) (drop i xs)) ∙ ap length (take-append-drop i xs)))

length-divided : (g : ℕ) (ts : List Term) → length (divided g ts) ≡ length ts
length-divided g [] = refl
length-divided g (t ∷ ts) = ap suc (length-divided g ts)

length-negated : (ts : List Term) → length (negated_terms ts) ≡ length ts
length-negated [] = refl
length-negated (t ∷ ts) = ap suc (length-negated ts)

pub divided_index : (g : ℕ) (xs ys : List Term) (i : ℕ) → ys ≡ divided g (take i xs) ++ drop i xs → i < length xs → i < length ys
divided_index g xs ys i e h =
    let l = ap length e ∙ length-halves xs (divided g (take i xs)) (take i xs) i (length-divided g (take i xs)) refl in
    omega (arith, l)

pub negated_index : (xs ys : List Term) (i : ℕ) → ys ≡ negated_terms (take i xs) ++ drop i xs → i < length xs → i < length ys
negated_index xs ys i e h =
    let l = ap length e ∙ length-halves xs (negated_terms (take i xs)) (take i xs) i (length-negated (take i xs)) refl in
    omega (arith, l)
