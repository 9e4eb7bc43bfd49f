-- Which cells two lists have, one behind the other, and which of a list are not in another.
use Rattle.std.proofs.Common.{◌≡◌, ℕ, List, [], ◌∷◌, ◌++◌, ◌||◌, Bool, true, false, true≢false, refl, ◌⊎◌, inl, inr, nat_eq}
use Rattle.std.specs.Prelude.{if◌then◌else◌}
use Rattle.std.proofs.lemmas.Bool.{or_right}
use Rattle.transformer_algebra.specs.Cells.{has, others}
use Rattle.fx_lists.proofs.Booleans.{clash as clashes}

pub has_left : (as' bs : List ℕ) (c : ℕ) → has as' c ≡ true → has (as' ++ bs) c ≡ true
has_left [] bs c h = clashes false h refl
has_left (a ∷ as') bs c h = go (nat_eq a c) h (λ k. has_left as' bs c k)
  where
    go : (b : Bool) → (b || has as' c) ≡ true → (has as' c ≡ true → has (as' ++ bs) c ≡ true) → (b || has (as' ++ bs) c) ≡ true
    go true k ih = refl
    go false k ih = ih k

pub has_right : (as' bs : List ℕ) (c : ℕ) → has bs c ≡ true → has (as' ++ bs) c ≡ true
has_right [] bs c h = h
has_right (a ∷ as') bs c h = or_right (nat_eq a c) (has (as' ++ bs) c) (has_right as' bs c h)

pub has_either : (as' bs : List ℕ) (c : ℕ) → has (as' ++ bs) c ≡ true → (has as' c ≡ true) ⊎ (has bs c ≡ true)
has_either [] bs c h = inr h
has_either (a ∷ as') bs c h = go (nat_eq a c) h (λ k. has_either as' bs c k)
  where
    go : (b : Bool) → (b || has (as' ++ bs) c) ≡ true → (has (as' ++ bs) c ≡ true → (has as' c ≡ true) ⊎ (has bs c ≡ true)) → ((b || has as' c) ≡ true) ⊎ (has bs c ≡ true)
    go true k ih = inl refl
    go false k ih = ih k

pub has_parts : (ns ms : List ℕ) (n : ℕ) → has (ns ++ ms) n ≡ false → (has ns n ≡ false) × (has ms n ≡ false)
has_parts [] ms n h = (refl, h)
has_parts (a ∷ ns) ms n h = go (nat_eq a n) h (λ q. has_parts ns ms n q)
  where
    go : (b : Bool) → (b || has (ns ++ ms) n) ≡ false → (has (ns ++ ms) n ≡ false → (has ns n ≡ false) × (has ms n ≡ false)) → ((b || has ns n) ≡ false) × (has ms n ≡ false)
    go true q f = absurd (true≢false q)
    go false q f = f q

pub others_in : (ls ms : List ℕ) (l : ℕ) → has (others ls ms) l ≡ true → has ls l ≡ true
others_in [] ms l h = h
others_in (a ∷ ls) ms l h = go (has ms a) h (λ q. others_in ls ms l q)
  where
    split : (c : Bool) → (c || has (others ls ms) l) ≡ true → (has (others ls ms) l ≡ true → has ls l ≡ true) → (c || has ls l) ≡ true
    split true r ih = refl
    split false r ih = ih r

    go : (b : Bool) → has (if b then others ls ms else a ∷ others ls ms) l ≡ true → (has (others ls ms) l ≡ true → has ls l ≡ true) → (nat_eq a l || has ls l) ≡ true
    go true r ih = or_right (nat_eq a l) (has ls l) (ih r)
    go false r ih = split (nat_eq a l) r ih
