-- Groups with their numbers.
use Rattle.std.proofs.Common.{◌≡◌, ℕ, ◌+◌, ◌||◌, Bool, true, false, nat_eq, cond, List, [], ◌∷◌, ◌++◌, Option, Some, None, refl, ap, ◌∙◌}
use Rattle.std.specs.Prelude.{if◌then◌else◌, is_some, position}
use Rattle.std.specs.List.{list_any, position_from}
use Rattle.std.proofs.lemmas.Iterator.Adapters.{position_from-zero}
use Rattle.indexmap.specs.IndexSet.{insert_key}
use Rattle.storage_layout.specs.Groups.{index_from, with_group}

abbrev one_more : Option ℕ → Option ℕ
one_more None = None
one_more (Some i) = Some (i + 1)

index_from-add : (n : ℕ) (gs : List ℕ) (h : ℕ) → one_more (position_from (nat_eq h) n gs) ≡ index_from (n + 1) gs h
index_from-add n [] h = refl
index_from-add n (g ∷ gs) h = go (nat_eq h g) (index_from-add (n + 1) gs h)
  where
    go : (b : Bool) → one_more (position_from (nat_eq h) (n + 1) gs) ≡ index_from ((n + 1) + 1) gs h → one_more (cond b (Some n) (position_from (nat_eq h) (n + 1) gs)) ≡ (if b then Some (n + 1) else index_from ((n + 1) + 1) gs h)
    go true e = refl
    go false e = e

-- a group has its place as its number, counted from 1
pub number-none : (gs : List ℕ) (h : ℕ) → None ≡ position (nat_eq h) gs → None ≡ index_from 1 gs h
number-none gs h e = ap one_more (e ∙ position_from-zero (nat_eq h) gs) ∙ index_from-add 0 gs h

pub number-some : (gs : List ℕ) (h i : ℕ) → Some i ≡ position (nat_eq h) gs → Some (i + 1) ≡ index_from 1 gs h
number-some gs h i e = ap one_more (e ∙ position_from-zero (nat_eq h) gs) ∙ index_from-add 0 gs h

is_some-index_from : (n : ℕ) (gs : List ℕ) (h : ℕ) → list_any (nat_eq h) gs ≡ is_some (index_from n gs h)
is_some-index_from n [] h = refl
is_some-index_from n (g ∷ gs) h = go (nat_eq h g) (is_some-index_from (n + 1) gs h)
  where
    go : (b : Bool) → list_any (nat_eq h) gs ≡ is_some (index_from (n + 1) gs h) → (b || list_any (nat_eq h) gs) ≡ is_some (if b then Some n else index_from (n + 1) gs h)
    go true e = refl
    go false e = e

-- a group that is inserted is there once
pub insert_key-groups : (gs : List ℕ) (h : ℕ) → insert_key nat_eq gs h ≡ with_group h gs
insert_key-groups gs h = ap (λ b. if b then gs else gs ++ h ∷ []) (is_some-index_from 1 gs h)
