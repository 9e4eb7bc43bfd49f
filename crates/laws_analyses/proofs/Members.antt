-- What stands in a list.
use Rattle.std.proofs.Common.{◌≡◌, ◌⊎◌, inl, inr, List, [], ◌∷◌, ◌++◌, refl}

abbrev pub Member : {T : Type 0} → T → List T → Type 0
Member x [] = ⊥
Member x (y ∷ ys) = (x ≡ y) ⊎ Member x ys

pub member_more : {T : Type 0} (x y : T) (xs : List T) → Member x xs → Member x (xs ++ y ∷ [])
member_more x y [] h = absurd h
member_more x y (z ∷ xs) (inl e) = inl e
member_more x y (z ∷ xs) (inr h) = inr (member_more x y xs h)

pub member_last : {T : Type 0} (y : T) (xs : List T) → Member y (xs ++ y ∷ [])
member_last y [] = inl refl
member_last y (z ∷ xs) = inr (member_last y xs)

pub member_split : {T : Type 0} (x y : T) (xs : List T) → Member x (xs ++ y ∷ []) → Member x xs ⊎ (x ≡ y)
member_split x y [] (inl e) = inr e
member_split x y [] (inr h) = absurd h
member_split x y (z ∷ xs) (inl e) = inl (inl e)
member_split x y (z ∷ xs) (inr h) = behind (member_split x y xs h)
  where
    behind : Member x xs ⊎ (x ≡ y) → Member x (z ∷ xs) ⊎ (x ≡ y)
    behind (inl m) = inl (inr m)
    behind (inr e) = inr e
