-- What is in a list: in two lists one behind the other, and what is found at a place.
use Rattle.std.proofs.Common.{◌≡◌, ℕ, zero, suc, List, [], ◌∷◌, ◌++◌, Some, subst}
use Rattle.std.specs.Prelude.{slice_get}
use Rattle.transformer_algebra.specs.Laws.{In, here, there}

pub in_left : {A : Type 0} (a : A) (as' bs : List A) → In a as' → In a (as' ++ bs)
in_left a [] bs i = elim i [ ]
in_left a (b ∷ as') bs here = here
in_left a (b ∷ as') bs (there i) = there (in_left a as' bs i)

pub in_right : {A : Type 0} (a : A) (as' bs : List A) → In a bs → In a (as' ++ bs)
in_right a [] bs i = i
in_right a (b ∷ as') bs i = there (in_right a as' bs i)

pub in_at : {A : Type 0} (xs : List A) (i : ℕ) (x : A) → slice_get xs i ≡ Some x → In x xs
in_at [] i x e = cc
in_at (y ∷ xs) zero x e = let same : y ≡ x = cc in subst (λ z. In z (y ∷ xs)) same here
in_at (y ∷ xs) (suc i) x e = there (in_at xs i x e)
