-- What holds of each element of a list, of the list that is read backwards, and of anything.
use Rattle.std.proofs.Common.{List, Some, [], reverse, subst, suc, sym, zero, ℕ, ◌++◌, ◌∷◌, ◌≡◌}
use Rattle.std.proofs.lemmas.List.{reverse-append}
use Rattle.std.specs.Prelude.{slice_get}

-- nothing is said of it
abbrev pub Anything : {A : Type 0} → A → Type 0
Anything a = Unit {0}

abbrev pub Every : {A : Type 0} → (A → Type 0) → List A → Type 0
Every P [] = Unit {0}
Every P (x ∷ xs) = P x × Every P xs

pub every_joined : {A : Type 0} (P : A → Type 0) (xs ys : List A) → Every P xs → Every P ys → Every P (xs ++ ys)
every_joined P [] ys h k = k
every_joined P (x ∷ xs) ys h k = (h.0, every_joined P xs ys h.1 k)

pub every_at : {A : Type 0} (P : A → Type 0) (xs : List A) (i : ℕ) (x : A) → Every P xs → slice_get xs i ≡ Some x → P x
every_at P [] i x h e = cc
every_at P (y ∷ xs) zero x h e = let same : y ≡ x = cc in subst P same h.0
every_at P (y ∷ xs) (suc i) x h e = every_at P xs i x h.1 e

pub every_turned : {A : Type 0} (P : A → Type 0) (xs : List A) → Every P xs → Every P (reverse xs)
every_turned P [] h = tt
every_turned P (x ∷ xs) h = subst (Every P) (sym (reverse-append (x ∷ []) xs)) (every_joined P (reverse xs) (x ∷ []) (every_turned P xs h.1) (h.0, tt))
