-- What holds of each element of a list.
use Rattle.std.proofs.Common.{◌≡◌, ℕ, zero, suc, List, [], ◌∷◌, ◌++◌, Some, arith, subst}
use Rattle.std.specs.Prelude.{All, slice_get}
use Rattle.call_graph.specs.CallsIn.{Each}

pub each_both : {T : Type 0} (P Q : T → Type 0) (xs : List T) → Each P xs → Each Q xs → Each (λ x. P x × Q x) xs
each_both P Q [] h k = tt
each_both P Q (x ∷ xs) h k = ((h.0, k.0), each_both P Q xs h.1 k.1)

pub each_more : {T : Type 0} (P Q : T → Type 0) (xs : List T) → ((x : T) → P x → Q x) → Each P xs → Each Q xs
each_more P Q [] f h = tt
each_more P Q (x ∷ xs) f h = (f x h.0, each_more P Q xs f h.1)

pub each_joined : {T : Type 0} (P : T → Type 0) (xs ys : List T) → Each P xs → Each P ys → Each P (xs ++ ys)
each_joined P [] ys h k = k
each_joined P (x ∷ xs) ys h k = (h.0, each_joined P xs ys h.1 k)

pub each_of_all : {T : Type 0} (P : T → Type 0) (xs : List T) → All P xs → Each P xs
each_of_all P [] h = tt
each_of_all P (x ∷ xs) h = (h zero x (omega arith), each_of_all P xs (λ k d lt. h (suc k) d (omega (arith, lt))))

pub each_place : {T : Type 0} (P : T → Type 0) (xs : List T) (i : ℕ) (x : T) → Each P xs → slice_get xs i ≡ Some x → P x
each_place P [] i x h e = cc
each_place P (y ∷ xs) zero x h e = let same : y ≡ x = cc in subst P same h.0
each_place P (y ∷ xs) (suc i) x h e = each_place P xs i x h.1 e
