-- Lists with an element changed or one more.
use Rattle.std.proofs.Common.{◌≡◌, ℕ, zero, suc, List, [], ◌∷◌, ◌++◌, length, slice_get, refl, ap}

pub more-other : {A : Type 0} (xs : List A) (k : ℕ) (s : A) → (length xs ≡ k → ⊥) → slice_get (xs ++ s ∷ []) k ≡ slice_get xs k
more-other [] zero s h = absurd (h refl)
more-other [] (suc k) s h = refl
more-other (y ∷ xs) zero s h = refl
more-other (y ∷ xs) (suc k) s h = more-other xs k s (λ e. h (ap suc e))
