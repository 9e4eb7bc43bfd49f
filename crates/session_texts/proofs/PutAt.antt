-- An element at a place of a list, or as the last.
use Rattle.std.proofs.Common.{◌≡◌, ℕ, zero, suc, ◌+◌, ◌<◌, ◌≤◌, List, [], ◌∷◌, ◌++◌, length, refl, sym, ap, arith}
use Rattle.std.specs.Prelude.{slice_set}
use Rattle.session_texts.specs.Places.{put_at}

pub put_at-within : {A : Type 0} (n : ℕ) (x : A) (ys : List A) → n < length ys → put_at n x ys ≡ slice_set ys n x
put_at-within n x [] h = absurd (omega arith)
put_at-within zero x (y ∷ ys) h = refl
put_at-within (suc n) x (y ∷ ys) h = ap (λ zs. y ∷ zs) (put_at-within n x ys (omega arith))

pub put_at-past : {A : Type 0} (n : ℕ) (x : A) (ys : List A) → length ys ≤ n → put_at n x ys ≡ ys ++ x ∷ []
put_at-past n x [] h = refl
put_at-past zero x (y ∷ ys) h = absurd (omega arith)
put_at-past (suc n) x (y ∷ ys) h = ap (λ zs. y ∷ zs) (put_at-past n x ys (omega arith))

pub ruleset put_steps = (put_at-within, put_at-past)
