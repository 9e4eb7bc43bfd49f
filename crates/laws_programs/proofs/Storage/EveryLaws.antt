-- What holds of each element of a list.
use Rattle.std.proofs.Common.{ℕ, zero, suc, Bool, true, false, List, [], ◌∷◌, take, drop, refl, ap, ◌∙◌}
use Rattle.std.specs.Prelude.{insert}
use Rattle.fx_lists.proofs.Every.{Every, every_joined}

every_taken : {A : Type 0} (P : A → Type 0) (n : ℕ) (xs : List A) → Every P xs → Every P (take n xs)
every_taken P zero xs h = tt
every_taken P (suc n) [] h = tt
every_taken P (suc n) (x ∷ xs) h = (h.0, every_taken P n xs h.1)

every_dropped : {A : Type 0} (P : A → Type 0) (n : ℕ) (xs : List A) → Every P xs → Every P (drop n xs)
every_dropped P zero xs h = h
every_dropped P (suc n) [] h = tt
every_dropped P (suc n) (x ∷ xs) h = every_dropped P n xs h.1

pub every_inserted : {A : Type 0} (P : A → Type 0) (xs : List A) (i : ℕ) (x : A) → Every P xs → P x → Every P (insert xs i x)
every_inserted P xs i x h p = every_joined P (take i xs) (x ∷ drop i xs) (every_taken P i xs h) (p, every_dropped P i xs h)
