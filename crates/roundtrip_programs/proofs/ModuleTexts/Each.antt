-- What holds of each of a list.
use Rattle.std.proofs.Common.{List, [], ◌∷◌, ◌++◌}
use Rattle.roundtrip_programs.specs.Statements.Formed.{Each}

pub Each-append : {A : Type 0} (P : A → Type 0) (xs ys : List A) → Each P xs → Each P ys → Each P (xs ++ ys)
Each-append P [] ys h e = e
Each-append P (x ∷ xs) ys h e = record { first = h.first; others = Each-append P xs ys h.others e }

pub each-map : {A : Type 0} (P Q : A → Type 0) (xs : List A) → ((x : A) → P x → Q x) → Each P xs → Each Q xs
each-map P Q [] f h = tt
each-map P Q (x ∷ xs) f h = record { first = f x h.first; others = each-map P Q xs f h.others }
