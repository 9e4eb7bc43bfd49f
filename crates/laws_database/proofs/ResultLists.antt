-- What holds of each of some lists.
use Rattle.std.proofs.Common.{List, [], ◌∷◌}
use Rattle.std.specs.Prelude.{map}
use Rattle.call_graph.specs.CallsIn.{Each}
use Rattle.call_graph.proofs.EachLaws.{each_both}

pub each_mapped : {A B : Type 0} (P : B → Type 0) (h : A → B) (xs : List A) → Each P (map h xs) → Each (λ x. P (h x)) xs
each_mapped P h [] e = tt
each_mapped P h (x ∷ xs) e = (e.0, each_mapped P h xs e.1)

each_any : {A : Type 0} (xs : List A) → Each (λ x. Unit {0}) xs
each_any [] = tt
each_any (x ∷ xs) = (tt, each_any xs)

-- of each of two lists
pub each_turned : {A B : Type 0} (R : A → B → Type 0) (xs : List A) (ys : List B) → Each (λ x. Each (R x) ys) xs → Each (λ y. Each (λ x. R x y) xs) ys
each_turned R [] ys h = each_any ys
each_turned R (x ∷ xs) ys h = each_both (R x) (λ y. Each (λ z. R z y) xs) ys h.0 (each_turned R xs ys h.1)
