-- A list by its first element and the rest.
use Rattle.std.proofs.Common.{◌≡◌, ◌-◌, ◌<◌, ◌≤◌, List, [], ◌∷◌, length, take, drop, get_or, take_all, subst, arith}
use Rattle.base_values.specs.Naming.{Each}

pub each_rest : {A : Type 0} (P : A → Type 0) (xs : List A) (x : A) → 0 < length xs → x ≡ get_or xs 0 x → P x → Each P (take (length xs - 1) (drop 1 xs)) → Each P xs
each_rest P [] x l e p h = absurd (omega arith)
each_rest P (y ∷ ys) x l e p h = let n : length ys ≤ length (y ∷ ys) - 1 = omega arith in (subst P e p, subst (Each P) (take_all (length (y ∷ ys) - 1) ys n) h)
