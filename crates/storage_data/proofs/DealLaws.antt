-- Values that are given to units in order.
use Rattle.std.proofs.Common.{◌≡◌, ℕ, ◌+◌, ◌-◌, ◌<◌, ◌≤◌, Bool, true, false, nat_eq, List, [], ◌∷◌, ◌++◌, length, drop, get_or, reverse, refl, sym, ap, ◌∙◌, subst, arith, append_assoc, append-nil, cond}
use Rattle.std.specs.Prelude.{nat_le}
use Rattle.std.proofs.lemmas.Bool.{eq-eqb, ne_eqb}
use Rattle.std.proofs.lemmas.List.{at_drop_more, reverse-append, reverse-reverse}
use Rattle.storage_data.specs.declared.targets.Target.{Target}
use Rattle.storage_data.specs.declared.values.Run.{Run}
use Rattle.storage_data.specs.Initials.{dealt, piece_of, taken, taken_for, with_piece}

pub reverse_pop : {A : Type 0} (xs : List A) (x : A) → reverse (xs ++ x ∷ []) ≡ x ∷ reverse xs
reverse_pop xs x = reverse-append xs (x ∷ [])

pub taken_none : (place offset n : ℕ) (rs : List Run) → n ≡ 0 → taken place offset n rs ≡ record { pieces = []; rest = rs }
taken_none place offset n [] e = refl
taken_none place offset n (r ∷ rs) e = let t : nat_eq n 0 ≡ true = eq-eqb n 0 e in rw t

pub taken_some : (place offset n : ℕ) (r : Run) (rs : List Run) → 0 < n → n < r.count → taken place offset n (r ∷ rs) ≡ record { pieces = piece_of place offset n r ∷ []; rest = record { count = r.count - n; value = r.value } ∷ rs }
taken_some place offset n r rs more less =
    let t : nat_eq n 0 ≡ false = ne_eqb n 0 (λ z. omega arith) in
    let u : nat_le r.count n ≡ false = grind arith in
    rw (t, u)

pub taken_more : (place offset n : ℕ) (r : Run) (rs : List Run) → 0 < n → r.count ≤ n → taken place offset n (r ∷ rs) ≡ with_piece (piece_of place offset r.count r) (taken place (offset + r.count) (n - r.count) rs)
taken_more place offset n r rs more less =
    let t : nat_eq n 0 ≡ false = ne_eqb n 0 (λ z. omega arith) in
    let u : nat_le r.count n ≡ true = grind arith in
    rw (t, u)

pub dealt-drop : (cs : List Target) (rs : List Run) (i : ℕ) (d : Target) → i < length cs → dealt (drop i cs) rs ≡ (taken_for (get_or cs i d) rs).pieces ++ dealt (drop (i + 1) cs) (taken_for (get_or cs i d) rs).rest
dealt-drop cs rs i d h = at_drop_more (λ xs. dealt xs rs) cs i d h

pub ruleset deal_steps = (reverse_pop, reverse-reverse, taken_none, taken_some, taken_more, dealt-drop, append_assoc, append-nil)

pub ruleset turns = (reverse_pop, reverse-reverse)
