-- Room for terms.
use Rattle.std.proofs.Common.{◌≡◌, ◌∙◌, ℕ, ◌≤◌, List, [], ◌++◌, length, length-append, drop, arith, ap, sym, ◌⊎◌, inl, inr, ℤ, drop_of_length-le, append-nil}
use Rattle.affine_systems.specs.declared.row.Term.{Term}
use Rattle.affine_systems.specs.Terms.{add_terms}
use Rattle.affine_systems.proofs.Merges.{rest_of}

-- the front of a list that has room
pub front_room : {X : Type 0} (xs ys zs : List X) (m n : ℕ) → xs ++ ys ≡ zs → length zs ≤ m → m ≤ n → length xs ≤ n
front_room xs ys zs m n e l k = omega (arith, length-append xs ys, ap length e, l, k)

-- a list that has room
pub whole_room : {X : Type 0} (xs zs : List X) (m n : ℕ) → xs ≡ zs → length zs ≤ m → m ≤ n → length xs ≤ n
whole_room xs zs m n e l k = omega (arith, ap length e, l, k)

-- what is left of the first list, once one of both is done
pub first_room : (out : List Term) (p : ℤ) (ts : List Term) (q : ℤ) (us goal : List Term) (i j m n : ℕ) → (length ts ≤ i) ⊎ (length us ≤ j) → out ++ rest_of p ts i q us j ≡ goal → length goal ≤ m → m ≤ n → length (out ++ add_terms p (drop i ts) []) ≤ n
first_room out p ts q us goal i j m n (inl l) h r s =
    let x : drop i ts ≡ [] = drop_of_length-le ts l in
    let y : length (out ++ add_terms p (drop i ts) []) ≡ length out = ap (λ vs. length (out ++ add_terms p vs [])) x ∙ ap length (append-nil out) in
    omega (arith, y, front_room out (rest_of p ts i q us j) goal m n h r s)
first_room out p ts q us goal i j m n (inr l) h r s =
    let y : drop j us ≡ [] = drop_of_length-le us l in
    whole_room (out ++ add_terms p (drop i ts) []) goal m n (ap (λ vs. out ++ add_terms p (drop i ts) (add_terms q vs [])) (sym y) ∙ h) r s
