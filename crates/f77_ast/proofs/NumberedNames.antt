-- Names and their numbers: a number is one of those that are given out, and belongs to one name.
use Rattle.std.proofs.Common.{◌≡◌, ℕ, suc, ◌+◌, ◌<◌, ◌≤◌, Bool, true, false, List, [], ◌∷◌, length, Some, refl, sym, ◌∙◌, arith}
use Rattle.std.specs.Prelude.{if◌then◌else◌, bytes_eq}
use Rattle.std.proofs.lemmas.Slice.Eq.{bytes_eq-Decides}
use Rattle.f77_ast.specs.Symbols.{number_from}

-- a number is at least the first one
pub number_from-least : (n k : ℕ) (ys : List (List ℕ)) (x : List ℕ) → number_from n ys x ≡ Some k → n ≤ k
number_from-least n k [] x e = cc
number_from-least n k (y ∷ ys) x e = go (bytes_eq x y) e (number_from-least (suc n) k ys x)
  where
    go : (b : Bool) → (if b then Some n else number_from (suc n) ys x) ≡ Some k → (number_from (suc n) ys x ≡ Some k → suc n ≤ k) → n ≤ k
    go true q ih = let same : n ≡ k = cc in omega arith
    go false q ih = omega (arith, ih q)

-- there are as many numbers as names
pub number_from-between : (n : ℕ) (ys : List (List ℕ)) (x : List ℕ) (k : ℕ) → number_from n ys x ≡ Some k → (n ≤ k) × (k < n + length ys)
number_from-between n [] x k e = cc
number_from-between n (y ∷ ys) x k e = go (bytes_eq x y) e (number_from-between (suc n) ys x k)
  where
    go : (b : Bool) → (if b then Some n else number_from (suc n) ys x) ≡ Some k → (number_from (suc n) ys x ≡ Some k → (suc n ≤ k) × (k < suc n + length ys)) → (n ≤ k) × (k < n + suc (length ys))
    go true q ih = let same : n ≡ k = cc in (omega (arith, same), omega (arith, same))
    go false q ih =
        let r = ih q in
        let least = r.0 in
        let most = r.1 in
        (omega (arith, least), omega (arith, most))

-- two names with one number are one
pub one_number : (n k : ℕ) (ys : List (List ℕ)) (x y : List ℕ) → number_from n ys x ≡ Some k → number_from n ys y ≡ Some k → x ≡ y
one_number n k [] x y e f = cc
one_number n k (z ∷ ys) x y e f = go (bytes_eq x z) (bytes_eq y z) refl refl e f (one_number (suc n) k ys x y)
  where
    go : (b c : Bool) → bytes_eq x z ≡ b → bytes_eq y z ≡ c → (if b then Some n else number_from (suc n) ys x) ≡ Some k → (if c then Some n else number_from (suc n) ys y) ≡ Some k → (number_from (suc n) ys x ≡ Some k → number_from (suc n) ys y ≡ Some k → x ≡ y) → x ≡ y
    go true true p q a b ih = (bytes_eq-Decides x z).0 p ∙ sym ((bytes_eq-Decides y z).0 q)
    go true false p q a b ih = let same : n ≡ k = cc in let low = number_from-least (suc n) k ys y b in absurd (omega (arith, same, low))
    go false true p q a b ih = let same : n ≡ k = cc in let low = number_from-least (suc n) k ys x a in absurd (omega (arith, same, low))
    go false false p q a b ih = ih a b
