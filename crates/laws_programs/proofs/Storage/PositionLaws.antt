-- Where an element of an array lies: before its end.
use Rattle.std.proofs.Common.{◌≡◌, ℕ, zero, suc, ◌+◌, ◌*◌, ◌<◌, ◌≤◌, Bool, true, false, ℤ, pos, negsuc, List, [], ◌∷◌, Option, Some, None, refl, sym, ap, ◌∙◌, subst, arith}
use Rattle.std.specs.Prelude.{if◌then◌else◌, ◌&&◌, ◌+ℤ◌, ◌-ℤ◌, ◌≤ℤ◌, int_le, int_lt}
use Rattle.std.proofs.lemmas.Int.{ints}
use Rattle.std.proofs.lemmas.Bool.{and_parts}
use Rattle.std.proofs.lemmas.Nat.{mul-add-lt}
use Rattle.f77_ast.specs.Places.{Dim, as_count, size_from, dim_size, total_size, at_most, dim_has, in_column, position}

-- each upper bound is known
abbrev pub Closed : List Dim → Type 0
Closed [] = Unit {0}
Closed (d ∷ ds) = ((h : ℤ) × (d.high ≡ Some h)) × Closed ds

count_below : (a b : ℤ) → pos 0 ≤ℤ a → a ≤ℤ b → as_count a < as_count (b +ℤ pos 1)
count_below (pos m) (pos n) h k = let less : m ≤ n = omega (arith, ints) in omega (arith, ints)
count_below (pos m) (negsuc n) h k = absurd (omega (arith, ints))
count_below (negsuc m) b h k = absurd (omega (arith, ints))

in_dim : (low high n : ℤ) → (int_le low n && int_le n high) ≡ true → as_count (n -ℤ low) < as_count ((high -ℤ low) +ℤ pos 1)
in_dim low high n e =
    let p = and_parts (int_le low n) (int_le n high) e in
    let a : int_le low n ≡ true = p.0 in
    let b : int_le n high ≡ true = p.1 in
    let from : low ≤ℤ n = grind (arith, ints) in
    let to : n ≤ℤ high = grind (arith, ints) in
    count_below (n -ℤ low) (high -ℤ low) (omega (arith, ints)) (omega (arith, ints))

dim_below : (d : Dim) (h n : ℤ) → d.high ≡ Some h → dim_has d n ≡ true → as_count (n -ℤ d.low) < dim_size d
dim_below d h n e t =
    let size : dim_size d ≡ as_count ((h -ℤ d.low) +ℤ pos 1) = ap (size_from d.low) e in
    subst (λ z. as_count (n -ℤ d.low) < z) (sym size) (in_dim d.low h n (ap (λ o. int_le d.low n && at_most n o) (sym e) ∙ t))

pub position_below : (ds : List Dim) (ns : List ℤ) (k : ℕ) → Closed ds → position ds ns ≡ Some k → k < total_size ds
position_below [] [] k c e = let same : 0 ≡ k = cc in omega (arith, same)
position_below [] (n ∷ ns) k c e = cc
position_below (d ∷ ds) [] k c e = cc
position_below (d ∷ ds) (n ∷ ns) k c e = go (dim_has d n) (position ds ns) refl e (λ j q. position_below ds ns j c.1 q)
  where
    go : (b : Bool) (o : Option ℕ) → dim_has d n ≡ b → (if b then in_column d n o else None) ≡ Some k → ((j : ℕ) → o ≡ Some j → j < total_size ds) → k < total_size (d ∷ ds)
    go true (Some j) t f ih =
        let same : as_count (n -ℤ d.low) + dim_size d * j ≡ k = cc in
        let first = dim_below d c.0.0 n c.0.1 t in
        let rest = ih j refl in
        let z : j * dim_size d + as_count (n -ℤ d.low) < dim_size d * total_size ds = mul-add-lt j (dim_size d) (as_count (n -ℤ d.low)) (total_size ds) rest first in
        omega (arith, z, same)
    go true None t f ih = cc
    go false o t f ih = cc
