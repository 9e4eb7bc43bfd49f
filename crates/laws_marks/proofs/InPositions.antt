-- Elements of an array have units of their own.
use Rattle.std.proofs.Common.{◌≡◌, ℕ, suc, ◌+◌, ◌*◌, ◌<◌, ◌≤◌, List, [], ◌∷◌, Option, Some, None, Bool, true, false, refl, sym, ap, ap₂, ◌∙◌, subst, arith, ℤ, pos, negsuc, ◌+ℤ◌, ◌-ℤ◌, ◌≤ℤ◌, nat_lt}
use Rattle.std.specs.Prelude.{if◌then◌else◌, int_le}
use Rattle.std.proofs.lemmas.Int.{ints}
use Rattle.std.proofs.lemmas.Bool.{and_parts}
use Rattle.std.proofs.lemmas.Bool.Decides.{nat_tests}
use Rattle.std.proofs.Math.Nat.{mul-le-mul_left}
use Rattle.f77_ast.specs.Places.{Dim, as_count, size_from, dim_size, at_most, dim_has, in_column, position}
use Rattle.laws_marks.specs.InDims.{OpenLast}
use Rattle.fx_lists.proofs.Options.{some_is}

count_is : (n low : ℤ) → low ≤ℤ n → n ≡ low +ℤ pos (as_count (n -ℤ low))
count_is n low h = go (n -ℤ low) refl
  where
    go : (z : ℤ) → n -ℤ low ≡ z → n ≡ low +ℤ pos (as_count z)
    go (pos k) e = omega (arith, ints)
    go (negsuc k) e = absurd (omega (arith, ints))

count_below : (n low high : ℤ) → low ≤ℤ n → n ≤ℤ high → as_count (n -ℤ low) < size_from low (Some high)
count_below n low high h g = go (n -ℤ low) refl ((high -ℤ low) +ℤ pos 1) refl
  where
    go : (z : ℤ) → n -ℤ low ≡ z → (w : ℤ) → (high -ℤ low) +ℤ pos 1 ≡ w → as_count z < as_count w
    go (pos k) e (pos j) f = omega (arith, ints, e, f, h, g)
    go (pos k) e (negsuc j) f = absurd (omega (arith, ints, e, f, h, g))
    go (negsuc k) e w f = absurd (omega (arith, ints, e, h))

-- a rest below the size, and how often the size is counted
split_once : (s a b k j : ℕ) → a < s → b < s → a + s * k ≡ b + s * j → (a ≡ b) × (k ≡ j)
split_once s a b k j la lb e = go (nat_lt k j) refl (nat_lt j k) refl
  where
    same : k ≡ j → (a ≡ b) × (k ≡ j)
    same q = (let m : s * k ≡ s * j = ap (λ z. s * z) q in (omega (arith, e, m), q))

    go : (x : Bool) → nat_lt k j ≡ x → (y : Bool) → nat_lt j k ≡ y → (a ≡ b) × (k ≡ j)
    go true p y q =
        let l : suc k ≤ j = grind (arith, nat_tests) in
        let m : s * suc k ≤ s * j = mul-le-mul_left s l in
        let n : s * suc k ≡ s * k + s = omega arith in
        absurd (omega (arith, e, m, n, la, lb))
    go false p true q =
        let l : suc j ≤ k = grind (arith, nat_tests) in
        let m : s * suc j ≤ s * k = mul-le-mul_left s l in
        let n : s * suc j ≡ s * j + s = omega arith in
        absurd (omega (arith, e, m, n, la, lb))
    go false p false q = same (grind (arith, nat_tests))

low_of : (d : Dim) (n : ℤ) → dim_has d n ≡ true → d.low ≤ℤ n
low_of d n h = let q = (and_parts (int_le d.low n) (at_most n d.high) h).0 in grind (arith, ints)

high_of : (d : Dim) (n high : ℤ) → d.high ≡ Some high → dim_has d n ≡ true → n ≤ℤ high
high_of d n high e h = let q : at_most n (Some high) ≡ true = ap (at_most n) (sym e) ∙ (and_parts (int_le d.low n) (at_most n d.high) h).1 in grind (arith, ints)

-- one of several, or the last one
column_once : (d : Dim) (ds : List Dim) → OpenLast (d ∷ ds) → (n m : ℤ) → dim_has d n ≡ true → dim_has d m ≡ true → (k j : ℕ) → (ds ≡ [] → (k ≡ 0) × (j ≡ 0)) → as_count (n -ℤ d.low) + dim_size d * k ≡ as_count (m -ℤ d.low) + dim_size d * j → (n ≡ m) × (k ≡ j)
column_once d [] o n m hn hm k j z e =
    let k0 = (z refl).0 in
    let j0 = (z refl).1 in
    let a : dim_size d * k ≡ 0 = ap (λ y. dim_size d * y) k0 ∙ omega arith in
    let b : dim_size d * j ≡ 0 = ap (λ y. dim_size d * y) j0 ∙ omega arith in
    let same : as_count (n -ℤ d.low) ≡ as_count (m -ℤ d.low) = omega (arith, e, a, b) in
    (count_is n d.low (low_of d n hn) ∙ (ap (λ y. d.low +ℤ pos y) same ∙ sym (count_is m d.low (low_of d m hm))), k0 ∙ sym j0)
column_once d (f ∷ ds) o n m hn hm k j z e =
    let high = o.0.0 in
    let is = o.0.1 in
    let size : dim_size d ≡ size_from d.low (Some high) = ap (size_from d.low) is in
    let ln : as_count (n -ℤ d.low) < dim_size d = subst (λ y. as_count (n -ℤ d.low) < y) (sym size) (count_below n d.low high (low_of d n hn) (high_of d n high is hn)) in
    let lm : as_count (m -ℤ d.low) < dim_size d = subst (λ y. as_count (m -ℤ d.low) < y) (sym size) (count_below m d.low high (low_of d m hm) (high_of d m high is hm)) in
    let r = split_once (dim_size d) (as_count (n -ℤ d.low)) (as_count (m -ℤ d.low)) k j ln lm e in
    (count_is n d.low (low_of d n hn) ∙ (ap (λ y. d.low +ℤ pos y) r.0 ∙ sym (count_is m d.low (low_of d m hm))), r.1)

none_left : (ds : List Dim) → ds ≡ [] → (ns : List ℤ) (k : ℕ) → position ds ns ≡ Some k → k ≡ 0
none_left [] q [] k e = sym (some_is 0 k e)
none_left [] q (n ∷ ns) k e = cc
none_left (d ∷ ds) q ns k e = cc

rest : (d : Dim) (ds : List Dim) → OpenLast (d ∷ ds) → OpenLast ds
rest d [] l = tt
rest d (y ∷ ys) l = l.1

pub position_once : (ds : List Dim) (ns ms : List ℤ) (o : ℕ) → OpenLast ds → position ds ns ≡ Some o → position ds ms ≡ Some o → ns ≡ ms
position_once [] [] [] o l e f = refl
position_once [] [] (m ∷ ms) o l e f = cc
position_once [] (n ∷ ns) ms o l e f = cc
position_once (d ∷ ds) [] ms o l e f = cc
position_once (d ∷ ds) (n ∷ ns) [] o l e f = cc
position_once (d ∷ ds) (n ∷ ns) (m ∷ ms) o l e f = go (dim_has d n) refl (dim_has d m) refl (position ds ns) refl (position ds ms) refl e f (λ k. position_once ds ns ms k (rest d ds l))
  where
    go : (a : Bool) → dim_has d n ≡ a → (b : Bool) → dim_has d m ≡ b → (p : Option ℕ) → position ds ns ≡ p → (q : Option ℕ) → position ds ms ≡ q → (if a then in_column d n p else None) ≡ Some o → (if b then in_column d m q else None) ≡ Some o → ((k : ℕ) → position ds ns ≡ Some k → position ds ms ≡ Some k → ns ≡ ms) → (n ∷ ns) ≡ (m ∷ ms)
    go false ha b hb p hp q hq e f ih = cc
    go true ha false hb p hp q hq e f ih = cc
    go true ha true hb None hp q hq e f ih = cc
    go true ha true hb (Some k) hp None hq e f ih = cc
    go true ha true hb (Some k) hp (Some j) hq e f ih =
        let one = some_is (as_count (n -ℤ d.low) + dim_size d * k) o e in
        let two = some_is (as_count (m -ℤ d.low) + dim_size d * j) o f in
        let r = column_once d ds l n m ha hb k j (λ z. (none_left ds z ns k hp, none_left ds z ms j hq)) (one ∙ sym two) in
        ap₂ (λ y ys. y ∷ ys) r.0 (ih k hp (hq ∙ ap Some (sym r.1)))
