-- Places of elements, as sums, and the subscripts of an element by its number (ANSI X3.9-1978 §5.4.3).
use Rattle.std.proofs.Common.{◌≡◌, ℕ, zero, suc, ◌+◌, ◌*◌, ◌<◌, ◌≤◌, ◌/◌, ◌%◌, List, [], ◌∷◌, length, Option, Some, None, Bool, true, false, ◌&&◌, refl, sym, ap, ap₂, ◌∙◌, subst, arith, ℤ, pos, negsuc, neg_ℤ, ◌+ℤ◌, ◌-ℤ◌, ◌*ℤ◌, ◌≤ℤ◌, nat_lt, nat_eq}
use Rattle.std.specs.Prelude.{if◌then◌else◌, option_map}
use Rattle.std.proofs.lemmas.Int.{ints}
use Rattle.std.proofs.lemmas.Bool.{and_parts}
use Rattle.std.proofs.lemmas.Bool.Decides.{nat_tests}
use Rattle.std.proofs.Math.Nat.{mul-le-mul_left}
use native.Mathlib.Nat.{div-add-mod', mod-lt}
use Rattle.f77_ast.specs.Places.{Dim, Place, as_count, size_from, dim_size, total_size, at_most, dim_has, in_column, position, within}
use Rattle.f77_ast.specs.Calls.{ends_open, is_open}
use Rattle.region_translation.specs.Claims.{listed_from, elements_of, IsClosed, LastMayBeOpen}
use Rattle.f77_ast.proofs.Shared.{counted}
use Rattle.fx_lists.proofs.Numbers.{at_most_true as le_true, at_most_is}
use Rattle.fx_lists.proofs.Options.{some_is}

-- ---- places of elements, by their subscripts from the k-th on

abbrev pub place_in : List Dim → ℕ → (ℕ → ℤ) → Option ℕ
place_in [] k phi = Some 0
place_in (d ∷ ds) k phi = if dim_has d (phi k) then in_column d (phi k) (place_in ds (suc k) phi) else None

abbrev pub unit_in : Place → Option ℕ → Option ℕ
unit_in p o = option_map (λ j. p.first + j) (within p o)

position_is : (ds : List Dim) (k : ℕ) (phi : ℕ → ℤ) → position ds (listed_from k (length ds) phi) ≡ place_in ds k phi
position_is [] k phi = refl
position_is (d ∷ ds) k phi = ap (λ (o : Option ℕ). if dim_has d (phi k) then in_column d (phi k) o else None) (position_is ds (suc k) phi)

pub elements_are : (p : Place) (phi : ℕ → ℤ) → elements_of p phi ≡ unit_in p (place_in p.dims 1 phi)
elements_are p phi = ap (unit_in p) (position_is p.dims 1 phi)

-- ---- sums

abbrev pub lin : List Dim → ℕ → (ℕ → ℤ) → ℤ
lin [] k phi = pos 0
lin (d ∷ ds) k phi = (phi k -ℤ d.low) +ℤ (pos (dim_size d) *ℤ lin ds (suc k) phi)

abbrev pub BelowHigh : ℤ → Option ℤ → Type 0
BelowHigh n None = Unit {0}
BelowHigh n (Some h) = n ≤ℤ h

abbrev pub InDim : Dim → ℤ → Type 0
InDim d n = (d.low ≤ℤ n) × BelowHigh n d.high

abbrev pub InDims : List Dim → ℕ → (ℕ → ℤ) → Type 0
InDims [] k phi = Unit {0}
InDims (d ∷ ds) k phi = InDim d (phi k) × InDims ds (suc k) phi

abbrev pub InSize : Dim → ℤ → Type 0
InSize d n = (d.low ≤ℤ n) × (((n -ℤ d.low) +ℤ pos 1) ≤ℤ pos (dim_size d))

-- in all dimensions but the last
abbrev pub Leading : List Dim → ℕ → (ℕ → ℤ) → Type 0
Leading [] k phi = Unit {0}
Leading (d ∷ []) k phi = Unit {0}
Leading (d ∷ (e ∷ ds)) k phi = InSize d (phi k) × Leading (e ∷ ds) (suc k) phi

-- each dimension but the last has an element
abbrev pub Filled : List Dim → Type 0
Filled [] = Unit {0}
Filled (d ∷ []) = Unit {0}
Filled (d ∷ (e ∷ ds)) = (0 < dim_size d) × Filled (e ∷ ds)

-- the element of a number is within the bounds
abbrev pub Within : List Dim → ℕ → Type 0
Within [] n = n < 1
Within (d ∷ []) n = BelowHigh (d.low +ℤ pos n) d.high
Within (d ∷ (e ∷ ds)) n = (m : ℕ) → dim_size d * m ≤ n → Within (e ∷ ds) m

pub none_some : {A : Type 0} (a : A) → None ≡ Some a → ⊥
none_some a q = grind arith

high_true : (n : ℤ) (h : Option ℤ) → at_most n h ≡ true → BelowHigh n h
high_true n None e = tt
high_true n (Some h) e = le_true n h e

true_high : (n : ℤ) (h : Option ℤ) → BelowHigh n h → at_most n h ≡ true
true_high n None e = refl
true_high n (Some h) e = at_most_is n h e

pub in_dim : (d : Dim) (n : ℤ) → dim_has d n ≡ true → InDim d n
in_dim d n e = let k = and_parts _ _ e in (le_true d.low n k.0, high_true n d.high k.1)

pub dim_in : (d : Dim) (n : ℤ) → InDim d n → dim_has d n ≡ true
dim_in d n i = ap₂ (λ x y. x && y) (at_most_is d.low n i.0) (true_high n d.high i.1)

offset : (d : Dim) (n : ℤ) → d.low ≤ℤ n → pos (as_count (n -ℤ d.low)) ≡ n -ℤ d.low
offset d n h = counted (n -ℤ d.low) (omega (arith, ints))

-- an element's place_in is the sum
pub record Placed_at (ds : List Dim) (k : ℕ) (phi : ℕ → ℤ) (n : ℕ) : Type 0 where
  pub bounds : InDims ds k phi
  pub sum : lin ds k phi ≡ pos n

column : (d : Dim) (z : ℤ) (n m : ℕ) (rest : ℤ) → d.low ≤ℤ z → rest ≡ pos m → as_count (z -ℤ d.low) + dim_size d * m ≡ n → (z -ℤ d.low) +ℤ (pos (dim_size d) *ℤ rest) ≡ pos n
column d z n m rest h e s =
    let a : pos (as_count (z -ℤ d.low)) ≡ z -ℤ d.low = offset d z h in
    let b : pos (dim_size d) *ℤ pos m ≡ pos (dim_size d * m) = refl in
    ap (λ i. (z -ℤ d.low) +ℤ (pos (dim_size d) *ℤ i)) e ∙ ap (λ i. (z -ℤ d.low) +ℤ i) b ∙ (λ i. sym a i +ℤ pos (dim_size d * m)) ∙ together (as_count (z -ℤ d.low)) (dim_size d * m) ∙ ap pos s
  where
    together : (a b : ℕ) → pos a +ℤ pos b ≡ pos (a + b)
    together a b = omega (arith, ints)

pub placed : (ds : List Dim) (k : ℕ) (phi : ℕ → ℤ) (n : ℕ) → place_in ds k phi ≡ Some n → Placed_at ds k phi n
placed [] k phi n e = record { bounds = tt; sum = ap pos (some_is 0 n e) }
placed (d ∷ ds) k phi n e = go (dim_has d (phi k)) refl e (place_in ds (suc k) phi) refl (placed ds (suc k) phi)
  where
    go : (b : Bool) → dim_has d (phi k) ≡ b → (if b then in_column d (phi k) (place_in ds (suc k) phi) else None) ≡ Some n → (w : Option ℕ) → place_in ds (suc k) phi ≡ w → ((m : ℕ) → place_in ds (suc k) phi ≡ Some m → Placed_at ds (suc k) phi m) → Placed_at (d ∷ ds) k phi n
    go false h q w f ih = absurd (none_some n q)
    go true h q None f ih = absurd (none_some n (sym (ap (in_column d (phi k)) f) ∙ q))
    go true h q (Some m) f ih =
        let i = in_dim d (phi k) h in
        let p = ih m f in
        let s = some_is _ n (sym (ap (in_column d (phi k)) f) ∙ q) in
        record { bounds = (i, p.bounds); sum = column d (phi k) n m (lin ds (suc k) phi) i.0 p.sum s }

-- ---- and the other way

-- a sum that is no negative number has no negative rest, where the first part is below the size
record Rest (off n size : ℕ) (rest : ℤ) : Type 0 where
  m : ℕ
  is : rest ≡ pos m
  whole : off + size * m ≡ n

rest_of : (off n size : ℕ) (rest : ℤ) → off < size → pos off +ℤ (pos size *ℤ rest) ≡ pos n → Rest off n size rest
rest_of off n size (pos m) l e =
    let b : pos size *ℤ pos m ≡ pos (size * m) = refl in
    record { m = m; is = refl; whole = omega (arith, ints) }
rest_of off n size (negsuc j) l e =
    let b : pos size *ℤ negsuc j ≡ neg_ℤ (pos (size * suc j)) = neg_of size j in
    let c : size * suc j ≡ size * j + size = omega arith in
    absurd (omega (arith, ints))
  where
    neg_of : (size j : ℕ) → pos size *ℤ negsuc j ≡ neg_ℤ (pos (size * suc j))
    neg_of size j = omega (arith, ints)

bounded_size : (low z : ℤ) (h : Option ℤ) → IsClosed h → low ≤ℤ z → BelowHigh z h → ((z -ℤ low) +ℤ pos 1) ≤ℤ pos (size_from low h)
bounded_size low z None i l b = absurd i
bounded_size low z (Some h) i l b = let k = counted ((h -ℤ low) +ℤ pos 1) (omega (arith, ints)) in omega (arith, ints, k)

sized_high : (low z : ℤ) (h : Option ℤ) → low ≤ℤ z → ((z -ℤ low) +ℤ pos 1) ≤ℤ pos (size_from low h) → IsClosed h → BelowHigh z h
sized_high low z None l b i = tt
sized_high low z (Some h) l b i = go ((h -ℤ low) +ℤ pos 1) refl b
  where
    go : (w : ℤ) → (h -ℤ low) +ℤ pos 1 ≡ w → ((z -ℤ low) +ℤ pos 1) ≤ℤ pos (as_count w) → z ≤ℤ h
    go (pos n) e k = omega (arith, ints)
    go (negsuc n) e k = absurd (omega (arith, ints))

pub leading : (ds : List Dim) (k : ℕ) (phi : ℕ → ℤ) → LastMayBeOpen ds → InDims ds k phi → Leading ds k phi
leading [] k phi b i = tt
leading (d ∷ []) k phi b i = tt
leading (d ∷ (e ∷ ds)) k phi b i = ((i.0.0, bounded_size d.low (phi k) d.high b.0 i.0.0 i.0.1), leading (e ∷ ds) (suc k) phi b.1 i.1)

pub located : (ds : List Dim) (k : ℕ) (phi : ℕ → ℤ) (n : ℕ) → LastMayBeOpen ds → Leading ds k phi → Within ds n → lin ds k phi ≡ pos n → place_in ds k phi ≡ Some n
located [] k phi n b l w e = ap Some (zero_is n e)
  where
    zero_is : (n : ℕ) → pos 0 ≡ pos n → 0 ≡ n
    zero_is n e = omega (arith, ints)
located (d ∷ []) k phi n b l w e =
    let z : pos (dim_size d) *ℤ pos 0 ≡ pos (dim_size d * 0) = refl in
    let y : dim_size d * 0 ≡ 0 = omega arith in
    let h : phi k ≡ d.low +ℤ pos n = omega (arith, ints) in
    let i : InDim d (phi k) = (omega (arith, ints), subst (λ x. BelowHigh x d.high) (sym h) w) in
    let c : as_count (phi k -ℤ d.low) + dim_size d * 0 ≡ n = let o = offset d (phi k) i.0 in omega (arith, ints, o) in
    (λ j. if dim_in d (phi k) i j then in_column d (phi k) (Some 0) else None) ∙ ap Some c
located (d ∷ (e ∷ ds)) k phi n b l w q =
    let o = offset d (phi k) l.0.0 in
    let small : as_count (phi k -ℤ d.low) < dim_size d = let s = l.0.1 in omega (arith, ints, o) in
    let r = rest_of (as_count (phi k -ℤ d.low)) n (dim_size d) (lin (e ∷ ds) (suc k) phi) small ((λ j. o j +ℤ (pos (dim_size d) *ℤ lin (e ∷ ds) (suc k) phi)) ∙ q) in
    let i : InDim d (phi k) = (l.0.0, sized_high d.low (phi k) d.high l.0.0 l.0.1 b.0) in
    let ih = located (e ∷ ds) (suc k) phi r.m b.1 l.1 (w r.m (let h = r.whole in omega arith)) r.is in
    (λ j. if dim_in d (phi k) i j then in_column d (phi k) (place_in (e ∷ ds) (suc k) phi) else None) ∙ ap (in_column d (phi k)) ih ∙ ap Some r.whole

-- ---- what an array holds at most

abbrev pub open_high : Option ℤ → Bool
open_high None = true
open_high (Some h) = false

abbrev last_open : List Dim → Bool
last_open [] = false
last_open (d ∷ []) = open_high d.high
last_open (d ∷ (e ∷ ds)) = last_open (e ∷ ds)

last_within : (low : ℤ) (h : Option ℤ) (n : ℕ) → (open_high h ≡ false → n < size_from low h * 1) → BelowHigh (low +ℤ pos n) h
last_within low None n s = tt
last_within low (Some h) n s = go ((h -ℤ low) +ℤ pos 1) refl (s refl)
  where
    go : (w : ℤ) → (h -ℤ low) +ℤ pos 1 ≡ w → n < as_count w * 1 → (low +ℤ pos n) ≤ℤ h
    go (pos m) e k = omega (arith, ints)
    go (negsuc m) e k = absurd (omega arith)

within_last : (ds : List Dim) (n : ℕ) → (last_open ds ≡ false → n < total_size ds) → Within ds n
within_last [] n s = s refl
within_last (d ∷ []) n s = last_within d.low d.high n s
within_last (d ∷ (e ∷ ds)) n s = λ m h. within_last (e ∷ ds) m (λ o. smaller (dim_size d) m (total_size (e ∷ ds)) h (s o))
  where
    smaller : (a m t : ℕ) → a * m ≤ n → n < a * t → m < t
    smaller a m t h k = go (nat_lt m t) refl
      where
        go : (b : Bool) → nat_lt m t ≡ b → m < t
        go true e = grind (arith, nat_tests)
        go false e = let l : t ≤ m = grind (arith, nat_tests) in let g : a * t ≤ a * m = mul-le-mul_left a l in absurd (omega arith)

open_is : (ds : List Dim) → LastMayBeOpen ds → is_open ds ≡ last_open ds
open_is [] l = refl
open_is (d ∷ []) l = one d.high
  where
    one : (h : Option ℤ) → ends_open h false ≡ open_high h
    one None = refl
    one (Some n) = refl
open_is (d ∷ (e ∷ ds)) l = one d.high l.0 ∙ open_is (e ∷ ds) l.1
  where
    one : (h : Option ℤ) → IsClosed h → ends_open h (is_open (e ∷ ds)) ≡ is_open (e ∷ ds)
    one None i = absurd i
    one (Some n) i = refl

pub within_total : (ds : List Dim) (n : ℕ) → LastMayBeOpen ds → (is_open ds ≡ false → n < total_size ds) → Within ds n
within_total ds n l s = within_last ds n (λ e. s (open_is ds l ∙ e))

-- an array with an element has one in each dimension
pub filled_of : (ds : List Dim) → 0 < total_size ds → Filled ds
filled_of [] h = tt
filled_of (d ∷ []) h = tt
filled_of (d ∷ (e ∷ ds)) h = (first (dim_size d) (total_size (e ∷ ds)) h, filled_of (e ∷ ds) (second (dim_size d) (total_size (e ∷ ds)) h))
  where
    first : (a b : ℕ) → 0 < a * b → 0 < a
    first zero b h = absurd (let z : zero * b ≡ 0 = omega arith in omega (arith, h, z))
    first (suc a) b h = omega arith

    second : (a b : ℕ) → 0 < a * b → 0 < b
    second a zero h = absurd (let z : a * zero ≡ 0 = omega arith in omega (arith, h, z))
    second a (suc b) h = omega arith

-- ---- subscripts of an element, by its number

abbrev pub digits : List Dim → ℕ → ℕ → ℕ → ℤ
digits [] k n j = pos 0
digits (d ∷ []) k n j = d.low +ℤ pos n
digits (d ∷ (e ∷ ds)) k n j = if nat_eq j k then d.low +ℤ pos (n % dim_size d) else digits (e ∷ ds) (suc k) (n / dim_size d) j

lin_same : (ds : List Dim) (k : ℕ) (phi psi : ℕ → ℤ) → ((j : ℕ) → k ≤ j → phi j ≡ psi j) → lin ds k phi ≡ lin ds k psi
lin_same [] k phi psi h = refl
lin_same (d ∷ ds) k phi psi h = ap₂ (λ a b. (a -ℤ d.low) +ℤ (pos (dim_size d) *ℤ b)) (h k (omega arith)) (lin_same ds (suc k) phi psi (λ j l. h j (omega arith)))

leading_same : (ds : List Dim) (k : ℕ) (phi psi : ℕ → ℤ) → ((j : ℕ) → k ≤ j → phi j ≡ psi j) → Leading ds k phi → Leading ds k psi
leading_same [] k phi psi h l = tt
leading_same (d ∷ []) k phi psi h l = tt
leading_same (d ∷ (e ∷ ds)) k phi psi h l = (subst (λ z. InSize d z) (h k (omega arith)) l.0, leading_same (e ∷ ds) (suc k) phi psi (λ j m. h j (omega arith)) l.1)

pub record Digits (ds : List Dim) (k n : ℕ) : Type 0 where
  pub leads : Leading ds k (digits ds k n)
  pub sum : lin ds k (digits ds k n) ≡ pos n

pub digits_are : (ds : List Dim) (k n : ℕ) → Filled ds → Within ds n → Digits ds k n
digits_are [] k n f w = record { leads = tt; sum = ap pos (zero_only n w) }
  where
    zero_only : (n : ℕ) → n < 1 → 0 ≡ n
    zero_only n w = omega arith
digits_are (d ∷ []) k n f w = record { leads = tt; sum = one d.low n (dim_size d) }
  where
    one : (low : ℤ) (n s : ℕ) → ((low +ℤ pos n) -ℤ low) +ℤ (pos s *ℤ pos 0) ≡ pos n
    one low n s = let z : pos s *ℤ pos 0 ≡ pos (s * 0) = refl in let y : s * 0 ≡ 0 = omega arith in omega (arith, ints)
digits_are (d ∷ (e ∷ ds)) k n f w =
    let s = dim_size d in
    let dm = div-add-mod' n s in
    let ml = mod-lt n f.0 in
    let ih = digits_are (e ∷ ds) (suc k) (n / s) f.1 (w (n / s) (let q : s * (n / s) ≡ n / s * s = omega arith in omega arith)) in
    let here : digits (d ∷ (e ∷ ds)) k n k ≡ d.low +ℤ pos (n % s) = ap (λ (b : Bool). if b then d.low +ℤ pos (n % s) else digits (e ∷ ds) (suc k) (n / s) k) (same_nat k) in
    record {
      leads = (subst (λ z. InSize d z) (sym here) (low_le d.low (n % s), size_le d.low (n % s) s ml), leading_same (e ∷ ds) (suc k) (digits (e ∷ ds) (suc k) (n / s)) (digits (d ∷ (e ∷ ds)) k n) later ih.leads);
      sum = (λ j. (here j -ℤ d.low) +ℤ (pos s *ℤ (lin_same (e ∷ ds) (suc k) (digits (d ∷ (e ∷ ds)) k n) (digits (e ∷ ds) (suc k) (n / s)) (λ i l. sym (later i l)) ∙ ih.sum) j)) ∙ total d.low n s dm;
    }
  where
    same_nat : (k : ℕ) → nat_eq k k ≡ true
    same_nat k = grind (arith, nat_tests)

    low_le : (low : ℤ) (m : ℕ) → low ≤ℤ (low +ℤ pos m)
    low_le low m = omega (arith, ints)

    size_le : (low : ℤ) (m s : ℕ) → m < s → (((low +ℤ pos m) -ℤ low) +ℤ pos 1) ≤ℤ pos s
    size_le low m s h = omega (arith, ints)

    total : (low : ℤ) (n s : ℕ) → n / s * s + n % s ≡ n → ((low +ℤ pos (n % s)) -ℤ low) +ℤ (pos s *ℤ pos (n / s)) ≡ pos n
    total low n s h = let z : pos s *ℤ pos (n / s) ≡ pos (s * (n / s)) = refl in let y : s * (n / s) ≡ n / s * s = omega arith in omega (arith, ints)

    later : (j : ℕ) → suc k ≤ j → digits (e ∷ ds) (suc k) (n / dim_size d) j ≡ digits (d ∷ (e ∷ ds)) k n j
    later j l = sym (ap (λ (b : Bool). if b then d.low +ℤ pos (n % dim_size d) else digits (e ∷ ds) (suc k) (n / dim_size d) j) (not_same j k l))
      where
        not_same : (j k : ℕ) → suc k ≤ j → nat_eq j k ≡ false
        not_same j k l = grind (arith, nat_tests)

-- subscripts that agree in the array's dimensions give the same element
abbrev pub Same_upto : List Dim → ℕ → (ℕ → ℤ) → (ℕ → ℤ) → Type 0
Same_upto [] k phi psi = Unit {0}
Same_upto (d ∷ ds) k phi psi = (phi k ≡ psi k) × Same_upto ds (suc k) phi psi

pub position_same : (ds : List Dim) (k : ℕ) (phi psi : ℕ → ℤ) → Same_upto ds k phi psi → place_in ds k phi ≡ place_in ds k psi
position_same [] k phi psi h = refl
position_same (d ∷ ds) k phi psi h = ap₂ (λ z w. if dim_has d z then in_column d z w else None) h.0 (position_same ds (suc k) phi psi h.1)
