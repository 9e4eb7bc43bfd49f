-- The lowest offset of a group, one variable after another.
use Rattle.std.proofs.Common.{◌≡◌, ℕ, zero, suc, Bool, true, false, cond, ℤ, pos, ◌≤ℤ◌, List, [], ◌∷◌, Option, Some, None, ◌⊎◌, inl, inr, refl, sym, ap, ◌∙◌, subst, arith}
use Rattle.std.specs.Prelude.{slice_get, int_lt, unwrap_or, if◌then◌else◌}
use Rattle.std.specs.Int.{int_min}
use Rattle.std.proofs.lemmas.Bool.{eq-eqb}
use Rattle.std.proofs.lemmas.Int.{ints, clamps}
use Rattle.storage_data.specs.declared.offset_node.Home.{Home}
use Rattle.storage_data.specs.declared.offset_node.Home.TheVariants.{Block, Own}
use Rattle.storage_data.specs.declared.offset_node.OffsetNode.{OffsetNode}
use Rattle.storage_data.specs.OffsetNodes.{same_home, lower, with_low, lowest_from, lowest}
use Rattle.storage_data.specs.GroupLaws.{LowestIsLeast, LowestIsReached}
use Rattle.storage_data.proofs.BlockLaws.{same_home-refl as same}

-- ---- no variable begins before it

-- an offset that is no higher than this one
abbrev pub AtMost : Option ℤ → ℤ → Type 0
AtMost o n = (m : ℤ) × (o ≡ Some m) × (m ≤ℤ n)

lower_both : (low : Option ℤ) (n : ℤ) → lower low n ≤ℤ n
lower_both None n = omega (arith, ints)
lower_both (Some m) n = omega (arith, ints, clamps)

from_some : (ss : List OffsetNode) (low : ℤ) (h : Home) → AtMost (lowest_from (Some low) h ss) low
from_some [] low h = (low, refl, omega (arith, ints))
from_some (s ∷ ss) low h = go (same_home s.home h) (from_some ss (int_min low s.offset) h) (from_some ss low h)
  where
    go : (b : Bool) → AtMost (lowest_from (Some (int_min low s.offset)) h ss) (int_min low s.offset) → AtMost (lowest_from (Some low) h ss) low → AtMost (lowest_from (if b then Some (int_min low s.offset) else Some low) h ss) low
    go true r q = (r.0, r.1, omega (arith, ints, clamps))
    go false r q = q

at_most : (ss : List OffsetNode) (low : Option ℤ) (h : Home) (n : ℕ) (s : OffsetNode) → slice_get ss n ≡ Some s → same_home s.home h ≡ true → AtMost (lowest_from low h ss) s.offset
at_most [] low h zero s e t = cc
at_most [] low h (suc n) s e t = cc
at_most (r ∷ ss) low h zero s e t =
    let one : r ≡ s = cc in
    subst (λ (x : OffsetNode). AtMost (lowest_from low h (r ∷ ss)) x.offset) one (go (same_home r.home h) (ap (λ (x : OffsetNode). same_home x.home h) one) (from_some ss (lower low r.offset) h))
  where
    go : (b : Bool) → b ≡ same_home s.home h → AtMost (lowest_from (Some (lower low r.offset)) h ss) (lower low r.offset) → AtMost (lowest_from (if b then Some (lower low r.offset) else low) h ss) r.offset
    go true f q = let less = lower_both low r.offset in (q.0, q.1, omega (arith, ints))
    go false f q = cc
at_most (r ∷ ss) low h (suc n) s e t = at_most ss (with_low h low r) h n s e t

pub lowest_is_least : LowestIsLeast
lowest_is_least ss n s e =
    let r = at_most ss None s.home n s e (same s.home) in
    let is : lowest ss s.home ≡ r.0 = ap (λ o. unwrap_or o (pos 0)) r.1 in
    subst (λ (z : ℤ). z ≤ℤ s.offset) (sym is) r.2

-- ---- some one begins there

abbrev BeginsAt : List OffsetNode → Home → ℤ → Type 0
BeginsAt ss h m = (n : ℕ) × (t : OffsetNode) × (slice_get ss n ≡ Some t) × (same_home t.home h ≡ true) × (t.offset ≡ m)

later : (ss : List OffsetNode) (r : OffsetNode) (h : Home) (m : ℤ) → BeginsAt ss h m → BeginsAt (r ∷ ss) h m
later ss r h m (n, t, e, f, g) = (suc n, t, e, f, g)

which : (low : Option ℤ) (n : ℤ) → (Some (lower low n) ≡ low) ⊎ (lower low n ≡ n)
which None n = inr refl
which (Some m) n = go (int_lt n m)
  where
    go : (b : Bool) → (Some (cond b n m) ≡ Some m) ⊎ (cond b n m ≡ n)
    go true = inr refl
    go false = inl refl

reached_from : (ss : List OffsetNode) (low : Option ℤ) (h : Home) (m : ℤ) → lowest_from low h ss ≡ Some m → (low ≡ Some m) ⊎ BeginsAt ss h m
reached_from [] low h m e = inl e
reached_from (r ∷ ss) low h m e = go (same_home r.home h) refl (reached_from ss (with_low h low r) h m e)
  where
    here : (same_home r.home h ≡ true) → Some (lower low r.offset) ≡ Some m → (Some (lower low r.offset) ≡ low) ⊎ (lower low r.offset ≡ r.offset) → (low ≡ Some m) ⊎ BeginsAt (r ∷ ss) h m
    here t q (inl p) = inl (sym p ∙ q)
    here t q (inr p) = let there : r.offset ≡ m = cc in inr (zero, r, refl, t, there)

    go : (b : Bool) → same_home r.home h ≡ b → ((if b then Some (lower low r.offset) else low) ≡ Some m) ⊎ BeginsAt ss h m → (low ≡ Some m) ⊎ BeginsAt (r ∷ ss) h m
    go b t (inr q) = inr (later ss r h m q)
    go true t (inl q) = here t q (which low r.offset)
    go false t (inl q) = inl q

pub lowest_is_reached : LowestIsReached
lowest_is_reached ss n s e =
    let r = at_most ss None s.home n s e (same s.home) in
    let is : lowest ss s.home ≡ r.0 = ap (λ o. unwrap_or o (pos 0)) r.1 in
    found (reached_from ss None s.home r.0 r.1) is
  where
    found : {m : ℤ} → (None ≡ Some m) ⊎ BeginsAt ss s.home m → lowest ss s.home ≡ m → BeginsAt ss s.home (lowest ss s.home)
    found (inl q) is = cc
    found (inr (k, t, a, b, c)) is = (k, t, a, b, c ∙ sym is)
