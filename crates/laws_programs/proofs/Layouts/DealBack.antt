-- How DATA deals its values, back: each unit that a piece gives a value is one of the targets'.
use Rattle.std.proofs.Common.{◌≡◌, ℕ, zero, suc, ◌+◌, ◌-◌, ◌<◌, ◌≤◌, Bool, true, false, List, [], ◌∷◌, ◌++◌, Option, ◌⊎◌, inl, inr, refl, subst, arith}
use Rattle.std.specs.Prelude.{if◌then◌else◌, nat_eq, nat_le}
use Rattle.std.proofs.lemmas.Bool.{eqb-true, eqb-false, cases_lt, leb-true}
use Rattle.f77_ast.specs.declared.constant.Constant.{Constant}
use Rattle.storage_data.specs.declared.targets.Target.{Target}
use Rattle.storage_data.specs.declared.targets.Target.TheVariants.{Excluded, Open, Covers}
use Rattle.storage_data.specs.declared.values.Run.{Run}
use Rattle.storage_data.specs.declared.deals.Piece.{Piece}
use Rattle.storage_data.specs.Initials.{Dealt, with_piece, piece_of, taken, taken_for, dealt}
use Rattle.laws_programs.proofs.Layouts.DealLaws.{Slot, slots_from, slots_of, slots, SomeFits}

abbrev pub IsSlot : List Slot → ℕ → ℕ → Type 0
IsSlot [] place unit = ⊥
IsSlot (s ∷ ss) place unit = ((s.place ≡ place) × (s.unit ≡ unit)) ⊎ IsSlot ss place unit

slot_left : (ss ts : List Slot) (place unit : ℕ) → IsSlot ss place unit → IsSlot (ss ++ ts) place unit
slot_left [] ts place unit h = absurd h
slot_left (s ∷ ss) ts place unit (inl h) = inl h
slot_left (s ∷ ss) ts place unit (inr h) = inr (slot_left ss ts place unit h)

slot_right : (ss ts : List Slot) (place unit : ℕ) → IsSlot ts place unit → IsSlot (ss ++ ts) place unit
slot_right [] ts place unit h = h
slot_right (s ∷ ss) ts place unit h = inr (slot_right ss ts place unit h)

slot_from : (place k n unit : ℕ) → k ≤ unit → unit < k + n → IsSlot (slots_from place k n) place unit
slot_from place k zero unit low high = absurd (omega (arith, low, high))
slot_from place k (suc n) unit low high = go (nat_eq k unit) refl (λ q. slot_from place (suc k) n unit q (omega (arith, high)))
  where
    apart : (m : ℕ) → (k < m) ⊎ (m ≤ k) → nat_eq k m ≡ false → k ≤ m → suc k ≤ m
    apart m (inl l) e q = omega (arith, l)
    apart m (inr l) e q = let same : k ≡ m = omega (arith, l, q) in absurd (eqb-false k m e same)

    go : (b : Bool) → nat_eq k unit ≡ b → (suc k ≤ unit → IsSlot (slots_from place (suc k) n) place unit) → IsSlot (slots_from place k (suc n)) place unit
    go true e ih = inl (refl, eqb-true k unit e)
    go false e ih = inr (ih (apart unit (cases_lt k unit) e low))

pub fits_either : (ps qs : List Piece) (s : Slot) (v : Option Constant) → SomeFits (ps ++ qs) s v → SomeFits ps s v ⊎ SomeFits qs s v
fits_either [] qs s v h = inr h
fits_either (p ∷ ps) qs s v (inl h) = inl (inl h)
fits_either (p ∷ ps) qs s v (inr h) = elim (fits_either ps qs s v h) [ inl a ↦ inl (inr a) | inr b ↦ inr b ]

-- within the units of a target
pub record Within (place from n : ℕ) (s : Slot) : Type 0 where
  pub there : place ≡ s.place
  pub low : from ≤ s.unit
  pub high : s.unit < from + n

pub taken_within : (rs : List Run) (place k n : ℕ) (s : Slot) (v : Option Constant) → SomeFits (taken place k n rs).pieces s v → Within place k n s
taken_within [] place k n s v h = absurd h
taken_within (r ∷ rs) place k n s v h = go (nat_eq n 0) (nat_le r.count n) refl h (λ q. taken_within rs place (k + r.count) (n - r.count) s v q)
  where
    go : (b c : Bool) → nat_le r.count n ≡ c → SomeFits (let d : Dealt = if b then record { pieces = []; rest = r ∷ rs } else if c then with_piece (piece_of place k r.count r) (taken place (k + r.count) (n - r.count) rs) else record { pieces = piece_of place k n r ∷ []; rest = record { count = r.count - n; value = r.value } ∷ rs } in d.pieces) s v →
        (SomeFits (taken place (k + r.count) (n - r.count) rs).pieces s v → Within place (k + r.count) (n - r.count) s) → Within place k n s
    go true c q h ih = absurd h
    go false true q (inl a) ih = let less = leb-true r.count n q in let high = a.3 in record { there = a.0; low = a.2; high = omega (arith, less, high) }
    go false true q (inr b) ih = let less = leb-true r.count n q in let w = ih b in let low = w.low in let high = w.high in record { there = w.there; low = omega (arith, low); high = omega (arith, less, high) }
    go false false q (inl a) ih = record { there = a.0; low = a.2; high = a.3 }
    go false false q (inr b) ih = absurd b

-- what a piece gives a value is a unit of a target
pub dealt_slots : (cs : List Target) (rs : List Run) (s : Slot) (v : Option Constant) → SomeFits (dealt cs rs) s v → IsSlot (slots cs) s.place s.unit
dealt_slots [] rs s v h = absurd h
dealt_slots (c ∷ cs) rs s v h = go (fits_either (taken_for c rs).pieces (dealt cs (taken_for c rs).rest) s v h) (λ q. dealt_slots cs (taken_for c rs).rest s v q)
  where
    of_target : (c : Target) → SomeFits (taken_for c rs).pieces s v → IsSlot (slots_of c) s.place s.unit
    of_target Excluded h = absurd h
    of_target Open h = absurd h
    of_target (Covers place k n) h = let w = taken_within rs place k n s v h in subst (λ z. IsSlot (slots_from place k n) z s.unit) w.there (slot_from place k n s.unit w.low w.high)

    go : SomeFits (taken_for c rs).pieces s v ⊎ SomeFits (dealt cs (taken_for c rs).rest) s v → (SomeFits (dealt cs (taken_for c rs).rest) s v → IsSlot (slots cs) s.place s.unit) → IsSlot (slots (c ∷ cs)) s.place s.unit
    go (inl a) ih = slot_left (slots_of c) (slots cs) s.place s.unit (of_target c a)
    go (inr b) ih = slot_right (slots_of c) (slots cs) s.place s.unit (ih b)
