-- How DATA deals its values: the k-th value goes to the k-th unit of the targets.
use Rattle.std.proofs.Common.{◌≡◌, ℕ, zero, suc, ◌+◌, ◌-◌, ◌<◌, ◌≤◌, Bool, true, false, List, [], ◌∷◌, ◌++◌, Option, ◌⊎◌, inl, inr, refl, sym, ap, ◌∙◌, subst, arith, append_assoc}
use Rattle.std.specs.Prelude.{if◌then◌else◌, nat_eq, nat_le, flat_map}
use Rattle.std.proofs.lemmas.Bool.{eqb-true, leb-true, leb-false}
use Rattle.f77_ast.specs.declared.constant.Constant.{Constant}
use Rattle.storage_data.specs.declared.targets.Target.{Target}
use Rattle.storage_data.specs.declared.targets.Target.TheVariants.{Excluded, Open, Covers}
use Rattle.storage_data.specs.declared.values.Run.{Run}
use Rattle.storage_data.specs.declared.deals.Piece.{Piece}
use Rattle.storage_data.specs.Initials.{count_of, units_in, values_in, Dealt, with_piece, piece_of, taken, taken_for, dealt}

-- a unit of the name at a place
pub record Slot : Type 0 where
  pub place : ℕ
  pub unit : ℕ

abbrev pub slots_from : ℕ → ℕ → ℕ → List Slot
slots_from place k zero = []
slots_from place k (suc n) = record { place = place; unit = k } ∷ slots_from place (suc k) n

abbrev pub slots_of : Target → List Slot
slots_of Excluded = []
slots_of Open = []
slots_of (Covers place k n) = slots_from place k n

abbrev pub slots : List Target → List Slot
slots cs = flat_map slots_of cs

abbrev pub copies : ℕ → Option Constant → List (Option Constant)
copies zero v = []
copies (suc n) v = v ∷ copies n v

abbrev pub values : List Run → List (Option Constant)
values rs = flat_map (λ r. copies r.count r.value) rs

-- some piece gives a unit a value
abbrev pub PieceFits : Piece → Slot → Option Constant → Type 0
PieceFits p s v = (p.place ≡ s.place) × (p.value ≡ v) × (p.offset ≤ s.unit) × (s.unit < p.offset + p.count)

abbrev pub SomeFits : List Piece → Slot → Option Constant → Type 0
SomeFits [] s v = ⊥
SomeFits (p ∷ ps) s v = PieceFits p s v ⊎ SomeFits ps s v

-- units and values go one with one
abbrev pub AllFit : List Piece → List Slot → List (Option Constant) → Type 0
AllFit ps [] [] = Unit {0}
AllFit ps [] (v ∷ vs) = ⊥
AllFit ps (s ∷ ss) [] = ⊥
AllFit ps (s ∷ ss) (v ∷ vs) = SomeFits ps s v × AllFit ps ss vs

-- ---- more pieces

fits_left : (ps qs : List Piece) (s : Slot) (v : Option Constant) → SomeFits ps s v → SomeFits (ps ++ qs) s v
fits_left [] qs s v h = absurd h
fits_left (p ∷ ps) qs s v (inl h) = inl h
fits_left (p ∷ ps) qs s v (inr h) = inr (fits_left ps qs s v h)

fits_right : (ps qs : List Piece) (s : Slot) (v : Option Constant) → SomeFits qs s v → SomeFits (ps ++ qs) s v
fits_right [] qs s v h = h
fits_right (p ∷ ps) qs s v h = inr (fits_right ps qs s v h)

all_more : (ps qs : List Piece) → ((s : Slot) (v : Option Constant) → SomeFits ps s v → SomeFits qs s v) → (ss : List Slot) (vs : List (Option Constant)) → AllFit ps ss vs → AllFit qs ss vs
all_more ps qs f [] [] h = tt
all_more ps qs f [] (v ∷ vs) h = absurd h
all_more ps qs f (s ∷ ss) [] h = absurd h
all_more ps qs f (s ∷ ss) (v ∷ vs) h = (f s v h.0, all_more ps qs f ss vs h.1)

pub all_left : (ps qs : List Piece) (ss : List Slot) (vs : List (Option Constant)) → AllFit ps ss vs → AllFit (ps ++ qs) ss vs
all_left ps qs ss vs h = all_more ps (ps ++ qs) (λ s v k. fits_left ps qs s v k) ss vs h

pub all_right : (ps qs : List Piece) (ss : List Slot) (vs : List (Option Constant)) → AllFit qs ss vs → AllFit (ps ++ qs) ss vs
all_right ps qs ss vs h = all_more qs (ps ++ qs) (λ s v k. fits_right ps qs s v k) ss vs h

all_joined : (ps : List Piece) (ss ts : List Slot) (vs ws : List (Option Constant)) → AllFit ps ss vs → AllFit ps ts ws → AllFit ps (ss ++ ts) (vs ++ ws)
all_joined ps [] ts [] ws h k = k
all_joined ps [] ts (v ∷ vs) ws h k = absurd h
all_joined ps (s ∷ ss) ts [] ws h k = absurd h
all_joined ps (s ∷ ss) ts (v ∷ vs) ws h k = (h.0, all_joined ps ss ts vs ws h.1 k)

-- ---- one piece

-- so many units of a piece from one on
piece_fits : (p : Piece) (qs : List Piece) (k n : ℕ) → p.offset ≤ k → k + n ≤ p.offset + p.count → AllFit (p ∷ qs) (slots_from p.place k n) (copies n p.value)
piece_fits p qs k zero low high = tt
piece_fits p qs k (suc n) low high = (inl (refl, refl, low, omega (arith, high)), piece_fits p qs (suc k) n (omega (arith, low)) (omega (arith, high)))

slots_split : (place k m n : ℕ) → slots_from place k (m + n) ≡ slots_from place k m ++ slots_from place (k + m) n
slots_split place k zero n = let none : 0 + n ≡ n = omega arith in let same : k ≡ k + 0 = omega arith in ap (slots_from place k) none ∙ ap (λ z. slots_from place z n) same
slots_split place k (suc m) n =
    let more : suc m + n ≡ suc (m + n) = omega arith in
    let next : suc k + m ≡ k + suc m = omega arith in
    ap (slots_from place k) more ∙ ap (λ z. record { place = place; unit = k } ∷ z) (slots_split place (suc k) m n ∙ ap (λ z. slots_from place (suc k) m ++ slots_from place z n) next)

copies_split : (m n : ℕ) (v : Option Constant) → copies (m + n) v ≡ copies m v ++ copies n v
copies_split zero n v = let none : 0 + n ≡ n = omega arith in ap (λ z. copies z v) none
copies_split (suc m) n v = let more : suc m + n ≡ suc (m + n) = omega arith in ap (λ z. copies z v) more ∙ ap (λ z. v ∷ z) (copies_split m n v)

-- ---- the values of a target

-- the values that are taken, one for each of so many units, and those that are left
pub record Taking (ps : List Piece) (ss : List Slot) (rs left : List Run) : Type 0 where
  pub front : List (Option Constant)
  pub are : values rs ≡ front ++ values left
  pub fit : AllFit ps ss front

taken_fits : (rs : List Run) (place k n : ℕ) → n ≤ values_in rs → Taking (taken place k n rs).pieces (slots_from place k n) rs (taken place k n rs).rest
taken_fits [] place k zero h = record { front = []; are = refl; fit = tt }
taken_fits [] place k (suc n) h = absurd (omega (arith, h))
taken_fits (r ∷ rs) place k n h = go (nat_eq n 0) refl (nat_le r.count n) refl (λ q. taken_fits rs place (k + r.count) (n - r.count) q)
  where
    go : (b : Bool) → nat_eq n 0 ≡ b → (c : Bool) → nat_le r.count n ≡ c → (n - r.count ≤ values_in rs → Taking (taken place (k + r.count) (n - r.count) rs).pieces (slots_from place (k + r.count) (n - r.count)) rs (taken place (k + r.count) (n - r.count) rs).rest) →
        (let d : Dealt = if b then record { pieces = []; rest = r ∷ rs } else if c then with_piece (piece_of place k r.count r) (taken place (k + r.count) (n - r.count) rs) else record { pieces = piece_of place k n r ∷ []; rest = record { count = r.count - n; value = r.value } ∷ rs } in Taking d.pieces (slots_from place k n) (r ∷ rs) d.rest)
    go true e c q ih = record { front = []; are = refl; fit = subst (λ z. AllFit [] (slots_from place k z) []) (sym (eqb-true n 0 e)) tt }
    go false e true q ih =
        let less = leb-true r.count n q in
        let rest = ih (omega (arith, less, h)) in
        let p : Piece = piece_of place k r.count r in
        let ps = (taken place (k + r.count) (n - r.count) rs).pieces in
        let sum : r.count + (n - r.count) ≡ n = omega (arith, less) in
        let first = piece_fits p ps k r.count (omega arith) (omega arith) in
        let second = all_right (p ∷ []) ps (slots_from place (k + r.count) (n - r.count)) rest.front rest.fit in
        record {
          front = copies r.count r.value ++ rest.front;
          are = ap (λ z. copies r.count r.value ++ z) rest.are ∙ sym (append_assoc (copies r.count r.value) rest.front (values (taken place (k + r.count) (n - r.count) rs).rest));
          fit = subst (λ z. AllFit (p ∷ ps) z (copies r.count r.value ++ rest.front)) (sym (slots_split place k r.count (n - r.count)) ∙ ap (slots_from place k) sum) (all_joined (p ∷ ps) (slots_from place k r.count) (slots_from place (k + r.count) (n - r.count)) (copies r.count r.value) rest.front first second);
        }
    go false e false q ih =
        let more = leb-false r.count n q in
        let sum : n + (r.count - n) ≡ r.count = omega (arith, more) in
        record {
          front = copies n r.value;
          are = ap (λ z. z ++ values rs) (ap (λ z. copies z r.value) (sym sum) ∙ copies_split n (r.count - n) r.value) ∙ append_assoc (copies n r.value) (copies (r.count - n) r.value) (values rs);
          fit = piece_fits (piece_of place k n r) [] k n (omega arith) (omega arith);
        }

target_fits : (c : Target) (rs : List Run) → count_of c ≤ values_in rs → Taking (taken_for c rs).pieces (slots_of c) rs (taken_for c rs).rest
target_fits Excluded rs h = record { front = []; are = refl; fit = tt }
target_fits Open rs h = record { front = []; are = refl; fit = tt }
target_fits (Covers place k n) rs h = taken_fits rs place k n h

-- ---- as many values are left as were not taken

taken_left : (rs : List Run) (place k n : ℕ) → n ≤ values_in rs → n + values_in (taken place k n rs).rest ≡ values_in rs
taken_left [] place k zero h = refl
taken_left [] place k (suc n) h = absurd (omega (arith, h))
taken_left (r ∷ rs) place k n h = go (nat_eq n 0) refl (nat_le r.count n) refl (λ q. taken_left rs place (k + r.count) (n - r.count) q)
  where
    go : (b : Bool) → nat_eq n 0 ≡ b → (c : Bool) → nat_le r.count n ≡ c → (n - r.count ≤ values_in rs → (n - r.count) + values_in (taken place (k + r.count) (n - r.count) rs).rest ≡ values_in rs) →
        n + values_in (let d : Dealt = if b then record { pieces = []; rest = r ∷ rs } else if c then with_piece (piece_of place k r.count r) (taken place (k + r.count) (n - r.count) rs) else record { pieces = piece_of place k n r ∷ []; rest = record { count = r.count - n; value = r.value } ∷ rs } in d.rest) ≡ values_in (r ∷ rs)
    go true e c q ih = let none = eqb-true n 0 e in omega (arith, none)
    go false e true q ih = let less = leb-true r.count n q in let rest = ih (omega (arith, less, h)) in omega (arith, less, rest)
    go false e false q ih = let more = leb-false r.count n q in omega (arith, more)

target_left : (c : Target) (rs : List Run) → count_of c ≤ values_in rs → count_of c + values_in (taken_for c rs).rest ≡ values_in rs
target_left Excluded rs h = omega arith
target_left Open rs h = omega arith
target_left (Covers place k n) rs h = taken_left rs place k n h

-- ---- all targets

no_values : (rs : List Run) → values_in rs ≡ 0 → values rs ≡ []
no_values [] h = refl
no_values (r ∷ rs) h =
    let none : r.count ≡ 0 = omega (arith, h) in
    let rest : values_in rs ≡ 0 = omega (arith, h) in
    ap (λ z. copies z r.value ++ values rs) none ∙ no_values rs rest

-- where there are as many values as units
pub dealt_fits : (cs : List Target) (rs : List Run) → units_in cs ≡ values_in rs → AllFit (dealt cs rs) (slots cs) (values rs)
dealt_fits [] rs h = subst (AllFit [] []) (sym (no_values rs (sym h))) tt
dealt_fits (c ∷ cs) rs h =
    let enough : count_of c ≤ values_in rs = omega (arith, h) in
    let first = target_fits c rs enough in
    let left = target_left c rs enough in
    let rest = dealt_fits cs (taken_for c rs).rest (omega (arith, h, left)) in
    let ps = (taken_for c rs).pieces in
    let qs = dealt cs (taken_for c rs).rest in
    subst (AllFit (ps ++ qs) (slots_of c ++ slots cs)) (sym first.are)
    (all_joined (ps ++ qs) (slots_of c) (slots cs) first.front (values (taken_for c rs).rest) (all_left ps qs (slots_of c) first.front first.fit) (all_right ps qs (slots cs) (values (taken_for c rs).rest) rest))
