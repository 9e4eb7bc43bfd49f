-- DATA gives a unit one value: its stretches of units do not meet.
use Rattle.std.proofs.Common.{◌≡◌, ℕ, ◌+◌, ◌-◌, Bool, true, false, ℤ, pos, ◌≤ℤ◌, ◌+ℤ◌, List, [], ◌∷◌, ◌++◌, Option, Some, ◌⊎◌, inl, inr, refl, sym, ap, ◌∙◌, subst, arith, append_assoc, append-nil}
use Rattle.std.specs.Prelude.{if◌then◌else◌, nat_eq, nat_le, ◌&&◌, ◌||◌, ◌<ℤ◌, int_lt, slice_get}
use Rattle.std.specs.List.{list_any}
use Rattle.std.proofs.lemmas.Bool.{or_parts, and_from}
use Rattle.std.proofs.lemmas.Int.{ints}
use Rattle.f77_ast.specs.declared.constant.Constant.{Constant}
use Rattle.storage_data.specs.declared.offset_node.OffsetNode.{OffsetNode}
use Rattle.storage_data.specs.OffsetNodes.{same_home}
use Rattle.storage_data.proofs.BlockLaws.{same_home-refl}
use Rattle.storage_data.specs.declared.targets.Target.{Target}
use Rattle.storage_data.specs.declared.targets.Target.TheVariants.{Excluded, Open, Covers}
use Rattle.storage_data.specs.declared.values.Run.{Run}
use Rattle.storage_data.specs.declared.deals.Piece.{Piece}
use Rattle.storage_data.specs.declared.stretches.Stretch.{Stretch}
use Rattle.storage_data.specs.Initials.{Dealt, with_piece, piece_of, taken, dealt, meets, stretch_at, stretches_of, meets_some, meet_twice}
use Rattle.laws_programs.proofs.Layouts.DealLaws.{Slot, PieceFits, SomeFits}
use Rattle.laws_programs.proofs.Layouts.DealBack.{taken_within, fits_either}

-- a unit has one value
abbrev pub Once : List Piece → Type 0
Once ps = (s : Slot) (v w : Option Constant) → SomeFits ps s v → SomeFits ps s w → v ≡ w

one_piece : (p : Piece) (s : Slot) (v w : Option Constant) → PieceFits p s v → PieceFits p s w → v ≡ w
one_piece p s v w h k = sym h.1 ∙ k.1

-- ---- the pieces of one target

taken_once : (rs : List Run) (place k n : ℕ) → Once (taken place k n rs).pieces
taken_once [] place k n s v w h i = absurd h
taken_once (r ∷ rs) place k n s v w h i = go (nat_eq n 0) (nat_le r.count n) h i (λ a b. taken_once rs place (k + r.count) (n - r.count) s v w a b)
  where
    apart : (u : Option Constant) (x : Option Constant) → PieceFits (piece_of place k r.count r) s u → SomeFits (taken place (k + r.count) (n - r.count) rs).pieces s x → ⊥
    apart u x a b = let z = taken_within rs place (k + r.count) (n - r.count) s x b in let low = z.low in let high = a.3 in omega (arith, low, high)

    go : (b c : Bool) → SomeFits (let d : Dealt = if b then record { pieces = []; rest = r ∷ rs } else if c then with_piece (piece_of place k r.count r) (taken place (k + r.count) (n - r.count) rs) else record { pieces = piece_of place k n r ∷ []; rest = record { count = r.count - n; value = r.value } ∷ rs } in d.pieces) s v →
        SomeFits (let d : Dealt = if b then record { pieces = []; rest = r ∷ rs } else if c then with_piece (piece_of place k r.count r) (taken place (k + r.count) (n - r.count) rs) else record { pieces = piece_of place k n r ∷ []; rest = record { count = r.count - n; value = r.value } ∷ rs } in d.pieces) s w →
        (SomeFits (taken place (k + r.count) (n - r.count) rs).pieces s v → SomeFits (taken place (k + r.count) (n - r.count) rs).pieces s w → v ≡ w) → v ≡ w
    go true c h i ih = absurd h
    go false true (inl a) (inl b) ih = one_piece (piece_of place k r.count r) s v w a b
    go false true (inl a) (inr b) ih = absurd (apart v w a b)
    go false true (inr a) (inl b) ih = absurd (apart w v b a)
    go false true (inr a) (inr b) ih = ih a b
    go false false (inl a) (inl b) ih = one_piece (piece_of place k n r) s v w a b
    go false false (inl a) (inr b) ih = absurd b
    go false false (inr a) i ih = absurd a

-- ---- stretches

-- a unit of an offset node lies in a stretch
abbrev Lies : OffsetNode → ℕ → Stretch → Type 0
Lies q u b = (b.home ≡ q.home) × (b.from ≤ℤ (q.offset +ℤ pos u)) × ((q.offset +ℤ pos u) <ℤ b.end)

abbrev SomeLies : OffsetNode → ℕ → List Stretch → Type 0
SomeLies q u [] = ⊥
SomeLies q u (b ∷ bs) = Lies q u b ⊎ SomeLies q u bs

lies_left : (q : OffsetNode) (u : ℕ) (bs cs : List Stretch) → SomeLies q u bs → SomeLies q u (bs ++ cs)
lies_left q u [] cs h = absurd h
lies_left q u (b ∷ bs) cs (inl h) = inl h
lies_left q u (b ∷ bs) cs (inr h) = inr (lies_left q u bs cs h)

lies_right : (q : OffsetNode) (u : ℕ) (bs cs : List Stretch) → SomeLies q u cs → SomeLies q u (bs ++ cs)
lies_right q u [] cs h = h
lies_right q u (b ∷ bs) cs h = inr (lies_right q u bs cs h)

lt_true : (a b : ℤ) → a <ℤ b → int_lt a b ≡ true
lt_true a b h = go (int_lt a b) refl
  where
    go : (c : Bool) → int_lt a b ≡ c → int_lt a b ≡ true
    go true e = e
    go false e = absurd (grind (arith, ints))

-- two stretches with one unit meet
lie_meet : (q : OffsetNode) (u : ℕ) (a b : Stretch) → Lies q u a → Lies q u b → meets a b ≡ true
lie_meet q u a b h k =
    let la = h.1 in
    let ha = h.2 in
    let lb = k.1 in
    let hb = k.2 in
    let same : same_home a.home b.home ≡ true = subst (λ z. same_home a.home z ≡ true) (h.0 ∙ sym k.0) (same_home-refl a.home) in
    and_from (same_home a.home b.home) (int_lt a.from b.end && int_lt b.from a.end) same
    (and_from (int_lt a.from b.end) (int_lt b.from a.end) (lt_true a.from b.end (omega (arith, ints, la, hb))) (lt_true b.from a.end (omega (arith, ints, lb, ha))))

some_meet : (q : OffsetNode) (u : ℕ) (a : Stretch) (bs : List Stretch) → Lies q u a → SomeLies q u bs → meets_some a bs ≡ true
some_meet q u a [] h k = absurd k
some_meet q u a (b ∷ bs) h (inl k) = ap (λ z. z || list_any (meets a) bs) (lie_meet q u a b h k)
some_meet q u a (b ∷ bs) h (inr k) = go (meets a b) (some_meet q u a bs h k)
  where
    go : (c : Bool) → meets_some a bs ≡ true → (c || list_any (meets a) bs) ≡ true
    go true e = refl
    go false e = e

-- ---- all targets

module _ (ss : List OffsetNode) where
  -- what has a value lies in a stretch
  abbrev pub Kept : List Piece → List Stretch → Type 0
  Kept ps bs = (s : Slot) (v : Option Constant) → SomeFits ps s v → (q : OffsetNode) × (slice_get ss s.place ≡ Some q) × SomeLies q s.unit bs

  pub record Alone (ps : List Piece) (bs : List Stretch) : Type 0 where
    pub once : Once ps
    pub kept : Kept ps bs

  -- a target has an offset node
  abbrev pub HasOffsetNode : Target → Type 0
  HasOffsetNode Excluded = Unit {0}
  HasOffsetNode Open = Unit {0}
  HasOffsetNode (Covers place k n) = (q : OffsetNode) × (slice_get ss place ≡ Some q)

  abbrev pub HaveOffsetNodes : List Target → Type 0
  HaveOffsetNodes [] = Unit {0}
  HaveOffsetNodes (c ∷ cs) = HasOffsetNode c × HaveOffsetNodes cs

  abbrev stretch : OffsetNode → ℕ → ℕ → Stretch
  stretch q k n = record { home = q.home; from = q.offset +ℤ pos k; end = (q.offset +ℤ pos k) +ℤ pos n }

  new_lies : (rs : List Run) (place k n : ℕ) (q : OffsetNode) (s : Slot) (v : Option Constant) → SomeFits (taken place k n rs).pieces s v → Lies q s.unit (stretch q k n)
  new_lies rs place k n q s v h =
      let z = taken_within rs place k n s v h in
      let low = z.low in
      let high = z.high in
      (refl, omega (arith, ints, low), omega (arith, ints, high))

  -- one target more, that meets none before it
  one_more : (ps : List Piece) (bs : List Stretch) (rs : List Run) (place k n : ℕ) (q : OffsetNode) → slice_get ss place ≡ Some q → meets_some (stretch q k n) bs ≡ false → Alone ps bs → Alone (ps ++ (taken place k n rs).pieces) (bs ++ stretch q k n ∷ [])
  one_more ps bs rs place k n q offset_node apart h = record {
    once = λ s v w a b. both s v w (fits_either ps (taken place k n rs).pieces s v a) (fits_either ps (taken place k n rs).pieces s w b);
    kept = λ s v a. there s v (fits_either ps (taken place k n rs).pieces s v a);
  }
    where
      clash : (s : Slot) (v w : Option Constant) → SomeFits ps s v → SomeFits (taken place k n rs).pieces s w → ⊥
      clash s v w a b =
          let old = h.kept s v a in
          let z = taken_within rs place k n s w b in
          let at : Some old.0 ≡ Some q = sym old.1 ∙ ap (slice_get ss) (sym z.there) ∙ offset_node in
          let same : old.0 ≡ q = cc in
          let meet = some_meet q s.unit (stretch q k n) bs (new_lies rs place k n q s w b) (subst (λ y. SomeLies y s.unit bs) same old.2) in
          let no : true ≡ false = sym meet ∙ apart in
          cc

      both : (s : Slot) (v w : Option Constant) → SomeFits ps s v ⊎ SomeFits (taken place k n rs).pieces s v → SomeFits ps s w ⊎ SomeFits (taken place k n rs).pieces s w → v ≡ w
      both s v w (inl a) (inl b) = h.once s v w a b
      both s v w (inl a) (inr b) = absurd (clash s v w a b)
      both s v w (inr a) (inl b) = absurd (clash s w v b a)
      both s v w (inr a) (inr b) = taken_once rs place k n s v w a b

      there : (s : Slot) (v : Option Constant) → SomeFits ps s v ⊎ SomeFits (taken place k n rs).pieces s v → (y : OffsetNode) × (slice_get ss s.place ≡ Some y) × SomeLies y s.unit (bs ++ stretch q k n ∷ [])
      there s v (inl a) = let old = h.kept s v a in (old.0, old.1, lies_left old.0 s.unit bs (stretch q k n ∷ []) old.2)
      there s v (inr b) = let z = taken_within rs place k n s v b in (q, ap (slice_get ss) (sym z.there) ∙ offset_node, lies_right q s.unit bs (stretch q k n ∷ []) (inl (new_lies rs place k n q s v b)))

  -- no targets with one unit
  pub dealt_alone : (cs : List Target) (rs : List Run) (ps : List Piece) (bs : List Stretch) → HaveOffsetNodes cs → meet_twice bs (stretches_of ss cs) ≡ false → Alone ps bs → Alone (ps ++ dealt cs rs) (bs ++ stretches_of ss cs)
  dealt_alone [] rs ps bs offset_nodes apart h = subst (λ z. Alone z (bs ++ [])) (sym (append-nil ps)) (subst (Alone ps) (sym (append-nil bs)) h)
  dealt_alone (Excluded ∷ cs) rs ps bs offset_nodes apart h = dealt_alone cs rs ps bs offset_nodes.1 apart h
  dealt_alone (Open ∷ cs) rs ps bs offset_nodes apart h = dealt_alone cs rs ps bs offset_nodes.1 apart h
  dealt_alone (Covers place k n ∷ cs) rs ps bs offset_nodes apart h =
      let q = offset_nodes.0.0 in
      let at = offset_nodes.0.1 in
      let is : stretch_at (slice_get ss place) k n ≡ stretch q k n ∷ [] = ap (λ o. stretch_at o k n) at in
      let parts = or_parts (meets_some (stretch q k n) bs) (meet_twice (bs ++ stretch q k n ∷ []) (stretches_of ss cs)) (ap (λ z. meet_twice bs (z ++ stretches_of ss cs)) (sym is) ∙ apart) in
      let first = one_more ps bs rs place k n q at parts.0 h in
      let rest = dealt_alone cs (taken place k n rs).rest (ps ++ (taken place k n rs).pieces) (bs ++ stretch q k n ∷ []) offset_nodes.1 parts.1 first in
      subst (λ z. Alone (ps ++ ((taken place k n rs).pieces ++ dealt cs (taken place k n rs).rest)) (bs ++ (z ++ stretches_of ss cs))) (sym is)
      (subst (λ z. Alone z (bs ++ (stretch q k n ∷ stretches_of ss cs))) (append_assoc ps (taken place k n rs).pieces (dealt cs (taken place k n rs).rest))
      (subst (Alone ((ps ++ (taken place k n rs).pieces) ++ dealt cs (taken place k n rs).rest)) (append_assoc bs (stretch q k n ∷ []) (stretches_of ss cs)) rest))
