-- Joins, and how far groups reach.
use Rattle.std.proofs.Common.{◌≡◌, ℕ, zero, suc, ◌+◌, ◌≤◌, Bool, true, false, ℤ, pos, ◌+ℤ◌, ◌≤ℤ◌, List, [], ◌∷◌, Option, Some, None, refl, sym, ap, ◌∙◌, subst, arith}
use Rattle.std.specs.Prelude.{slice_get, not, neg_ℤ, if◌then◌else◌}
use Rattle.std.specs.Option.{option_map}
use Rattle.std.specs.Ordering.{int_eq}
use Rattle.std.specs.Int.{int_min}
use Rattle.std.proofs.lemmas.Int.{ints, clamps}
use Rattle.storage_data.specs.declared.offset_node.Home.{Home}
use Rattle.storage_data.specs.declared.offset_node.OffsetNode.{OffsetNode}
use Rattle.storage_data.specs.OffsetNodes.{same_home, is_block, move_offset_node, all_moved, Joined, joined_at, distance, joined_offset_nodes}
use Rattle.storage_data.specs.Spans.{units_from, Reaches, AreCompact, JoinsKeepCompact}
use Rattle.storage_data.proofs.BlockLaws.{same_home-refl, same_home-is, moved_get}

-- ---- groups that differ

pub turned : (h k : Home) → same_home h k ≡ false → same_home k h ≡ false
turned h k e = go (same_home k h) refl
  where
    go : (b : Bool) → same_home k h ≡ b → same_home k h ≡ false
    go true q = let one = same_home-is k h q in let yes : same_home h k ≡ true = subst (λ j. same_home h j ≡ true) (sym one) (same_home-refl h) in let z : true ≡ false = sym yes ∙ e in cc
    go false q = q

-- what lies in one of two groups that differ lies not in the other
other : (s h k : Home) → same_home h k ≡ false → same_home s h ≡ true → same_home s k ≡ false
other s h k e t = subst (λ j. same_home j k ≡ false) (sym (same_home-is s h t)) e

-- ---- a group that moves

-- a variable behind the move: it was of the group that moved, or is as it was
record Moved (from to : Home) (shift : ℤ) (ss : List OffsetNode) (n : ℕ) (s : OffsetNode) : Type 0 where
  old : OffsetNode
  is_old : slice_get ss n ≡ Some old
  now : s ≡ move_offset_node from to shift old

moved_back : (from to : Home) (shift : ℤ) (ss : List OffsetNode) (n : ℕ) (s : OffsetNode) → slice_get (all_moved from to shift ss) n ≡ Some s → Moved from to shift ss n s
moved_back from to shift ss n s e = go (slice_get ss n) refl (sym (moved_get ss from to shift n) ∙ e)
  where
    go : (o : Option OffsetNode) → slice_get ss n ≡ o → option_map (move_offset_node from to shift) o ≡ Some s → Moved from to shift ss n s
    go None q f = cc
    go (Some r) q f = let same : move_offset_node from to shift r ≡ s = cc in record { old = r; is_old = q; now = sym same }

module _ (units : ℕ → ℕ) (from to : Home) (shift : ℤ) (differ : same_home from to ≡ false) where
  abbrev step : Home → OffsetNode → ℕ → ℕ
  step h s n = if same_home s.home h then units n else 0

  -- the units of a variable in a group behind the move, by the group that it was in
  step_to : (s : OffsetNode) (n : ℕ) → step to (move_offset_node from to shift s) n ≡ step to s n + step from s n
  step_to s n = go (same_home s.home from) refl
    where
      go : (b : Bool) → same_home s.home from ≡ b → step to (if b then record { home = to; offset = s.offset +ℤ shift } else s) n ≡ step to s n + (if b then units n else 0)
      go true e =
          let here : step to (record { home = to; offset = s.offset +ℤ shift }) n ≡ units n = ap (λ b. if b then units n else 0) (same_home-refl to) in
          let there : step to s n ≡ 0 = ap (λ b. if b then units n else 0) (other s.home from to differ e) in
          omega (arith, here, there)
      go false e = omega arith

  units_to : (ss : List OffsetNode) (n : ℕ) → units_from units n to (all_moved from to shift ss) ≡ units_from units n to ss + units_from units n from ss
  units_to [] n = refl
  units_to (s ∷ ss) n =
      let a = step_to s n in
      let b = units_to ss (n + 1) in
      omega (arith, a, b)

  step_other : (h : Home) → same_home from h ≡ false → same_home to h ≡ false → (s : OffsetNode) (n : ℕ) → step h (move_offset_node from to shift s) n ≡ step h s n
  step_other h f t s n = go (same_home s.home from) refl
    where
      go : (b : Bool) → same_home s.home from ≡ b → step h (if b then record { home = to; offset = s.offset +ℤ shift } else s) n ≡ step h s n
      go true e = ap (λ b. if b then units n else 0) (t ∙ sym (other s.home from h f e))
      go false e = refl

  units_other : (h : Home) → same_home from h ≡ false → same_home to h ≡ false → (ss : List OffsetNode) (n : ℕ) → units_from units n h (all_moved from to shift ss) ≡ units_from units n h ss
  units_other h f t [] n = refl
  units_other h f t (s ∷ ss) n =
      let a = step_other h f t s n in
      let b = units_other h f t ss (n + 1) in
      omega (arith, a, b)

  -- both groups have a unit in common, behind the move
  pub moves_keep : (ss : List OffsetNode) (x : ℤ) → AreCompact units ss → ((a : Reaches units ss to) → (a.low ≤ℤ x) × (x ≤ℤ (a.low +ℤ pos (units_from units 0 to ss)))) →
      ((b : Reaches units ss from) → ((b.low +ℤ shift) ≤ℤ x) × (x ≤ℤ ((b.low +ℤ shift) +ℤ pos (units_from units 0 from ss)))) → AreCompact units (all_moved from to shift ss)
  moves_keep ss x all in_to in_from h = by_from (same_home from h) refl
    where
      A : Reaches units ss to
      A = all to

      B : Reaches units ss from
      B = all from

      sum : units_from units 0 to (all_moved from to shift ss) ≡ units_from units 0 to ss + units_from units 0 from ss
      sum = units_to ss 0

      there : (n : ℕ) (s : OffsetNode) → slice_get (all_moved from to shift ss) n ≡ Some s → same_home s.home to ≡ true →
          (int_min A.low (B.low +ℤ shift) ≤ℤ s.offset) × ((s.offset +ℤ pos (units n)) ≤ℤ (int_min A.low (B.low +ℤ shift) +ℤ pos (units_from units 0 to (all_moved from to shift ss))))
      there n s e t = go (same_home r.old.home from) refl
        where
          r : Moved from to shift ss n s
          r = moved_back from to shift ss n s e

          go : (b : Bool) → same_home r.old.home from ≡ b → (int_min A.low (B.low +ℤ shift) ≤ℤ s.offset) × ((s.offset +ℤ pos (units n)) ≤ℤ (int_min A.low (B.low +ℤ shift) +ℤ pos (units_from units 0 to (all_moved from to shift ss))))
          go true q =
              let at : s.offset ≡ r.old.offset +ℤ shift = ap (λ z. z.offset) r.now ∙ ap (λ b. (let w : OffsetNode = if b then record { home = to; offset = r.old.offset +ℤ shift } else r.old in w.offset)) q in
              let l = B.lie n r.old r.is_old q in
              let a = in_to A in
              let b = in_from B in
              (omega (arith, ints, clamps, at, l.0), omega (arith, ints, clamps, at, l.1, a.0, a.1, b.0, b.1, sum))
          go false q =
              let same : s ≡ r.old = r.now ∙ ap (λ b. if b then record { home = to; offset = r.old.offset +ℤ shift } else r.old) q in
              let l = A.lie n r.old r.is_old (subst (λ (z : OffsetNode). same_home z.home to ≡ true) same t) in
              let at : s.offset ≡ r.old.offset = ap (λ z. z.offset) same in
              let a = in_to A in
              let b = in_from B in
              (omega (arith, ints, clamps, at, l.0), omega (arith, ints, clamps, at, l.1, a.0, a.1, b.0, b.1, sum))

      -- nothing is left of the group that moved
      none : (n : ℕ) (s : OffsetNode) → slice_get (all_moved from to shift ss) n ≡ Some s → same_home s.home from ≡ true → ⊥
      none n s e t = go (same_home r.old.home from) refl
        where
          r : Moved from to shift ss n s
          r = moved_back from to shift ss n s e

          go : (b : Bool) → same_home r.old.home from ≡ b → ⊥
          go true q =
              let at : s.home ≡ to = ap (λ z. z.home) r.now ∙ ap (λ b. (let w : OffsetNode = if b then record { home = to; offset = r.old.offset +ℤ shift } else r.old in w.home)) q in
              let z : true ≡ false = sym t ∙ ap (λ j. same_home j from) at ∙ turned from to differ in
              cc
          go false q =
              let same : s ≡ r.old = r.now ∙ ap (λ b. if b then record { home = to; offset = r.old.offset +ℤ shift } else r.old) q in
              let z : true ≡ false = sym t ∙ ap (λ j. same_home j.home from) same ∙ q in
              cc

      still : same_home from h ≡ false → same_home to h ≡ false → (n : ℕ) (s : OffsetNode) → slice_get (all_moved from to shift ss) n ≡ Some s → same_home s.home h ≡ true → slice_get ss n ≡ Some s
      still f t n s e at_h = go (same_home r.old.home from) refl
        where
          r : Moved from to shift ss n s
          r = moved_back from to shift ss n s e

          go : (b : Bool) → same_home r.old.home from ≡ b → slice_get ss n ≡ Some s
          go true q =
              let at : s.home ≡ to = ap (λ z. z.home) r.now ∙ ap (λ b. (let w : OffsetNode = if b then record { home = to; offset = r.old.offset +ℤ shift } else r.old in w.home)) q in
              let z : true ≡ false = sym at_h ∙ ap (λ j. same_home j h) at ∙ t in
              cc
          go false q =
              let same : s ≡ r.old = r.now ∙ ap (λ b. if b then record { home = to; offset = r.old.offset +ℤ shift } else r.old) q in
              r.is_old ∙ ap Some (sym same)

      by_to : same_home from h ≡ false → (c : Bool) → same_home to h ≡ c → Reaches units (all_moved from to shift ss) h
      by_to f true t =
          let begins : is_block to ≡ true → int_min A.low (B.low +ℤ shift) ≤ℤ pos 0 = λ i. (let l = A.begin i in omega (arith, ints, clamps, l)) in
          subst (Reaches units (all_moved from to shift ss)) (same_home-is to h t) (record { low = int_min A.low (B.low +ℤ shift); begin = begins; lie = there })
      by_to f false t =
          let old = all h in
          let same = units_other h f t ss 0 in
          record {
            low = old.low;
            begin = old.begin;
            lie = λ n s e at_h. (let l = old.lie n s (still f t n s e at_h) at_h in (l.0, omega (arith, ints, l.1, same)));
          }

      by_from : (b : Bool) → same_home from h ≡ b → Reaches units (all_moved from to shift ss) h
      by_from true f =
          let zero_low : pos 0 ≤ℤ pos 0 = omega (arith, ints) in
          subst (Reaches units (all_moved from to shift ss)) (same_home-is from h f) (record { low = pos 0; begin = λ i. zero_low; lie = λ n s e t. absurd (none n s e t) })
      by_from false f = by_to f (same_home to h) refl

-- ---- joins

module _ (units : ℕ → ℕ) (ss : List OffsetNode) (all : AreCompact units ss) where
  -- a unit of a variable, or the first behind it
  point : (m p : ℕ) (a : OffsetNode) → slice_get ss m ≡ Some a → p ≤ units m → (r : Reaches units ss a.home) → (r.low ≤ℤ (a.offset +ℤ pos p)) × ((a.offset +ℤ pos p) ≤ℤ (r.low +ℤ pos (units_from units 0 a.home ss)))
  point m p a e h r = let l = r.lie m a e (same_home-refl a.home) in (omega (arith, ints, l.0, l.1, h), omega (arith, ints, l.0, l.1, h))

  at_keep : (m p n q : ℕ) (a b : OffsetNode) → slice_get ss m ≡ Some a → slice_get ss n ≡ Some b → p ≤ units m → q ≤ units n → AreCompact units (joined_at ss a b (distance a (pos p) b (pos q))).offset_nodes
  at_keep m p n q a b e f h i = go (same_home a.home b.home) (is_block b.home) (is_block a.home) refl
    where
      shift : ℤ
      shift = distance a (pos p) b (pos q)

      go : (same inner outer : Bool) → same_home a.home b.home ≡ same → AreCompact units (let j : Joined = if same then record { offset_nodes = ss; clash = not (int_eq shift (pos 0)) } else if inner then (if outer then record { offset_nodes = ss; clash = true } else record { offset_nodes = all_moved a.home b.home (neg_ℤ shift) ss; clash = false }) else record { offset_nodes = all_moved b.home a.home shift ss; clash = false } in j.offset_nodes)
      go true inner outer s = all
      go false true true s = all
      go false true false s =
          moves_keep units a.home b.home (neg_ℤ shift) s ss (b.offset +ℤ pos q) all (point n q b f i)
          (λ r. let l = point m p a e h r in (omega (arith, ints, l.0), omega (arith, ints, l.1)))
      go false false outer s =
          moves_keep units b.home a.home shift (turned a.home b.home s) ss (a.offset +ℤ pos p) all (point m p a e h)
          (λ r. let l = point n q b f i r in (omega (arith, ints, l.0), omega (arith, ints, l.1)))

pub joins_keep_compact : JoinsKeepCompact
joins_keep_compact units ss m p n q h i all = go (slice_get ss m) (slice_get ss n) refl refl
  where
    go : (x y : Option OffsetNode) → slice_get ss m ≡ x → slice_get ss n ≡ y → AreCompact units (joined_offset_nodes ss x (pos p) y (pos q)).offset_nodes
    go None y e f = all
    go (Some a) None e f = all
    go (Some a) (Some b) e f = at_keep units ss all m p n q a b e f h i

-- ---- one variable of a group

pub has_units : (units : ℕ → ℕ) (ss : List OffsetNode) (k n : ℕ) (h : Home) (s : OffsetNode) → slice_get ss n ≡ Some s → same_home s.home h ≡ true → units (k + n) ≤ units_from units k h ss
has_units units [] k zero h s e t = cc
has_units units [] k (suc n) h s e t = cc
has_units units (r ∷ ss) k zero h s e t =
    let one : r ≡ s = cc in
    let here : (if same_home r.home h then units k else 0) ≡ units k = ap (λ b. if b then units k else 0) (ap (λ (z : OffsetNode). same_home z.home h) one ∙ t) in
    let at : units (k + 0) ≡ units k = ap units (omega arith) in
    omega (arith, here, at)
has_units units (r ∷ ss) k (suc n) h s e t =
    let rest = has_units units ss (k + 1) n h s e t in
    let at : units (k + 1 + n) ≡ units (k + suc n) = ap units (omega arith) in
    omega (arith, rest, at)
