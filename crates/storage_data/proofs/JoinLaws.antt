-- Joins: two units that are joined without a clash are one, and what was one unit stays one.
use Rattle.std.proofs.Common.{◌≡◌, ℕ, Bool, true, false, ℤ, pos, ◌+ℤ◌, List, Option, Some, None, refl, sym, ap, ◌∙◌, subst, arith}
use Rattle.std.specs.Prelude.{slice_get, not, neg_ℤ, if◌then◌else◌}
use Rattle.std.specs.Option.{option_map}
use Rattle.std.specs.Ordering.{int_eq}
use Rattle.std.proofs.lemmas.Int.{ints}
use Rattle.storage_data.specs.declared.offset_node.Home.{Home}
use Rattle.storage_data.specs.declared.offset_node.OffsetNode.{OffsetNode}
use Rattle.storage_data.specs.OffsetNodes.{same_home, is_block, move_offset_node, all_moved, Joined, joined_at, distance, joined_offset_nodes, joined}
use Rattle.storage_data.specs.GroupLaws.{Coincide, JoinedUnitsCoincide, CoincidentUnitsStay}
use Rattle.storage_data.proofs.BlockLaws.{same_home-refl, same_home-is, moved_get}
use Rattle.storage_data.proofs.SpanLaws.{turned}

moved_at : (ss : List OffsetNode) (from to : Home) (shift : ℤ) (k : ℕ) (s : OffsetNode) → slice_get ss k ≡ Some s → slice_get (all_moved from to shift ss) k ≡ Some (move_offset_node from to shift s)
moved_at ss from to shift k s e = moved_get ss from to shift k ∙ ap (option_map (move_offset_node from to shift)) e

-- an offset node of the group that goes, and one of another group
goes : (from to : Home) (shift : ℤ) (s : OffsetNode) → s.home ≡ from → move_offset_node from to shift s ≡ record { home = to; offset = s.offset +ℤ shift }
goes from to shift s e = ap (λ b. if b then record { home = to; offset = s.offset +ℤ shift } else s) (subst (λ h. same_home s.home h ≡ true) e (same_home-refl s.home))

stays : (from to : Home) (shift : ℤ) (s : OffsetNode) → same_home s.home from ≡ false → move_offset_node from to shift s ≡ s
stays from to shift s e = ap (λ b. if b then record { home = to; offset = s.offset +ℤ shift } else s) e

-- ---- what was one unit stays one

both_move : (ss : List OffsetNode) (from to : Home) (shift : ℤ) (m : ℕ) (p : ℤ) (n : ℕ) (q : ℤ) → Coincide ss m p n q → Coincide (all_moved from to shift ss) m p n q
both_move ss from to shift m p n q h = go (same_home h.first.home from) refl
  where
    go : (c : Bool) → same_home h.first.home from ≡ c → Coincide (all_moved from to shift ss) m p n q
    go true e =
        let there : h.first.home ≡ from = same_home-is h.first.home from e in
        let one = h.unit in
        record {
          first = record { home = to; offset = h.first.offset +ℤ shift };
          second = record { home = to; offset = h.second.offset +ℤ shift };
          is_first = moved_at ss from to shift m h.first h.is_first ∙ ap Some (goes from to shift h.first there);
          is_second = moved_at ss from to shift n h.second h.is_second ∙ ap Some (goes from to shift h.second (sym h.home ∙ there));
          home = refl;
          unit = omega (arith, ints, one);
        }
    go false e =
        record {
          first = h.first;
          second = h.second;
          is_first = moved_at ss from to shift m h.first h.is_first ∙ ap Some (stays from to shift h.first e);
          is_second = moved_at ss from to shift n h.second h.is_second ∙ ap Some (stays from to shift h.second (ap (λ z. same_home z from) (sym h.home) ∙ e));
          home = h.home;
          unit = h.unit;
        }

still_at : (ss : List OffsetNode) (a b : OffsetNode) (shift : ℤ) (m : ℕ) (p : ℤ) (n : ℕ) (q : ℤ) → Coincide ss m p n q → Coincide (joined_at ss a b shift).offset_nodes m p n q
still_at ss a b shift m p n q h = go (same_home a.home b.home) (is_block b.home) (is_block a.home)
  where
    go : (same inner outer : Bool) → Coincide (let j : Joined = if same then record { offset_nodes = ss; clash = not (int_eq shift (pos 0)) } else if inner then (if outer then record { offset_nodes = ss; clash = true } else record { offset_nodes = all_moved a.home b.home (neg_ℤ shift) ss; clash = false }) else record { offset_nodes = all_moved b.home a.home shift ss; clash = false } in j.offset_nodes) m p n q
    go true inner outer = h
    go false true true = h
    go false true false = both_move ss a.home b.home (neg_ℤ shift) m p n q h
    go false false outer = both_move ss b.home a.home shift m p n q h

pub still_one : CoincidentUnitsStay
still_one ss i r j s m p n q h = go (slice_get ss i) (slice_get ss j)
  where
    go : (x y : Option OffsetNode) → Coincide (joined_offset_nodes ss x r y s).offset_nodes m p n q
    go None y = h
    go (Some a) None = h
    go (Some a) (Some b) = still_at ss a b (distance a r b s) m p n q h

-- ---- what is joined is one unit

no_shift : (z : ℤ) → not (int_eq z (pos 0)) ≡ false → z ≡ pos 0
no_shift z h = grind (arith, ints)

becomes_at : (ss : List OffsetNode) (m : ℕ) (p : ℤ) (n : ℕ) (q : ℤ) (a b : OffsetNode) → slice_get ss m ≡ Some a → slice_get ss n ≡ Some b → (joined_at ss a b (distance a p b q)).clash ≡ false → Coincide (joined_at ss a b (distance a p b q)).offset_nodes m p n q
becomes_at ss m p n q a b e f = go (same_home a.home b.home) (is_block b.home) (is_block a.home) refl
  where
    go : (same inner outer : Bool) → same_home a.home b.home ≡ same → (let j : Joined = if same then record { offset_nodes = ss; clash = not (int_eq (distance a p b q) (pos 0)) } else if inner then (if outer then record { offset_nodes = ss; clash = true } else record { offset_nodes = all_moved a.home b.home (neg_ℤ (distance a p b q)) ss; clash = false }) else record { offset_nodes = all_moved b.home a.home (distance a p b q) ss; clash = false } in j.clash ≡ false → Coincide j.offset_nodes m p n q)
    go true inner outer same c =
        let none = no_shift (distance a p b q) c in
        record { first = a; second = b; is_first = e; is_second = f; home = same_home-is a.home b.home same; unit = omega (arith, ints, none) }
    go false true true same c = cc
    go false true false same c = record {
      first = record { home = b.home; offset = a.offset +ℤ neg_ℤ (distance a p b q) };
      second = b;
      is_first = moved_at ss a.home b.home (neg_ℤ (distance a p b q)) m a e ∙ ap Some (goes a.home b.home (neg_ℤ (distance a p b q)) a refl);
      is_second = moved_at ss a.home b.home (neg_ℤ (distance a p b q)) n b f ∙ ap Some (stays a.home b.home (neg_ℤ (distance a p b q)) b (turned a.home b.home same));
      home = refl;
      unit = omega (arith, ints);
    }
    go false false outer same c = record {
      first = a;
      second = record { home = a.home; offset = b.offset +ℤ (distance a p b q) };
      is_first = moved_at ss b.home a.home (distance a p b q) m a e ∙ ap Some (stays b.home a.home (distance a p b q) a same);
      is_second = moved_at ss b.home a.home (distance a p b q) n b f ∙ ap Some (goes b.home a.home (distance a p b q) b refl);
      home = refl;
      unit = omega (arith, ints);
    }

-- two variables with offset nodes that are joined without a clash
pub becomes_one : JoinedUnitsCoincide
becomes_one ss m p n q a b e f = subst (λ x. (joined_offset_nodes ss x p (slice_get ss n) q).clash ≡ false → Coincide (joined_offset_nodes ss x p (slice_get ss n) q).offset_nodes m p n q) (sym e) (subst (λ y. (joined_offset_nodes ss (Some a) p y q).clash ≡ false → Coincide (joined_offset_nodes ss (Some a) p y q).offset_nodes m p n q) (sym f) (becomes_at ss m p n q a b e f))

-- ---- each keeps its offset node

abbrev pub SameOffsetNodes : List OffsetNode → List OffsetNode → Type 0
SameOffsetNodes ss ts = (k : ℕ) (s : OffsetNode) → slice_get ss k ≡ Some s → (r : OffsetNode) × (slice_get ts k ≡ Some r)

offset_node_at : (ss : List OffsetNode) (a b : OffsetNode) (shift : ℤ) → SameOffsetNodes ss (joined_at ss a b shift).offset_nodes
offset_node_at ss a b shift k s e = go (same_home a.home b.home) (is_block b.home) (is_block a.home)
  where
    go : (same inner outer : Bool) → (let j : Joined = if same then record { offset_nodes = ss; clash = not (int_eq shift (pos 0)) } else if inner then (if outer then record { offset_nodes = ss; clash = true } else record { offset_nodes = all_moved a.home b.home (neg_ℤ shift) ss; clash = false }) else record { offset_nodes = all_moved b.home a.home shift ss; clash = false } in (r : OffsetNode) × (slice_get j.offset_nodes k ≡ Some r))
    go true inner outer = (s, e)
    go false true true = (s, e)
    go false true false = (move_offset_node a.home b.home (neg_ℤ shift) s, moved_at ss a.home b.home (neg_ℤ shift) k s e)
    go false false outer = (move_offset_node b.home a.home shift s, moved_at ss b.home a.home shift k s e)

pub offset_nodes_stay : (ss : List OffsetNode) (i : ℕ) (r : ℤ) (j : ℕ) (q : ℤ) → SameOffsetNodes ss (joined ss i r j q).offset_nodes
offset_nodes_stay ss i r j q k s e = go (slice_get ss i) (slice_get ss j)
  where
    go : (x y : Option OffsetNode) → (z : OffsetNode) × (slice_get (joined_offset_nodes ss x r y q).offset_nodes k ≡ Some z)
    go None y = (s, e)
    go (Some a) None = (s, e)
    go (Some a) (Some b) = offset_node_at ss a b (distance a r b q) k s e
