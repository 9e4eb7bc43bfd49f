-- What a join does to blocks.
use Rattle.std.proofs.Common.{◌≡◌, ℕ, zero, suc, Bool, true, false, ℤ, pos, ◌+ℤ◌, List, [], ◌∷◌, Option, Some, None, ◌⊎◌, inl, inr, refl, sym, ap, ◌∙◌, subst}
use Rattle.std.specs.Prelude.{slice_get, not, neg_ℤ, if◌then◌else◌}
use Rattle.std.specs.Option.{option_map}
use Rattle.std.specs.Ordering.{int_eq}
use Rattle.std.proofs.lemmas.Bool.{eq-eqb, eqb-true}
use Rattle.storage_data.specs.declared.offset_node.Home.{Home}
use Rattle.storage_data.specs.declared.offset_node.Home.TheVariants.{Block, Own}
use Rattle.storage_data.specs.declared.offset_node.OffsetNode.{OffsetNode}
use Rattle.storage_data.specs.OffsetNodes.{same_home, is_block, move_offset_node, all_moved, Joined, joined_at, distance, joined_offset_nodes}
use Rattle.storage_data.specs.GroupLaws.{BlocksStay, OneLiesWith, BlocksTakeGroups}

pub same_home-refl : (h : Home) → same_home h h ≡ true
same_home-refl (Block a) = eq-eqb a a refl
same_home-refl (Own n) = eq-eqb n n refl

apart : (h k : Home) → is_block h ≡ true → is_block k ≡ false → same_home h k ≡ false
apart (Block a) (Block b) t f = cc
apart (Block a) (Own n) t f = refl
apart (Own m) k t f = cc

-- ---- groups that move

pub moved_get : (ss : List OffsetNode) (from to : Home) (shift : ℤ) (k : ℕ) → slice_get (all_moved from to shift ss) k ≡ option_map (move_offset_node from to shift) (slice_get ss k)
moved_get [] from to shift zero = refl
moved_get [] from to shift (suc k) = refl
moved_get (s ∷ ss) from to shift zero = refl
moved_get (s ∷ ss) from to shift (suc k) = moved_get ss from to shift k

stay : (ss : List OffsetNode) (from to : Home) (shift : ℤ) (k : ℕ) (s : OffsetNode) → is_block from ≡ false → slice_get ss k ≡ Some s → is_block s.home ≡ true → slice_get (all_moved from to shift ss) k ≡ Some s
stay ss from to shift k s f e t =
    moved_get ss from to shift k ∙ ap (option_map (move_offset_node from to shift)) e ∙ ap (λ b. Some (if b then record { home = to; offset = s.offset +ℤ shift } else s)) (apart s.home from t f)

back : (ss : List OffsetNode) (from to : Home) (shift : ℤ) (k : ℕ) (s : OffsetNode) → slice_get (all_moved from to shift ss) k ≡ Some s → (slice_get ss k ≡ Some s) ⊎ (s.home ≡ to)
back ss from to shift k s e = go (slice_get ss k) (sym (moved_get ss from to shift k) ∙ e)
  where
    one : (b : Bool) (r : OffsetNode) → Some (if b then record { home = to; offset = r.offset +ℤ shift } else r) ≡ Some s → (Some r ≡ Some s) ⊎ (s.home ≡ to)
    one true r q = let there : record { home = to; offset = r.offset +ℤ shift } ≡ s = cc in inr (ap (λ (x : OffsetNode). x.home) (sym there))
    one false r q = inl q

    go : (o : Option OffsetNode) → option_map (move_offset_node from to shift) o ≡ Some s → (o ≡ Some s) ⊎ (s.home ≡ to)
    go None q = cc
    go (Some r) q = one (same_home r.home from) r q

-- ---- joins

blocks_stay_at : (ss : List OffsetNode) (a b : OffsetNode) (shift : ℤ) (k : ℕ) (s : OffsetNode) → slice_get ss k ≡ Some s → is_block s.home ≡ true → slice_get (joined_at ss a b shift).offset_nodes k ≡ Some s
blocks_stay_at ss a b shift k s e t = go (same_home a.home b.home) (is_block b.home) (is_block a.home) refl refl
  where
    go : (same inner outer : Bool) → is_block b.home ≡ inner → is_block a.home ≡ outer →
        slice_get (let j : Joined = if same then record { offset_nodes = ss; clash = not (int_eq shift (pos 0)) } else if inner then (if outer then record { offset_nodes = ss; clash = true } else record { offset_nodes = all_moved a.home b.home (neg_ℤ shift) ss; clash = false }) else record { offset_nodes = all_moved b.home a.home shift ss; clash = false } in j).offset_nodes k ≡ Some s
    go true inner outer f g = e
    go false true true f g = e
    go false true false f g = stay ss a.home b.home (neg_ℤ shift) k s g e t
    go false false outer f g = stay ss b.home a.home shift k s f e t

pub blocks_stay : BlocksStay
blocks_stay ss m p n q k s e t = go (slice_get ss m) (slice_get ss n)
  where
    go : (x y : Option OffsetNode) → slice_get (joined_offset_nodes ss x p y q).offset_nodes k ≡ Some s
    go None y = e
    go (Some a) None = e
    go (Some a) (Some b) = blocks_stay_at ss a b (distance a p b q) k s e t

take_at : (ss : List OffsetNode) (m n : ℕ) (a b : OffsetNode) (shift : ℤ) (k : ℕ) (s : OffsetNode) → slice_get ss m ≡ Some a → slice_get ss n ≡ Some b → slice_get (joined_at ss a b shift).offset_nodes k ≡ Some s → is_block s.home ≡ true → (slice_get ss k ≡ Some s) ⊎ OneLiesWith (joined_at ss a b shift).offset_nodes m n s
take_at ss m n a b shift k s at_m at_n = go (same_home a.home b.home) (is_block b.home) (is_block a.home) refl refl
  where
    with : (r : OffsetNode) → s.home ≡ r.home → same_home r.home s.home ≡ true
    with r e = subst (λ (h : Home). same_home r.home h ≡ true) (sym e) (same_home-refl r.home)

    go : (same inner outer : Bool) → is_block b.home ≡ inner → is_block a.home ≡ outer →
        (let j : Joined = if same then record { offset_nodes = ss; clash = not (int_eq shift (pos 0)) } else if inner then (if outer then record { offset_nodes = ss; clash = true } else record { offset_nodes = all_moved a.home b.home (neg_ℤ shift) ss; clash = false }) else record { offset_nodes = all_moved b.home a.home shift ss; clash = false } in slice_get j.offset_nodes k ≡ Some s → is_block s.home ≡ true → (slice_get ss k ≡ Some s) ⊎ OneLiesWith j.offset_nodes m n s)
    go true inner outer f g e t = inl e
    go false true true f g e t = inl e
    go false true false f g e t = to_b (back ss a.home b.home (neg_ℤ shift) k s e)
      where
        to_b : (slice_get ss k ≡ Some s) ⊎ (s.home ≡ b.home) → (slice_get ss k ≡ Some s) ⊎ OneLiesWith (all_moved a.home b.home (neg_ℤ shift) ss) m n s
        to_b (inl q) = inl q
        to_b (inr q) = inr (n, b, inr refl, stay ss a.home b.home (neg_ℤ shift) n b g at_n f, with b q)
    go false false outer f g e t = to_a (back ss b.home a.home shift k s e)
      where
        to_a : (slice_get ss k ≡ Some s) ⊎ (s.home ≡ a.home) → (slice_get ss k ≡ Some s) ⊎ OneLiesWith (all_moved b.home a.home shift ss) m n s
        to_a (inl q) = inl q
        to_a (inr q) = inr (m, a, inl refl, stay ss b.home a.home shift m a f at_m (ap is_block (sym q) ∙ t), with a q)

pub blocks_take_groups : BlocksTakeGroups
blocks_take_groups ss m p n q k s = go (slice_get ss m) (slice_get ss n) refl refl
  where
    go : (x y : Option OffsetNode) → slice_get ss m ≡ x → slice_get ss n ≡ y → slice_get (joined_offset_nodes ss x p y q).offset_nodes k ≡ Some s → is_block s.home ≡ true → (slice_get ss k ≡ Some s) ⊎ OneLiesWith (joined_offset_nodes ss x p y q).offset_nodes m n s
    go None y a b e t = inl e
    go (Some u) None a b e t = inl e
    go (Some u) (Some v) a b e t = take_at ss m n u v (distance u p v q) k s a b e t

-- two that are tested as the same are the same
pub same_home-is : (h k : Home) → same_home h k ≡ true → h ≡ k
same_home-is (Block a) (Block b) t = ap Block (eqb-true a b t)
same_home-is (Block a) (Own n) t = cc
same_home-is (Own m) (Block b) t = cc
same_home-is (Own m) (Own n) t = ap Own (eqb-true m n t)
