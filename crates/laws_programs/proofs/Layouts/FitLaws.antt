-- Where the statements admit a layout, no EQUIVALENCE is refused: each join has the distance that the layout has.
use Rattle.std.proofs.Common.{◌≡◌, ℕ, zero, suc, ◌+◌, Bool, true, false, ℤ, pos, ◌≤ℤ◌, ◌+ℤ◌, List, [], ◌∷◌, ◌++◌, Option, Some, None, refl, sym, ap, ◌∙◌, subst, arith}
use Rattle.std.specs.Prelude.{slice_get, not, neg_ℤ, int_lt, ◌&&◌, ◌||◌, if◌then◌else◌}
use Rattle.std.specs.Option.{option_map}
use Rattle.std.specs.Ordering.{int_eq}
use Rattle.std.specs.List.{list_any, AllByRecursion}
use Rattle.std.proofs.lemmas.Int.{ints}
use Rattle.f77_ast.specs.Trees.{ExprTree}
use Rattle.f77_ast.specs.DeclTrees.{DeclTree}
use Rattle.f77_ast.specs.DeclTrees as decl
use Rattle.fx_lists.specs.declared.code.Code.{Code}
use Rattle.fx_lists.specs.declared.code.Code.TheVariants.{EquivalenceClash, EquivalenceExtendsBack}
use Rattle.fx_lists.specs.declared.refusal.Refusal.{Refusal}
use Rattle.fx_lists.specs.Refusals.{refuse_if}
use Rattle.f77_names.specs.declared.lines.Sited.TheVariants.{Decl}
use Rattle.f77_names.specs.Lines.{LineTable, line_or}
use Rattle.f77_names.specs.Tables.{NameTable}
use Rattle.storage_data.specs.declared.offset_node.Home.{Home}
use Rattle.storage_data.specs.declared.offset_node.Home.TheVariants.{Block, Own}
use Rattle.storage_data.specs.declared.offset_node.OffsetNode.{OffsetNode}
use Rattle.storage_data.specs.OffsetNodes.{same_home, is_block, move_offset_node, all_moved, begins_before, Joined, joined_at, distance, joined_offset_nodes, joined}
use Rattle.storage_data.proofs.BlockLaws.{same_home-refl, same_home-is, moved_get}
use Rattle.storage_data.specs.Units.{place_of}
use Rattle.storage_data.specs.Items.{item_name, item_position}
use Rattle.storage_layout.specs.declared.equivalences.Anchor.{Anchor}
use Rattle.storage_layout.specs.declared.equivalences.Grouping.{Grouping}
use Rattle.storage_layout.specs.declared.equivalences.Shared.{Shared}
use Rattle.storage_layout.specs.Statements.{equivalences_in, equivalences}
use Rattle.storage_layout.specs.Blocks.{block_number}
use Rattle.storage_layout.specs.Equivalences.{clashes, unit_joined, at_place, named_joined, items_joined, extends_back, place_extends, name_extends, items_extend, begun, group_shared, groups_shared, decl_shared, decls_shared}
use Rattle.storage_layout.specs.Symbols.{unshared, shared}
use Rattle.storage_layout.specs.Laws.{ItemUnit}
use Rattle.laws_programs.specs.Layout.Fits.{block, Spot, behind, MeetAt, GroupMeets}

-- ---- spots

pub spot_is : (s r : Spot) → s.area ≡ r.area → s.offset ≡ r.offset → s ≡ r
spot_is s r e f = ap (λ a. record { area = a; offset = s.offset }) e ∙ ap (λ o. record { area = r.area; offset = o }) f

one_block : (b c : List ℕ) → block b ≡ block c → b ≡ c
one_block b c e = cc

no_shift : (z : ℤ) → z ≡ pos 0 → not (int_eq z (pos 0)) ≡ false
no_shift z e = ap (λ w. not (int_eq w (pos 0))) e

as_block : (h : Home) → is_block h ≡ true → (n : ℕ) × (h ≡ Block n)
as_block (Block n) e = (n, refl)
as_block (Own n) e = cc

-- ---- tests on lists

any_none : {X : Type 0} (f : X → Bool) (xs : List X) → ((k : ℕ) (x : X) → slice_get xs k ≡ Some x → f x ≡ false) → list_any f xs ≡ false
any_none f [] h = refl
any_none f (x ∷ xs) h = ap (λ b. b || list_any f xs) (h zero x refl) ∙ any_none f xs (λ k y e. h (suc k) y e)

not_refused : (line : ℕ) (c : Code) (o : Option Refusal) → refuse_if false line c o ≡ o
unfolding refuse_if
not_refused line c o = refl

all_parts : {A : Type 0} (P : A → Type 0) (xs ys : List A) → AllByRecursion P (xs ++ ys) → AllByRecursion P xs × AllByRecursion P ys
all_parts P [] ys h = (tt, h)
all_parts P (x ∷ xs) ys h = let r = all_parts P xs ys h.1 in ((h.0, r.0), r.1)

module _ (t : NameTable) (f : List ℕ → Spot) (names : List (List ℕ)) (base : Home → Spot) (blocks : (b : List ℕ) (n : ℕ) → block_number names b ≡ Some n → base (Block n) ≡ record { area = block b; offset = pos 0 }) where
  -- the offset nodes keep the distances of a layout, whose groups begin at these bases; each offset node has a name, and each block
  pub record Fits (ss : List OffsetNode) : Type 0 where
    pub based : (x : List ℕ) (k : ℕ) (s : OffsetNode) → place_of t x ≡ Some k → slice_get ss k ≡ Some s → f x ≡ behind (base s.home) s.offset
    pub housed : (k : ℕ) (s : OffsetNode) (n : ℕ) → slice_get ss k ≡ Some s → s.home ≡ Block n → (b : List ℕ) × (block_number names b ≡ Some n)
    pub named : (k : ℕ) (s : OffsetNode) → slice_get ss k ≡ Some s → (x : List ℕ) × (place_of t x ≡ Some k)

  -- ---- a group that moves

  record Old (from to : Home) (shift : ℤ) (ss : List OffsetNode) (k : ℕ) (s : OffsetNode) : Type 0 where
    old : OffsetNode
    is_old : slice_get ss k ≡ Some old
    now : s ≡ move_offset_node from to shift old

  old_of : (from to : Home) (shift : ℤ) (ss : List OffsetNode) (k : ℕ) (s : OffsetNode) → slice_get (all_moved from to shift ss) k ≡ Some s → Old from to shift ss k s
  old_of from to shift ss k s e = go (slice_get ss k) refl (sym (moved_get ss from to shift k) ∙ e)
    where
      go : (o : Option OffsetNode) → slice_get ss k ≡ o → option_map (move_offset_node from to shift) o ≡ Some s → Old from to shift ss k s
      go None q h = cc
      go (Some r) q h = let same : move_offset_node from to shift r ≡ s = cc in record { old = r; is_old = q; now = sym same }

  all_fit : (from to : Home) (shift : ℤ) (ss : List OffsetNode) (m : ℕ) (r : OffsetNode) → slice_get ss m ≡ Some r → r.home ≡ to → base from ≡ behind (base to) shift → Fits ss → Fits (all_moved from to shift ss)
  all_fit from to shift ss m r at is apart h = record {
    based = λ x k s p e. (let o = old_of from to shift ss k s e in based_one x k s p o (same_home o.old.home from) refl);
    housed = λ k s n e q. (let o = old_of from to shift ss k s e in housed_one k s n q o (same_home o.old.home from) refl);
    named = λ k s e. (let o = old_of from to shift ss k s e in h.named k o.old o.is_old);
  }
    where
      goes : (o : OffsetNode) → same_home o.home from ≡ true → move_offset_node from to shift o ≡ record { home = to; offset = o.offset +ℤ shift }
      goes o e = ap (λ b. if b then record { home = to; offset = o.offset +ℤ shift } else o) e

      stays : (o : OffsetNode) → same_home o.home from ≡ false → move_offset_node from to shift o ≡ o
      stays o e = ap (λ b. if b then record { home = to; offset = o.offset +ℤ shift } else o) e

      turned : (o : OffsetNode) → behind (behind (base to) shift) o.offset ≡ behind (base to) (o.offset +ℤ shift)
      turned o = let e : ((base to).offset +ℤ shift) +ℤ o.offset ≡ (base to).offset +ℤ (o.offset +ℤ shift) = omega (arith, ints) in spot_is (behind (behind (base to) shift) o.offset) (behind (base to) (o.offset +ℤ shift)) refl e

      based_one : (x : List ℕ) (k : ℕ) (s : OffsetNode) → place_of t x ≡ Some k → (o : Old from to shift ss k s) → (b : Bool) → same_home o.old.home from ≡ b → f x ≡ behind (base s.home) s.offset
      based_one x k s p o true e =
          let now : s ≡ record { home = to; offset = o.old.offset +ℤ shift } = o.now ∙ goes o.old e in
          h.based x k o.old p o.is_old ∙ ap (λ z. behind (base z) o.old.offset) (same_home-is o.old.home from e) ∙ ap (λ z. behind z o.old.offset) apart ∙ turned o.old ∙ ap (λ (z : OffsetNode). behind (base z.home) z.offset) (sym now)
      based_one x k s p o false e =
          let now : s ≡ o.old = o.now ∙ stays o.old e in
          h.based x k o.old p o.is_old ∙ ap (λ (z : OffsetNode). behind (base z.home) z.offset) (sym now)

      housed_one : (k : ℕ) (s : OffsetNode) (n : ℕ) → s.home ≡ Block n → (o : Old from to shift ss k s) → (b : Bool) → same_home o.old.home from ≡ b → (b : List ℕ) × (block_number names b ≡ Some n)
      housed_one k s n q o true e =
          let now : s ≡ record { home = to; offset = o.old.offset +ℤ shift } = o.now ∙ goes o.old e in
          h.housed m r n at (is ∙ ap (λ (z : OffsetNode). z.home) (sym now) ∙ q)
      housed_one k s n q o false e =
          let now : s ≡ o.old = o.now ∙ stays o.old e in
          h.housed k o.old n o.is_old (ap (λ (z : OffsetNode). z.home) (sym now) ∙ q)

  -- ---- a join

  record JoinFits (j : Joined) : Type 0 where
    quiet : j.clash ≡ false
    fits : Fits j.offset_nodes

  at_fits : (ss : List OffsetNode) (m n : ℕ) (p q : ℤ) (a b : OffsetNode) → slice_get ss m ≡ Some a → slice_get ss n ≡ Some b → (base a.home).area ≡ (base b.home).area → ((base a.home).offset +ℤ a.offset) +ℤ p ≡ ((base b.home).offset +ℤ b.offset) +ℤ q → Fits ss → JoinFits (joined_at ss a b (distance a p b q))
  at_fits ss m n p q a b at_m at_n area offset h = go (same_home a.home b.home) (is_block b.home) (is_block a.home) refl refl refl
    where
      shift : ℤ
      shift = distance a p b q

      apart : same_home a.home b.home ≡ false → is_block b.home ≡ true → is_block a.home ≡ true → ⊥
      apart differ inner outer =
          let i = as_block a.home outer in
          let j = as_block b.home inner in
          let x = h.housed m a i.0 at_m i.1 in
          let y = h.housed n b j.0 at_n j.1 in
          let first : (base a.home).area ≡ block x.0 = ap (λ z. (base z).area) i.1 ∙ ap (λ (z : Spot). z.area) (blocks x.0 i.0 x.1) in
          let second : (base b.home).area ≡ block y.0 = ap (λ z. (base z).area) j.1 ∙ ap (λ (z : Spot). z.area) (blocks y.0 j.0 y.1) in
          let one = one_block x.0 y.0 (sym first ∙ area ∙ second) in
          let number : Some i.0 ≡ Some j.0 = sym x.1 ∙ ap (block_number names) one ∙ y.1 in
          let numbers : i.0 ≡ j.0 = cc in
          let homes : a.home ≡ b.home = i.1 ∙ ap Block numbers ∙ sym j.1 in
          let yes : same_home a.home b.home ≡ true = subst (λ z. same_home a.home z ≡ true) homes (same_home-refl a.home) in
          let z : true ≡ false = sym yes ∙ differ in
          cc

      go : (same inner outer : Bool) → same_home a.home b.home ≡ same → is_block b.home ≡ inner → is_block a.home ≡ outer →
          JoinFits (if same then record { offset_nodes = ss; clash = not (int_eq shift (pos 0)) } else if inner then (if outer then record { offset_nodes = ss; clash = true } else record { offset_nodes = all_moved a.home b.home (neg_ℤ shift) ss; clash = false }) else record { offset_nodes = all_moved b.home a.home shift ss; clash = false })
      go true inner outer s i o =
          let homes = same_home-is a.home b.home s in
          let bases : (base a.home).offset ≡ (base b.home).offset = ap (λ z. (base z).offset) homes in
          let none : shift ≡ pos 0 = omega (arith, ints, bases, offset) in
          record { quiet = no_shift shift none; fits = h }
      go false true true s i o = absurd (apart s i o)
      go false true false s i o =
          let e : (base a.home).offset ≡ (base b.home).offset +ℤ neg_ℤ shift = omega (arith, ints, offset) in
          record { quiet = refl; fits = all_fit a.home b.home (neg_ℤ shift) ss n b at_n refl (spot_is (base a.home) (behind (base b.home) (neg_ℤ shift)) area e) h }
      go false false outer s i o =
          let e : (base b.home).offset ≡ (base a.home).offset +ℤ shift = omega (arith, ints, offset) in
          record { quiet = refl; fits = all_fit b.home a.home shift ss m a at_m refl (spot_is (base b.home) (behind (base a.home) shift) (sym area) e) h }

  join_fits : (ss : List OffsetNode) (x y : List ℕ) (m n : ℕ) (p q : ℤ) → place_of t x ≡ Some m → place_of t y ≡ Some n → behind (f x) p ≡ behind (f y) q → Fits ss → JoinFits (joined ss m p n q)
  join_fits ss x y m n p q is_x is_y meet h = go (slice_get ss m) (slice_get ss n) refl refl
    where
      go : (u v : Option OffsetNode) → slice_get ss m ≡ u → slice_get ss n ≡ v → JoinFits (joined_offset_nodes ss u p v q)
      go None v d e = record { quiet = refl; fits = h }
      go (Some a) None d e = record { quiet = refl; fits = h }
      go (Some a) (Some b) d e =
          let one : behind (behind (base a.home) a.offset) p ≡ behind (behind (base b.home) b.offset) q = ap (λ z. behind z p) (sym (h.based x m a is_x d)) ∙ meet ∙ ap (λ z. behind z q) (h.based y n b is_y e) in
          at_fits ss m n p q a b d e (ap (λ (z : Spot). z.area) one) (ap (λ (z : Spot). z.offset) one) h

  -- ---- a group of items

  abbrev Anchored : Option Anchor → Spot → Type 0
  Anchored None s = Unit {0}
  Anchored (Some a) s = (y : List ℕ) × (place_of t y ≡ Some a.place) × (behind (f y) (pos a.unit) ≡ s)

  record Fine (s : Spot) (g : Grouping) : Type 0 where
    quiet : g.clash ≡ false
    anchored : Anchored g.anchor s
    fits : Fits g.offset_nodes

  item_fits : (i : ExprTree) (s : Spot) (g : Grouping) (r : ItemUnit t i) → behind (f r.name) (pos r.unit) ≡ s → Fine s g → Fine s (named_joined t (item_name i) (item_position t i) g)
  item_fits i s g r meet h = subst (Fine s) (sym becomes) (go g.anchor refl h.anchored)
    where
      becomes : named_joined t (item_name i) (item_position t i) g ≡ unit_joined g.anchor r.place r.unit g
      becomes =
          ap (λ o. named_joined t o (item_position t i) g) r.is_name
          ∙ ap (λ b. if b then at_place (place_of t r.name) (item_position t i) g else clashes g) r.may
          ∙ ap (λ o. at_place o (item_position t i) g) r.is_place
          ∙ ap (λ o. at_place (Some r.place) o g) r.is_unit

      go : (o : Option Anchor) → g.anchor ≡ o → Anchored o s → Fine s (unit_joined o r.place r.unit g)
      go None e an = record { quiet = h.quiet; anchored = (r.name, r.is_place, meet); fits = h.fits }
      go (Some a) e an =
          let j = join_fits g.offset_nodes an.0 r.name a.place r.place (pos a.unit) (pos r.unit) an.1 r.is_place (an.2 ∙ sym meet) h.fits in
          record { quiet = ap (λ b. b || (joined g.offset_nodes a.place (pos a.unit) r.place (pos r.unit)).clash) h.quiet ∙ j.quiet; anchored = subst (λ o. Anchored o s) (sym e) an; fits = j.fits }

  items_fit : (is : List ExprTree) (s : Spot) (g : Grouping) → MeetAt t f s is → Fine s g → Fine s (items_joined t is g)
  items_fit [] s g m h = h
  items_fit (i ∷ is) s g m h = items_fit is s (named_joined t (item_name i) (item_position t i) g) m.2 (item_fits i s g m.0 m.1 h)

  -- ---- refusals

  module _ (begins : (x : List ℕ) (k : ℕ) (b : List ℕ) → place_of t x ≡ Some k → (f x).area ≡ block b → pos 0 ≤ℤ (f x).offset) where
    none_early : (ss : List OffsetNode) → Fits ss → (n k : ℕ) (r : OffsetNode) → slice_get ss k ≡ Some r → r.home ≡ Block n → int_lt r.offset (pos 0) ≡ false
    none_early ss h n k r e q =
        let b = h.housed k r n e q in
        let x = h.named k r e in
        let at : base r.home ≡ record { area = block b.0; offset = pos 0 } = ap base q ∙ blocks b.0 n b.1 in
        let here : f x.0 ≡ behind (record { area = block b.0; offset = pos 0 }) r.offset = h.based x.0 k r x.1 e ∙ ap (λ z. behind z r.offset) at in
        let least = begins x.0 k b.0 x.1 (ap (λ (z : Spot). z.area) here) in
        let offset : (f x.0).offset ≡ pos 0 +ℤ r.offset = ap (λ (z : Spot). z.offset) here in
        let from : pos 0 ≤ℤ r.offset = omega (arith, ints, least, offset) in
        not_less r.offset from
      where
        not_less : (z : ℤ) → pos 0 ≤ℤ z → int_lt z (pos 0) ≡ false
        not_less z l = go (int_lt z (pos 0)) refl
          where
            go : (c : Bool) → int_lt z (pos 0) ≡ c → int_lt z (pos 0) ≡ false
            go true q = absurd (grind (arith, ints))
            go false q = q

    none_before : (ss : List OffsetNode) → Fits ss → (h : Home) → is_block h ≡ true → begins_before ss h ≡ false
    none_before ss fits h inside = any_none (λ (s : OffsetNode). same_home s.home h && int_lt s.offset (pos 0)) ss one
      where
        n : (n : ℕ) × (h ≡ Block n)
        n = as_block h inside

        one : (k : ℕ) (r : OffsetNode) → slice_get ss k ≡ Some r → (same_home r.home h && int_lt r.offset (pos 0)) ≡ false
        one k r e = go (same_home r.home h) refl
          where
            go : (c : Bool) → same_home r.home h ≡ c → (c && int_lt r.offset (pos 0)) ≡ false
            go true q = none_early ss fits n.0 k r e (same_home-is r.home h q ∙ n.1)
            go false q = refl

    none_extends : (ss : List OffsetNode) → Fits ss → (is : List ExprTree) → items_extend t ss is ≡ false
    none_extends ss fits is = any_none (λ i. name_extends t ss (item_name i)) is (λ k i e. name_one (item_name i))
      where
        offset_node_one : (o : Option OffsetNode) → extends_back ss o ≡ false
        offset_node_one None = refl
        offset_node_one (Some s) = go (is_block s.home) refl
          where
            go : (c : Bool) → is_block s.home ≡ c → (c && begins_before ss s.home) ≡ false
            go true q = none_before ss fits s.home q
            go false q = refl

        place_one : (o : Option ℕ) → place_extends ss o ≡ false
        place_one None = refl
        place_one (Some n) = offset_node_one (slice_get ss n)

        name_one : (o : Option (List ℕ)) → name_extends t ss o ≡ false
        name_one None = refl
        name_one (Some x) = place_one (place_of t x)

    record Sound (s : Shared) : Type 0 where
      late : s.late ≡ None
      fits : Fits s.group.offset_nodes

    group_fits : (is : List ExprTree) (line : ℕ) (s : Shared) → GroupMeets t f is → Sound s → Sound (group_shared t is line s)
    group_fits is line s m h =
        let fine = items_fit is m.0 (begun s.group) m.1 (record { quiet = refl; anchored = tt; fits = h.fits }) in
        let g = items_joined t is (begun s.group) in
        record {
          late =
              ap (λ b. refuse_if b line EquivalenceExtendsBack (refuse_if g.clash line EquivalenceClash s.late)) (none_extends g.offset_nodes fine.fits is)
              ∙ not_refused line EquivalenceExtendsBack (refuse_if g.clash line EquivalenceClash s.late)
              ∙ ap (λ b. refuse_if b line EquivalenceClash s.late) fine.quiet
              ∙ not_refused line EquivalenceClash s.late
              ∙ h.late;
          fits = fine.fits;
        }

    groups_fit : (gs : List (List ExprTree)) (line : ℕ) (s : Shared) → AllByRecursion (GroupMeets t f) gs → Sound s → Sound (groups_shared t gs line s)
    groups_fit [] line s m h = h
    groups_fit (g ∷ gs) line s m h = groups_fit gs line (group_shared t g line s) m.1 (group_fits g line s m.0 h)

    decl_fits : (d : DeclTree) (line : ℕ) (s : Shared) → AllByRecursion (GroupMeets t f) (equivalences_in d) → Sound s → Sound (decl_shared t d line s)
    decl_fits (decl.equivalence gs) line s m h = groups_fit gs line s m h
    decl_fits (decl.implicit ps) line s m h = h
    decl_fits (decl.integer es) line s m h = h
    decl_fits (decl.logical es) line s m h = h
    decl_fits (decl.dimension es) line s m h = h
    decl_fits (decl.parameter ss) line s m h = h
    decl_fits (decl.common cs) line s m h = h
    decl_fits (decl.save is) line s m h = h
    decl_fits (decl.initial gs) line s m h = h

    decls_fit : (at : LineTable) (ds : List DeclTree) (n : ℕ) (s : Shared) → AllByRecursion (GroupMeets t f) (equivalences ds) → Sound s → Sound (decls_shared t at ds n s)
    decls_fit at [] n s m h = h
    decls_fit at (d ∷ ds) n s m h =
        let parts = all_parts (GroupMeets t f) (equivalences_in d) (equivalences ds) m in
        decls_fit at ds (n + 1) (decl_shared t d (line_or at (Decl n) 0) s) parts.1 (decl_fits d (line_or at (Decl n) 0) s parts.0 h)

    pub shared_quiet : (at : LineTable) (ds : List DeclTree) (ss : List OffsetNode) (found : Option Refusal) → AllByRecursion (GroupMeets t f) (equivalences ds) → Fits ss → (shared t at ds ss found).late ≡ None
    unfolding shared
    shared_quiet at ds ss found m h = (let r = decls_fit at ds 0 (unshared ss found) m (record { late = refl; fits = h }) in r.late)
