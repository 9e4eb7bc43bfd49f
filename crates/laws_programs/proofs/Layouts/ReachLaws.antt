-- How far blocks and groups reach: no farther than their variables would one behind the other.
use Rattle.std.proofs.Common.{◌≡◌, ℕ, zero, suc, ◌+◌, ◌≤◌, Bool, true, false, ℤ, pos, ◌+ℤ◌, ◌≤ℤ◌, List, [], ◌∷◌, ◌++◌, length, map, Option, Some, None, ◌⊎◌, inl, inr, refl, sym, ap, ◌∙◌, subst, arith}
use Rattle.std.specs.Prelude.{if◌then◌else◌, bytes_eq, nat_eq, slice_get, slice_set, is_some}
use Rattle.std.proofs.lemmas.Bool.{eqb-true, eqb-false}
use Rattle.std.proofs.lemmas.Int.{ints}
use Rattle.f77_ast.specs.Trees.{ExprTree, ExprTrees}
use Rattle.f77_ast.specs.Trees as tree
use Rattle.f77_ast.specs.DeclTrees.{EntityTree, CommonTree, DeclTree}
use Rattle.f77_ast.specs.DeclTrees as decl
use Rattle.f77_ast.specs.Places.{Dim, total_size}
use Rattle.f77_ast.specs.Symbols.{number_from}
use Rattle.f77_names.specs.declared.lines.Sited.TheVariants.{Decl}
use Rattle.fx_lists.specs.declared.refusal.Refusal.{Refusal}
use Rattle.f77_names.specs.Lines.{LineTable, line_or}
use Rattle.f77_names.specs.Entries.{EntryTree, find, place_in}
use Rattle.f77_names.specs.Tables.{NameTable}
use Rattle.f77_checks.specs.Dimensions.{dims_in}
use Rattle.storage_data.specs.declared.offset_node.Home.{Home}
use Rattle.storage_data.specs.declared.offset_node.Home.TheVariants.{Block, Own}
use Rattle.storage_data.specs.declared.offset_node.OffsetNode.{OffsetNode}
use Rattle.storage_data.specs.OffsetNodes.{same_home, is_block, alone_from}
use Rattle.storage_data.specs.Spans.{units_from, AreCompact}
use Rattle.storage_data.proofs.BlockLaws.{same_home-refl, same_home-is}
use Rattle.storage_data.proofs.SpanLaws.{has_units, joins_keep_compact}
use Rattle.storage_data.specs.Units.{place_of, units_by, units_of_entry, units_of}
use Rattle.storage_data.specs.Items.{item_name, numbers_of, position_at, element_position, item_position}
use Rattle.storage_layout.specs.declared.blocks.Laid.{Laid}
use Rattle.storage_layout.specs.declared.equivalences.Anchor.{Anchor}
use Rattle.storage_layout.specs.declared.equivalences.Grouping.{Grouping}
use Rattle.storage_layout.specs.declared.equivalences.Shared.{Shared}
use Rattle.storage_layout.specs.Blocks.{block_number, with_block, sits_in_block, put_at, put_there, member_put, members_put, part_put, parts_put, decl_put, decls_put}
use Rattle.storage_layout.specs.Equivalences.{may_join, clashes, unit_joined, at_place, named_joined, items_joined, begun, group_shared, groups_shared, decl_shared, decls_shared}
use Rattle.storage_layout.specs.Symbols.{alone, laid, unshared, shared}
use Rattle.laws_programs.proofs.Storage.PieceLaws.{entry_placed, closed_entry}
use Rattle.laws_programs.proofs.Storage.PositionLaws.{position_below}
use Rattle.fx_lists.proofs.Lookups.{set_here, set_other, get_more}

-- the units of a name, by its place
abbrev pub units_at : NameTable → ℕ → ℕ
units_at t n = units_of_entry t (slice_get t.entries n)

no_number : (n k : ℕ) (es : List EntryTree) (x : List ℕ) → find x es ≡ None → number_from n (map (λ e. e.name) es) x ≡ Some k → ⊥
unfolding find
no_number n k [] x f h = cc
no_number n k (e ∷ es) x f h = go (bytes_eq x e.name) f h (no_number (suc n) k es x)
  where
    go : (b : Bool) → (if b then Some e else find x es) ≡ None → (if b then Some n else number_from (suc n) (map (λ z. z.name) es) x) ≡ Some k → (find x es ≡ None → number_from (suc n) (map (λ z. z.name) es) x ≡ Some k → ⊥) → ⊥
    go true f h ih = cc
    go false f h ih = ih f h

not_placed : (es : List EntryTree) (x : List ℕ) (k : ℕ) → find x es ≡ None → place_in es x ≡ Some k → ⊥
unfolding place_in
not_placed es x k f h = no_number 0 k es x f h

pub placed_units : (t : NameTable) (x : List ℕ) (k : ℕ) → place_of t x ≡ Some k → units_of t x ≡ units_at t k
placed_units t x k p = go (find x t.entries) refl
  where
    go : (o : Option EntryTree) → find x t.entries ≡ o → units_of t x ≡ units_at t k
    go None f = absurd (not_placed t.entries x k f p)
    go (Some e) f = ap (units_of_entry t) (f ∙ sym (entry_placed t.entries x k e p f))

-- ---- COMMON

get_before : {X : Type 0} (xs : List X) (v : X) (n : ℕ) (x : X) → slice_get (xs ++ v ∷ []) n ≡ Some x → (slice_get xs n ≡ Some x) ⊎ (v ≡ x)
get_before [] v zero x e = let same : v ≡ x = cc in inr same
get_before [] v (suc n) x e = cc
get_before (y ∷ xs) v zero x e = inl e
get_before (y ∷ xs) v (suc n) x e = get_before xs v n x e

set_get : {X : Type 0} (xs : List X) (i : ℕ) (v : X) (n : ℕ) (x : X) → slice_get (slice_set xs i v) n ≡ Some x → ((slice_get xs n ≡ Some x) × (i ≡ n → ⊥)) ⊎ ((n ≡ i) × (v ≡ x))
set_get [] zero v n x e = inl (e, λ q. absurd (nothing n e))
  where
    nothing : (k : ℕ) → slice_get [] k ≡ Some x → ⊥
    nothing zero f = cc
    nothing (suc k) f = cc
set_get [] (suc i) v n x e = inl (e, λ q. absurd (nothing n e))
  where
    nothing : (k : ℕ) → slice_get [] k ≡ Some x → ⊥
    nothing zero f = cc
    nothing (suc k) f = cc
set_get (y ∷ xs) zero v zero x e = let same : v ≡ x = cc in inr (refl, same)
set_get (y ∷ xs) zero v (suc n) x e = inl (e, λ q. cc)
set_get (y ∷ xs) (suc i) v zero x e = inl (e, λ q. cc)
set_get (y ∷ xs) (suc i) v (suc n) x e = elim (set_get xs i v n x e) [ inl a ↦ inl (a.0, λ q. a.1 (less i n q)) | inr b ↦ inr (ap suc b.0, b.1) ]
  where
    less : (a b : ℕ) → suc a ≡ suc b → a ≡ b
    less a b q = omega (arith, q)

module _ (units : ℕ → ℕ) where
  -- another variable of a group
  set_more : (ss : List OffsetNode) (k n : ℕ) (h : Home) (old new : OffsetNode) → slice_get ss n ≡ Some old → same_home old.home h ≡ false → same_home new.home h ≡ true → units_from units k h ss + units (k + n) ≤ units_from units k h (slice_set ss n new)
  set_more [] k zero h old new e f t = cc
  set_more [] k (suc n) h old new e f t = cc
  set_more (s ∷ ss) k zero h old new e f t =
      let same : s ≡ old = cc in
      let none : (if same_home s.home h then units k else 0) ≡ 0 = ap (λ b. if b then units k else 0) (ap (λ (z : OffsetNode). same_home z.home h) same ∙ f) in
      let some : (if same_home new.home h then units k else 0) ≡ units k = ap (λ b. if b then units k else 0) t in
      let at : units (k + 0) ≡ units k = ap units (omega arith) in
      omega (arith, none, some, at)
  set_more (s ∷ ss) k (suc n) h old new e f t =
      let rest = set_more ss (k + 1) n h old new e f t in
      let at : units (k + 1 + n) ≡ units (k + suc n) = ap units (omega arith) in
      omega (arith, rest, at)

  -- the other groups lose nothing
  set_keeps : (ss : List OffsetNode) (k n : ℕ) (h : Home) (old new : OffsetNode) → slice_get ss n ≡ Some old → same_home old.home h ≡ false → units_from units k h ss ≤ units_from units k h (slice_set ss n new)
  set_keeps [] k zero h old new e f = cc
  set_keeps [] k (suc n) h old new e f = cc
  set_keeps (s ∷ ss) k zero h old new e f =
      let same : s ≡ old = cc in
      let none : (if same_home s.home h then units k else 0) ≡ 0 = ap (λ b. if b then units k else 0) (ap (λ (z : OffsetNode). same_home z.home h) same ∙ f) in
      omega (arith, none)
  set_keeps (s ∷ ss) k (suc n) h old new e f = let rest = set_keeps ss (k + 1) n h old new e f in omega (arith, rest)

-- a variable ends within the size of its block
record Inside (t : NameTable) (sizes : List ℕ) (n : ℕ) (s : OffsetNode) (b : ℕ) : Type 0 where
  from : ℕ
  at : s.offset ≡ pos from
  size : ℕ
  is_size : slice_get sizes b ≡ Some size
  within : from + units_at t n ≤ size

-- what is in no block is alone, and blocks are no larger than their variables
record Stacked (t : NameTable) (l : Laid) : Type 0 where
  lone : (n : ℕ) (s : OffsetNode) → slice_get l.offset_nodes n ≡ Some s → is_block s.home ≡ false → s.offset ≡ pos 0
  inside : (n : ℕ) (s : OffsetNode) (b : ℕ) → slice_get l.offset_nodes n ≡ Some s → s.home ≡ Block b → Inside t l.sizes n s b
  sized : (b size : ℕ) → slice_get l.sizes b ≡ Some size → size ≤ units_from (units_at t) 0 (Block b) l.offset_nodes

module _ (t : NameTable) where
  block_stacked : (x : List ℕ) (o : Option ℕ) (l : Laid) → Stacked t l → Stacked t (with_block x o l)
  block_stacked x None l h = record {
    lone = h.lone;
    inside = λ n s b e q. (let i = h.inside n s b e q in record { from = i.from; at = i.at; size = i.size; is_size = get_more l.sizes b 0 i.size i.is_size; within = i.within });
    sized = λ b size e. new b size (get_before l.sizes 0 b size e);
  }
    where
      new : (b size : ℕ) → (slice_get l.sizes b ≡ Some size) ⊎ (0 ≡ size) → size ≤ units_from (units_at t) 0 (Block b) l.offset_nodes
      new b size (inl q) = h.sized b size q
      new b size (inr q) = omega (arith, q)
  block_stacked x (Some n) l h = h

  put_stacked : (units k n size : ℕ) (l : Laid) (old : OffsetNode) → units ≡ units_at t k → slice_get l.offset_nodes k ≡ Some old → is_block old.home ≡ false → slice_get l.sizes n ≡ Some size → Stacked t l → Stacked t (put_at units k n (Some size) l)
  put_stacked units k n size l old u e free is h = record { lone = lone_now; inside = inside_now; sized = sized_now }
    where
      new : OffsetNode
      new = record { home = Block n; offset = pos size }

      no_block : (x : Home) (b : ℕ) → is_block x ≡ false → same_home x (Block b) ≡ false
      no_block (Block a) b f = cc
      no_block (Own a) b f = refl

      lone_now : (m : ℕ) (s : OffsetNode) → slice_get (slice_set l.offset_nodes k new) m ≡ Some s → is_block s.home ≡ false → s.offset ≡ pos 0
      lone_now m s q f = go (set_get l.offset_nodes k new m s q)
        where
          go : ((slice_get l.offset_nodes m ≡ Some s) × (k ≡ m → ⊥)) ⊎ ((m ≡ k) × (new ≡ s)) → s.offset ≡ pos 0
          go (inl a) = h.lone m s a.0 f
          go (inr b) = let z : true ≡ false = ap (λ (y : OffsetNode). is_block y.home) b.1 ∙ f in cc

      grown : (b x : ℕ) → slice_get l.sizes b ≡ Some x → (y : ℕ) × (slice_get (slice_set l.sizes n (size + units)) b ≡ Some y) × (x ≤ y)
      grown b x q = go (nat_eq n b) refl
        where
          go : (c : Bool) → nat_eq n b ≡ c → (y : ℕ) × (slice_get (slice_set l.sizes n (size + units)) b ≡ Some y) × (x ≤ y)
          go true w =
              let same : n ≡ b = eqb-true n b w in
              let one : Some size ≡ Some x = sym is ∙ ap (slice_get l.sizes) same ∙ q in
              let at : size ≡ x = cc in
              (size + units, ap (slice_get (slice_set l.sizes n (size + units))) (sym same) ∙ set_here l.sizes n (size + units) size is, omega (arith, at))
          go false w = (x, set_other l.sizes n b (size + units) (eqb-false n b w) ∙ q, omega arith)

      inside_now : (m : ℕ) (s : OffsetNode) (b : ℕ) → slice_get (slice_set l.offset_nodes k new) m ≡ Some s → s.home ≡ Block b → Inside t (slice_set l.sizes n (size + units)) m s b
      inside_now m s b q w = go (set_get l.offset_nodes k new m s q)
        where
          go : ((slice_get l.offset_nodes m ≡ Some s) × (k ≡ m → ⊥)) ⊎ ((m ≡ k) × (new ≡ s)) → Inside t (slice_set l.sizes n (size + units)) m s b
          go (inl a) =
              let i = h.inside m s b a.0 w in
              let g = grown b i.size i.is_size in
              record { from = i.from; at = i.at; size = g.0; is_size = g.1; within = omega (arith, i.within, g.2) }
          go (inr a) =
              let same : Block n ≡ Block b = ap (λ (y : OffsetNode). y.home) a.1 ∙ w in
              let one : n ≡ b = cc in
              let more : units ≡ units_at t m = u ∙ ap (units_at t) (sym a.0) in
              record { from = size; at = ap (λ (y : OffsetNode). y.offset) (sym a.1); size = size + units; is_size = ap (slice_get (slice_set l.sizes n (size + units))) (sym one) ∙ set_here l.sizes n (size + units) size is; within = omega (arith, more) }

      sized_now : (b x : ℕ) → slice_get (slice_set l.sizes n (size + units)) b ≡ Some x → x ≤ units_from (units_at t) 0 (Block b) (slice_set l.offset_nodes k new)
      sized_now b x q = go (set_get l.sizes n (size + units) b x q)
        where
          go : ((slice_get l.sizes b ≡ Some x) × (n ≡ b → ⊥)) ⊎ ((b ≡ n) × (size + units ≡ x)) → x ≤ units_from (units_at t) 0 (Block b) (slice_set l.offset_nodes k new)
          go (inl a) =
              let old_most = h.sized b x a.0 in
              let keeps = set_keeps (units_at t) l.offset_nodes 0 k (Block b) old new e (no_block old.home b free) in
              omega (arith, old_most, keeps)
          go (inr a) =
              let here : same_home (Block n) (Block b) ≡ true = ap (λ i. same_home (Block n) (Block i)) a.0 ∙ same_home-refl (Block n) in
              let old_most : size ≤ units_from (units_at t) 0 (Block b) l.offset_nodes = h.sized b size (ap (slice_get l.sizes) a.0 ∙ is) in
              let more = set_more (units_at t) l.offset_nodes 0 k (Block b) old new e (no_block old.home b free) here in
              let zero_on : 0 + k ≡ k = omega arith in
              let at : units_at t (0 + k) ≡ units = ap (units_at t) zero_on ∙ sym u in
              omega (arith, old_most, more, at, a.1)

  there_stacked : (units k : ℕ) (o : Option ℕ) (l : Laid) (old : OffsetNode) → units ≡ units_at t k → slice_get l.offset_nodes k ≡ Some old → is_block old.home ≡ false → Stacked t l → Stacked t (put_there units k o l)
  there_stacked units k None l old u e free h = h
  there_stacked units k (Some n) l old u e free h = go (slice_get l.sizes n) refl
    where
      go : (o : Option ℕ) → slice_get l.sizes n ≡ o → Stacked t (put_at units k n o l)
      go None q = h
      go (Some size) q = put_stacked units k n size l old u e free q h

  member_stacked : (block : List ℕ) (e : EntityTree) (o : Option ℕ) (l : Laid) → place_of t e.name ≡ o → Stacked t l → Stacked t (member_put t block e o l)
  member_stacked block e None l p h = h
  member_stacked block e (Some k) l p h = seated (slice_get l.offset_nodes k) refl
    where
      seated : (s : Option OffsetNode) → slice_get l.offset_nodes k ≡ s → Stacked t (if sits_in_block s then l else put_there (units_of t e.name) k (block_number l.names block) l)
      seated None q = h
      seated (Some old) q = go (is_block old.home) refl
        where
          go : (b : Bool) → is_block old.home ≡ b → Stacked t (if b then l else put_there (units_of t e.name) k (block_number l.names block) l)
          go true w = h
          go false w = there_stacked (units_of t e.name) k (block_number l.names block) l old (placed_units t e.name k p) q w h

  members_stacked : (block : List ℕ) (es : List EntityTree) (l : Laid) → Stacked t l → Stacked t (members_put t block es l)
  members_stacked block [] l h = h
  members_stacked block (e ∷ es) l h = members_stacked block es (member_put t block e (place_of t e.name) l) (member_stacked block e (place_of t e.name) l refl h)

  parts_stacked : (cs : List CommonTree) (l : Laid) → Stacked t l → Stacked t (parts_put t cs l)
  parts_stacked [] l h = h
  parts_stacked (c ∷ cs) l h =
      parts_stacked cs (part_put t c l)
      (members_stacked c.block c.members (with_block c.block (block_number l.names c.block) l) (block_stacked c.block (block_number l.names c.block) l h))

  decl_stacked : (d : DeclTree) (l : Laid) → Stacked t l → Stacked t (decl_put t d l)
  decl_stacked (decl.common cs) l h = parts_stacked cs l h
  decl_stacked (decl.implicit ps) l h = h
  decl_stacked (decl.integer es) l h = h
  decl_stacked (decl.logical es) l h = h
  decl_stacked (decl.dimension es) l h = h
  decl_stacked (decl.parameter ss) l h = h
  decl_stacked (decl.equivalence gs) l h = h
  decl_stacked (decl.save is) l h = h
  decl_stacked (decl.initial gs) l h = h

  decls_stacked : (ds : List DeclTree) (l : Laid) → Stacked t l → Stacked t (decls_put t ds l)
  decls_stacked [] l h = h
  decls_stacked (d ∷ ds) l h = decls_stacked ds (decl_put t d l) (decl_stacked d l h)

  alone_at : (k c n : ℕ) (s : OffsetNode) → slice_get (alone_from k c) n ≡ Some s → (is_block s.home ≡ false) × (s.offset ≡ pos 0)
  alone_at k zero zero s e = cc
  alone_at k zero (suc n) s e = cc
  alone_at k (suc c) zero s e = let same : record { home = Own k; offset = pos 0 } ≡ s = cc in (ap (λ (z : OffsetNode). is_block z.home) (sym same), ap (λ (z : OffsetNode). z.offset) (sym same))
  alone_at k (suc c) (suc n) s e = alone_at (k + 1) c n s e

  no_size : (b size : ℕ) → slice_get [] b ≡ Some size → ⊥
  no_size zero size e = cc
  no_size (suc b) size e = cc

  all_alone : Stacked t (alone t)
  all_alone = record {
    lone = λ n s e f. (alone_at 0 (length t.entries) n s e).1;
    inside = λ n s b e q. absurd (let z : true ≡ false = ap is_block (sym q) ∙ (alone_at 0 (length t.entries) n s e).0 in cc);
    sized = λ b size e. absurd (no_size b size e);
  }

  stacked_compact : (l : Laid) → Stacked t l → AreCompact (units_at t) l.offset_nodes
  stacked_compact l h (Own m) = record { low = pos 0; begin = λ i. omega (arith, ints); lie = λ n s e q. lies n s e q }
    where
      own : (x : Home) → same_home x (Own m) ≡ true → is_block x ≡ false
      own (Block b) q = cc
      own (Own n) q = refl

      lies : (n : ℕ) (s : OffsetNode) → slice_get l.offset_nodes n ≡ Some s → same_home s.home (Own m) ≡ true → (pos 0 ≤ℤ s.offset) × ((s.offset +ℤ pos (units_at t n)) ≤ℤ (pos 0 +ℤ pos (units_from (units_at t) 0 (Own m) l.offset_nodes)))
      lies n s e q =
          let at = h.lone n s e (own s.home q) in
          let zero_on : 0 + n ≡ n = omega arith in
          let has : units_at t n ≤ units_from (units_at t) 0 (Own m) l.offset_nodes = subst (λ k. units_at t k ≤ units_from (units_at t) 0 (Own m) l.offset_nodes) zero_on (has_units (units_at t) l.offset_nodes 0 n (Own m) s e q) in
          (omega (arith, ints, at), omega (arith, ints, at, has))
  stacked_compact l h (Block b) = record { low = pos 0; begin = λ i. omega (arith, ints); lie = λ n s e q. lies n s e q }
    where
      lies : (n : ℕ) (s : OffsetNode) → slice_get l.offset_nodes n ≡ Some s → same_home s.home (Block b) ≡ true → (pos 0 ≤ℤ s.offset) × ((s.offset +ℤ pos (units_at t n)) ≤ℤ (pos 0 +ℤ pos (units_from (units_at t) 0 (Block b) l.offset_nodes)))
      lies n s e q =
          let i = h.inside n s b e (same_home-is s.home (Block b) q) in
          let most = h.sized b i.size i.is_size in
          (omega (arith, ints, i.at), omega (arith, ints, i.at, i.within, most))

  -- ---- EQUIVALENCE

  -- the unit of an item is one of its variable, or the first behind it
  item_within : (i : ExprTree) (x : List ℕ) (k u : ℕ) → item_name i ≡ Some x → place_of t x ≡ Some k → item_position t i ≡ Some u → u ≤ units_at t k
  item_within (tree.name y) x k u n p e = let none : 0 ≡ u = cc in omega (arith, none)
  item_within (tree.element y es) x k u n p e =
      let same : y ≡ x = cc in
      found (find x t.entries) refl (ap (λ z. element_position t (find z t.entries) es) (sym same) ∙ e)
    where
      found : (o : Option EntryTree) → find x t.entries ≡ o → element_position t o es ≡ Some u → u ≤ units_at t k
      found None f q = cc
      found (Some d) f q = sized (dims_in t d) refl q
        where
          sized : (o : Option (List Dim)) → dims_in t d ≡ o → position_at o (numbers_of t es) ≡ Some u → u ≤ units_at t k
          sized None w q = cc
          sized (Some ds) w q = numbered (numbers_of t es) q
            where
              numbered : (o : Option (List ℤ)) → position_at (Some ds) o ≡ Some u → u ≤ units_at t k
              numbered None r = cc
              numbered (Some ns) r =
                  let below = position_below ds ns u (closed_entry t (is_some d.dummy) d.shape ds w) r in
                  let units : units_at t k ≡ total_size ds = ap (units_of_entry t) (entry_placed t.entries x k d p f) ∙ ap units_by w in
                  omega (arith, below, units)
  item_within (tree.int m) x k u n p e = cc
  item_within (tree.log b) x k u n p e = cc
  item_within (tree.paren y) x k u n p e = cc
  item_within (tree.unary o y) x k u n p e = cc
  item_within (tree.binary o a b) x k u n p e = cc
  item_within (tree.chars y) x k u n p e = cc

  -- groups are compact, and the anchor is a unit of its variable
  record Held (g : Grouping) : Type 0 where
    offset_nodes : AreCompact (units_at t) g.offset_nodes
    anchored : (a : Anchor) → g.anchor ≡ Some a → a.unit ≤ units_at t a.place

  unit_held : (o : Option Anchor) (k u : ℕ) (g : Grouping) → g.anchor ≡ o → u ≤ units_at t k → Held g → Held (unit_joined o k u g)
  unit_held None k u g q w h = record { offset_nodes = h.offset_nodes; anchored = λ a e. (let same : record { place = k; unit = u } ≡ a = cc in subst (λ (z : Anchor). z.unit ≤ units_at t z.place) same w) }
  unit_held (Some b) k u g q w h = record { offset_nodes = joins_keep_compact (units_at t) g.offset_nodes b.place b.unit k u (h.anchored b q) w h.offset_nodes; anchored = h.anchored }

  place_held : (i : ExprTree) (x : List ℕ) (g : Grouping) (o : Option ℕ) (v : Option ℕ) → item_name i ≡ Some x → place_of t x ≡ o → item_position t i ≡ v → Held g → Held (at_place o v g)
  place_held i x g None v n p e h = record { offset_nodes = h.offset_nodes; anchored = h.anchored }
  place_held i x g (Some k) None n p e h = record { offset_nodes = h.offset_nodes; anchored = h.anchored }
  place_held i x g (Some k) (Some u) n p e h = unit_held g.anchor k u g refl (item_within i x k u n p e) h

  item_held : (i : ExprTree) (g : Grouping) → Held g → Held (named_joined t (item_name i) (item_position t i) g)
  item_held i g h = go (item_name i) refl
    where
      joins : (b : Bool) (x : List ℕ) → item_name i ≡ Some x → Held (if b then at_place (place_of t x) (item_position t i) g else clashes g)
      joins true x n = place_held i x g (place_of t x) (item_position t i) n refl refl h
      joins false x n = record { offset_nodes = h.offset_nodes; anchored = h.anchored }

      go : (o : Option (List ℕ)) → item_name i ≡ o → Held (named_joined t o (item_position t i) g)
      go None n = record { offset_nodes = h.offset_nodes; anchored = h.anchored }
      go (Some x) n = joins (may_join (find x t.entries)) x n

  items_held : (is : List ExprTree) (g : Grouping) → Held g → Held (items_joined t is g)
  items_held [] g h = h
  items_held (i ∷ is) g h = items_held is (named_joined t (item_name i) (item_position t i) g) (item_held i g h)

  groups_held : (gs : List (List ExprTree)) (line : ℕ) (s : Shared) → AreCompact (units_at t) s.group.offset_nodes → AreCompact (units_at t) (groups_shared t gs line s).group.offset_nodes
  groups_held [] line s h = h
  groups_held (g ∷ gs) line s h = groups_held gs line (group_shared t g line s) (items_held g (begun s.group) (record { offset_nodes = h; anchored = λ a e. cc })).offset_nodes

  decl_held : (d : DeclTree) (line : ℕ) (s : Shared) → AreCompact (units_at t) s.group.offset_nodes → AreCompact (units_at t) (decl_shared t d line s).group.offset_nodes
  decl_held (decl.equivalence gs) line s h = groups_held gs line s h
  decl_held (decl.implicit ps) line s h = h
  decl_held (decl.integer es) line s h = h
  decl_held (decl.logical es) line s h = h
  decl_held (decl.dimension es) line s h = h
  decl_held (decl.parameter ss) line s h = h
  decl_held (decl.common cs) line s h = h
  decl_held (decl.save is) line s h = h
  decl_held (decl.initial gs) line s h = h

  decls_held : (at : LineTable) (ds : List DeclTree) (n : ℕ) (s : Shared) → AreCompact (units_at t) s.group.offset_nodes → AreCompact (units_at t) (decls_shared t at ds n s).group.offset_nodes
  decls_held at [] n s h = h
  decls_held at (d ∷ ds) n s h = let line = line_or at (Decl n) 0 in decls_held at ds (n + 1) (decl_shared t d line s) (decl_held d line s h)

-- ---- what is laid out

laid_compact : (t : NameTable) (ds : List DeclTree) → AreCompact (units_at t) (laid t ds).offset_nodes
unfolding laid
laid_compact t ds = stacked_compact t (laid t ds) (decls_stacked t ds (alone t) (all_alone t))

pub shared_compact : (t : NameTable) (at : LineTable) (ds : List DeclTree) (found : Option Refusal) → AreCompact (units_at t) (shared t at ds (laid t ds).offset_nodes found).group.offset_nodes
unfolding shared
shared_compact t at ds found = decls_held t at ds 0 (unshared (laid t ds).offset_nodes found) (laid_compact t ds)
