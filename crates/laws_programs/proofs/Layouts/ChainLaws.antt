-- Variables in one group or block are associated by chains of COMMON and EQUIVALENCE.
use Rattle.std.proofs.Common.{◌≡◌, ℕ, zero, suc, ◌+◌, ◌-◌, Bool, true, false, ℤ, pos, ◌+ℤ◌, ◌-ℤ◌, List, [], ◌∷◌, ◌++◌, map, Option, Some, None, ◌⊎◌, inl, inr, refl, sym, ap, ◌∙◌, subst, arith}
use Rattle.std.specs.Prelude.{slice_get, not, neg_ℤ, if◌then◌else◌, unwrap_or}
use Rattle.std.specs.Option.{option_map}
use Rattle.std.specs.Ordering.{int_eq}
use Rattle.f77_ast.specs.Trees.{ExprTree, ExprTrees}
use Rattle.f77_ast.specs.Trees as tree
use Rattle.f77_ast.specs.DeclTrees.{DeclTree}
use Rattle.f77_ast.specs.DeclTrees as decl
use Rattle.fx_lists.specs.declared.refusal.Refusal.{Refusal}
use Rattle.f77_names.specs.declared.lines.Sited.TheVariants.{Decl}
use Rattle.f77_names.specs.Lines.{LineTable, line_or}
use Rattle.f77_names.specs.Entries.{find, place_in}
use Rattle.f77_names.specs.Tables.{NameTable}
use Rattle.tracked_cells.specs.Equivalences.{item_names}
use Rattle.tracked_cells.specs.Equivalences as names
use Rattle.storage_data.specs.declared.offset_node.Home.{Home}
use Rattle.storage_data.specs.declared.offset_node.OffsetNode.{OffsetNode}
use Rattle.storage_data.specs.OffsetNodes.{same_home, is_block, move_offset_node, all_moved, Joined, joined_at, joined_offset_nodes, joined}
use Rattle.storage_data.proofs.BlockLaws.{same_home-is}
use Rattle.storage_data.specs.Units.{place_of}
use Rattle.storage_data.specs.Items.{item_name, item_position}
use Rattle.storage_layout.specs.declared.equivalences.Anchor.{Anchor}
use Rattle.storage_layout.specs.declared.equivalences.Grouping.{Grouping}
use Rattle.storage_layout.specs.declared.equivalences.Shared.{Shared}
use Rattle.storage_layout.specs.Equivalences.{may_join, clashes, unit_joined, at_place, named_joined, items_joined, begun, group_shared, groups_shared, decl_shared, decls_shared}
use Rattle.storage_layout.specs.Symbols.{unshared, shared}
use Rattle.storage_layout.specs.Statements.{equivalences_in, equivalences, Has}
use Rattle.laws_programs.specs.Layout.Layout.{Together, in_block, in_group, IsChain, Chained}
use Rattle.laws_programs.proofs.Layouts.CommonLaws.{number_gets}
use Rattle.storage_data.proofs.BlockLaws.{moved_get}

-- ---- lists

pub has_left : {A : Type 0} (xs ys : List A) (x : A) → Has xs x → Has (xs ++ ys) x
has_left [] ys x (zero, e) = cc
has_left [] ys x (suc i, e) = cc
has_left (z ∷ xs) ys x (zero, e) = (zero, e)
has_left (z ∷ xs) ys x (suc i, e) = let r = has_left xs ys x (i, e) in (suc r.0, r.1)

pub has_right : {A : Type 0} (xs ys : List A) (x : A) → Has ys x → Has (xs ++ ys) x
has_right [] ys x h = h
has_right (z ∷ xs) ys x h = let r = has_right xs ys x h in (suc r.0, r.1)

-- ---- chains

module _ (ds : List DeclTree) where
  together_turned : (x y : List ℕ) → Together ds x y → Together ds y x
  together_turned x y (in_block b h k) = in_block b k h
  together_turned x y (in_group g i h k) = in_group g i k h

  chain_then : (x : List ℕ) (zs : List (List ℕ)) (y w : List ℕ) → IsChain ds x zs y → Chained ds y w → Chained ds x w
  chain_then x [] y w h k = (y ∷ k.0, (h, k.1))
  chain_then x (z ∷ zs) y w h k = let r = chain_then z zs y w h.1 k in (z ∷ r.0, (h.0, r.1))

  chain_turned : (x : List ℕ) (zs : List (List ℕ)) (y : List ℕ) → IsChain ds x zs y → Chained ds y x
  chain_turned x [] y h = ([], together_turned x y h)
  chain_turned x (z ∷ zs) y h = let r = chain_turned z zs y h.1 in chain_then y r.0 z x r.1 ([], together_turned x z h.0)

  module _ (t : NameTable) where
    abbrev pub name_at : ℕ → List ℕ
    name_at k = unwrap_or (slice_get (map (λ e. e.name) t.entries) k) []

    pub name_placed : (x : List ℕ) (k : ℕ) → place_of t x ≡ Some k → name_at k ≡ x
    unfolding place_in
    name_placed x k h = let same : k - 0 ≡ k = omega arith in ap (λ o. unwrap_or o []) (ap (slice_get (map (λ e. e.name) t.entries)) (sym same) ∙ number_gets 0 k (map (λ e. e.name) t.entries) x h)

    -- two places are one, or their names are associated
    abbrev pub Linked : ℕ → ℕ → Type 0
    Linked m n = (m ≡ n) ⊎ Chained ds (name_at m) (name_at n)

    linked_turned : (m n : ℕ) → Linked m n → Linked n m
    linked_turned m n (inl e) = inl (sym e)
    linked_turned m n (inr c) = inr (chain_turned (name_at m) c.0 (name_at n) c.1)

    linked_then : (m n o : ℕ) → Linked m n → Linked n o → Linked m o
    linked_then m n o (inl e) k = subst (λ z. Linked z o) (sym e) k
    linked_then m n o (inr c) (inl e) = subst (λ z. Linked m z) e (inr c)
    linked_then m n o (inr c) (inr d) = inr (chain_then (name_at m) c.0 (name_at n) (name_at o) c.1 d)

    -- what lies in one group or block is linked
    abbrev pub HomesLink : List OffsetNode → Type 0
    HomesLink ss = (m n : ℕ) (s r : OffsetNode) → slice_get ss m ≡ Some s → slice_get ss n ≡ Some r → s.home ≡ r.home → Linked m n

    -- ---- joins

    pub record Old (ss : List OffsetNode) (from to : Home) (shift : ℤ) (m : ℕ) (s : OffsetNode) : Type 0 where
      pub old : OffsetNode
      pub is : slice_get ss m ≡ Some old
      pub now : move_offset_node from to shift old ≡ s

    pub old_of : (ss : List OffsetNode) (from to : Home) (shift : ℤ) (m : ℕ) (s : OffsetNode) → slice_get (all_moved from to shift ss) m ≡ Some s → Old ss from to shift m s
    old_of ss from to shift m s e = go (slice_get ss m) refl (sym (moved_get ss from to shift m) ∙ e)
      where
        go : (o : Option OffsetNode) → slice_get ss m ≡ o → option_map (move_offset_node from to shift) o ≡ Some s → Old ss from to shift m s
        go None q k = cc
        go (Some r) q k = let same : move_offset_node from to shift r ≡ s = cc in record { old = r; is = q; now = same }

    -- where an offset node went
    pub home_now : (from to : Home) (shift : ℤ) (o s : OffsetNode) (b : Bool) → same_home o.home from ≡ b → move_offset_node from to shift o ≡ s → s.home ≡ (if b then to else o.home)
    home_now from to shift o s b q e = ap (λ (z : OffsetNode). z.home) (sym e) ∙ go b q
      where
        go : (c : Bool) → same_home o.home from ≡ c → (move_offset_node from to shift o).home ≡ (if c then to else o.home)
        go true k = ap (λ z. (let r : OffsetNode = if z then record { home = to; offset = o.offset +ℤ shift } else o in r.home)) k
        go false k = ap (λ z. (let r : OffsetNode = if z then record { home = to; offset = o.offset +ℤ shift } else o in r.home)) k

    moved_link : (ss : List OffsetNode) (from to : Home) (shift : ℤ) (i j : ℕ) (a b : OffsetNode) → slice_get ss i ≡ Some a → a.home ≡ from → slice_get ss j ≡ Some b → b.home ≡ to → Linked i j → HomesLink ss → HomesLink (all_moved from to shift ss)
    moved_link ss from to shift i j a b at_i from_i at_j to_j link h m n s r e f same =
        let x = old_of ss from to shift m s e in
        let y = old_of ss from to shift n r f in
        go (same_home x.old.home from) (same_home y.old.home from) x refl y refl
      where
        go : (c d : Bool) (x : Old ss from to shift m s) → same_home x.old.home from ≡ c → (y : Old ss from to shift n r) → same_home y.old.home from ≡ d → Linked m n
        go true true x p y q = h m n x.old y.old x.is y.is (same_home-is x.old.home from p ∙ sym (same_home-is y.old.home from q))
        go true false x p y q =
            let there : to ≡ y.old.home = sym (home_now from to shift x.old s true p x.now) ∙ same ∙ home_now from to shift y.old r false q y.now in
            linked_then m i n (h m i x.old a x.is at_i (same_home-is x.old.home from p ∙ sym from_i)) (linked_then i j n link (h j n b y.old at_j y.is (to_j ∙ there)))
        go false true x p y q =
            let there : x.old.home ≡ to = sym (home_now from to shift x.old s false p x.now) ∙ same ∙ home_now from to shift y.old r true q y.now in
            linked_then m j n (h m j x.old b x.is at_j (there ∙ sym to_j)) (linked_then j i n (linked_turned i j link) (h i n a y.old at_i y.is (from_i ∙ sym (same_home-is y.old.home from q))))
        go false false x p y q =
            let together : x.old.home ≡ y.old.home = sym (home_now from to shift x.old s false p x.now) ∙ same ∙ home_now from to shift y.old r false q y.now in
            h m n x.old y.old x.is y.is together

    at_link : (ss : List OffsetNode) (i j : ℕ) (a b : OffsetNode) (shift : ℤ) → slice_get ss i ≡ Some a → slice_get ss j ≡ Some b → Linked i j → HomesLink ss → HomesLink (joined_at ss a b shift).offset_nodes
    at_link ss i j a b shift e f link h = go (same_home a.home b.home) (is_block b.home) (is_block a.home)
      where
        go : (same inner outer : Bool) → HomesLink (let r : Joined = if same then record { offset_nodes = ss; clash = not (int_eq shift (pos 0)) } else if inner then (if outer then record { offset_nodes = ss; clash = true } else record { offset_nodes = all_moved a.home b.home (neg_ℤ shift) ss; clash = false }) else record { offset_nodes = all_moved b.home a.home shift ss; clash = false } in r.offset_nodes)
        go true inner outer = h
        go false true true = h
        go false true false = moved_link ss a.home b.home (neg_ℤ shift) i j a b e refl f refl link h
        go false false outer = moved_link ss b.home a.home shift j i b a f refl e refl (linked_turned i j link) h

    pub joined_link : (ss : List OffsetNode) (i : ℕ) (p : ℤ) (j : ℕ) (q : ℤ) → Linked i j → HomesLink ss → HomesLink (joined ss i p j q).offset_nodes
    joined_link ss i p j q link h = go (slice_get ss i) (slice_get ss j) refl refl
      where
        go : (x y : Option OffsetNode) → slice_get ss i ≡ x → slice_get ss j ≡ y → HomesLink (joined_offset_nodes ss x p y q).offset_nodes
        go None y e f = h
        go (Some a) None e f = h
        go (Some a) (Some b) e f = at_link ss i j a b ((a.offset +ℤ p) -ℤ (b.offset +ℤ q)) e f link h

    -- ---- the items of a group

    record Linking (all : List ExprTree) (g : Grouping) : Type 0 where
      link : HomesLink g.offset_nodes
      anchored : (a : Anchor) → g.anchor ≡ Some a → Has (item_names all) (name_at a.place)

    unit_links : (all : List ExprTree) → Has (equivalences ds) all → (g : Grouping) (o : Option Anchor) → g.anchor ≡ o → (k u : ℕ) → Has (item_names all) (name_at k) → Linking all g → Linking all (unit_joined o k u g)
    unit_links all group g None q k u has h = record { link = h.link; anchored = λ a e. (let one : record { place = k; unit = u } ≡ a = cc in subst (λ (z : Anchor). Has (item_names all) (name_at z.place)) one has) }
    unit_links all group g (Some b) q k u has h = record {
      link = joined_link g.offset_nodes b.place (pos b.unit) k (pos u) (inr ([], in_group all group (h.anchored b q) has)) h.link;
      anchored = h.anchored;
    }

    named_links : (all : List ExprTree) → Has (equivalences ds) all → (o : Option (List ℕ)) (u : Option ℕ) (g : Grouping) → ((x : List ℕ) → o ≡ Some x → Has (item_names all) x) → Linking all g → Linking all (named_joined t o u g)
    named_links all group None u g has h = record { link = h.link; anchored = h.anchored }
    named_links all group (Some x) u g has h = go (may_join (find x t.entries))
      where
        placed : (o v : Option ℕ) → place_of t x ≡ o → Linking all (at_place o v g)
        placed None v p = record { link = h.link; anchored = h.anchored }
        placed (Some k) None p = record { link = h.link; anchored = h.anchored }
        placed (Some k) (Some v) p = unit_links all group g g.anchor refl k v (subst (Has (item_names all)) (sym (name_placed x k p)) (has x refl)) h

        go : (c : Bool) → Linking all (if c then at_place (place_of t x) u g else clashes g)
        go true = placed (place_of t x) u refl
        go false = record { link = h.link; anchored = h.anchored }

    -- an item's name is one of the group's
    first_named : (i : ExprTree) (is : List ExprTree) (x : List ℕ) → item_name i ≡ Some x → Has (item_names (i ∷ is)) x
    first_named (tree.name y) is x e = let same : y ≡ x = cc in (zero, ap Some same)
    first_named (tree.element y es) is x e = let same : y ≡ x = cc in (zero, ap Some same)
    first_named (tree.int n) is x e = cc
    first_named (tree.log b) is x e = cc
    first_named (tree.paren y) is x e = cc
    first_named (tree.unary o y) is x e = cc
    first_named (tree.binary o a b) is x e = cc
    first_named (tree.chars y) is x e = cc

    items_link : (all : List ExprTree) → Has (equivalences ds) all → (is : List ExprTree) (g : Grouping) → ((x : List ℕ) → Has (item_names is) x → Has (item_names all) x) → Linking all g → Linking all (items_joined t is g)
    items_link all group [] g sub h = h
    items_link all group (i ∷ is) g sub h =
        items_link all group is (named_joined t (item_name i) (item_position t i) g) (λ x k. sub x (has_right (names.item_name i) (item_names is) x k))
        (named_links all group (item_name i) (item_position t i) g (λ x e. sub x (first_named i is x e)) h)

    -- ---- statements

    groups_link : (gs : List (List ExprTree)) (line : ℕ) (s : Shared) → ((g : List ExprTree) → Has gs g → Has (equivalences ds) g) → HomesLink s.group.offset_nodes → HomesLink (groups_shared t gs line s).group.offset_nodes
    groups_link [] line s sub h = h
    groups_link (g ∷ gs) line s sub h =
        groups_link gs line (group_shared t g line s) (λ x k. sub x (suc k.0, k.1))
        (items_link g (sub g (zero, refl)) g (begun s.group) (λ x k. k) (record { link = h; anchored = λ a e. cc })).link

    decl_link : (d : DeclTree) (line : ℕ) (s : Shared) → ((g : List ExprTree) → Has (equivalences_in d) g → Has (equivalences ds) g) → HomesLink s.group.offset_nodes → HomesLink (decl_shared t d line s).group.offset_nodes
    decl_link (decl.equivalence gs) line s sub h = groups_link gs line s sub h
    decl_link (decl.implicit ps) line s sub h = h
    decl_link (decl.integer es) line s sub h = h
    decl_link (decl.logical es) line s sub h = h
    decl_link (decl.dimension es) line s sub h = h
    decl_link (decl.parameter xs) line s sub h = h
    decl_link (decl.common cs) line s sub h = h
    decl_link (decl.save is) line s sub h = h
    decl_link (decl.initial gs) line s sub h = h

    decls_link : (at : LineTable) (es : List DeclTree) (n : ℕ) (s : Shared) → ((g : List ExprTree) → Has (equivalences es) g → Has (equivalences ds) g) → HomesLink s.group.offset_nodes → HomesLink (decls_shared t at es n s).group.offset_nodes
    decls_link at [] n s sub h = h
    decls_link at (d ∷ es) n s sub h =
        let line = line_or at (Decl n) 0 in
        decls_link at es (n + 1) (decl_shared t d line s) (λ g k. sub g (has_right (equivalences_in d) (equivalences es) g k))
        (decl_link d line s (λ g k. sub g (has_left (equivalences_in d) (equivalences es) g k)) h)

    -- what is linked behind COMMON is linked behind EQUIVALENCE
    pub shared_link : (at : LineTable) (ss : List OffsetNode) (found : Option Refusal) → HomesLink ss → HomesLink (shared t at ds ss found).group.offset_nodes
    unfolding shared
    shared_link at ss found h = decls_link at ds 0 (unshared ss found) (λ g k. k) h
