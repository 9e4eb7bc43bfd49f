-- No variable ends past 2147483647 units for each name.
use Rattle.std.proofs.Common.{◌≡◌, ℕ, zero, suc, ◌+◌, ◌*◌, ◌≤◌, Bool, true, false, ℤ, pos, negsuc, ◌+ℤ◌, ◌-ℤ◌, ◌≤ℤ◌, List, [], ◌∷◌, length, Option, Some, None, refl, sym, ap, ◌∙◌, subst, arith, mul-suc}
use Rattle.std.specs.Prelude.{if◌then◌else◌, nat_lt, neg_ℤ, not, ◌||◌, is_some, slice_get}
use Rattle.std.specs.Ordering.{int_eq}
use Rattle.std.proofs.lemmas.Bool.{ltb-false, or_parts}
use Rattle.std.proofs.lemmas.Int.{ints}
use Rattle.std.proofs.lemmas.List.{length-map}
use Rattle.f77_ast.specs.Trees.{ExprTree}
use Rattle.f77_ast.specs.DeclTrees.{EntityTree, CommonTree, DeclTree, ParsedTree}
use Rattle.f77_ast.specs.DeclTrees as decl
use Rattle.f77_ast.specs.Places.{Dim, as_count, total_size}
use Rattle.f77_ast.specs.declared.constant.Constant.{Constant}
use Rattle.f77_ast.specs.declared.constant.Constant.TheVariants as constant
use Rattle.f77_ast.specs.declared.constant.ConstantValue.{ConstantValue}
use Rattle.f77_ast.specs.declared.constant.ConstantValue.TheVariants.{Is, Faults, Varies}
use Rattle.f77_ast.specs.Symbols.{BoundTree, SymbolTree}
use Rattle.f77_ast.specs.Units.{span_units, span_to, bound_units, bounds_units, units_in}
use Rattle.f77_names.specs.Entries.{ShapeTree, EntryTree, value_among}
use Rattle.f77_names.specs.Tables.{NameTable}
use Rattle.f77_checks.specs.Dimensions.{const_value_in, dim_from, dim_up_to, dim_of, with_dim, dims_of, has_bad_bound, is_too_big, entry_dims, dims_in}
use Rattle.f77_meaning.specs.Linked.{offset_in}
use Rattle.storage_data.specs.declared.offset_node.Home.{Home}
use Rattle.storage_data.specs.declared.offset_node.Home.TheVariants.{Block, Own}
use Rattle.storage_data.specs.declared.offset_node.OffsetNode.{OffsetNode}
use Rattle.storage_data.specs.OffsetNodes.{same_home, is_block, move_offset_node, all_moved, alone_from, Joined, joined_at, joined_offset_nodes, lowest}
use Rattle.storage_data.specs.Spans.{units_from, Reaches, AreCompact}
use Rattle.storage_data.proofs.BlockLaws.{same_home-refl}
use Rattle.storage_data.proofs.LowestLaws.{lowest_is_reached}
use Rattle.storage_data.proofs.SpanLaws.{has_units}
use Rattle.storage_data.specs.Units.{units_by, units_of_entry}
use Rattle.storage_layout.specs.declared.blocks.Laid.{Laid}
use Rattle.storage_layout.specs.Blocks.{block_number, with_block, sits_in_block, put_at, put_there, member_put, members_put, part_put, parts_put, decl_put, decls_put}
use Rattle.storage_layout.specs.Symbols.{alone, laid, unshared, shared}
use Rattle.storage_layout.specs.Table.{Layout, home_place, place_in, unless_dummy, unless_value, bounds_in, symbol_of, symbols_from}
use Rattle.storage_data.specs.Units.{place_of, units_of}
use Rattle.laws_programs.proofs.SymbolTables.EntryLaws.{entry_of}
use Rattle.laws_programs.proofs.SymbolTables.Answers.{Answered, lines_in, names_in, found_in, laid_in, shared_in, layout_in, answered_by, found_none}
use Rattle.laws_programs.specs.Storage.DataLaws.{ConstantsFit}
use Rattle.laws_programs.proofs.Storage.UnitLaws.{values_same, units_are}
use Rattle.laws_programs.specs.Layout.Laws.{EndsAreBounded}
use Rattle.storage_layout.proofs.RowLaws.{set_length}
use Rattle.storage_layout.proofs.GroupKeeps.{decls_keep}
use Rattle.laws_programs.proofs.Layouts.SizeLaws.{ShapeFits}
use Rattle.laws_programs.proofs.Layouts.CommonLaws.{shapes_at}
use Rattle.laws_programs.proofs.Layouts.ReachLaws.{units_at, shared_compact}

-- ---- the units of one name

-- without constant bounds there are none
no_span : (w v : ConstantValue) → dim_from w v ≡ None → span_units w v ≡ 0
no_span (Is (constant.Int low)) (Is (constant.Int high)) e = cc
no_span (Is (constant.Int low)) (Is (constant.Log b)) e = refl
no_span (Is (constant.Int low)) Faults e = refl
no_span (Is (constant.Int low)) Varies e = refl
no_span (Is (constant.Log b)) v e = refl
no_span Faults v e = refl
no_span Varies v e = refl

no_dim : (t : NameTable) (w : ConstantValue) (o : Option ExprTree) → dim_up_to t w o ≡ None → span_to (value_among t.entries) w o ≡ 0
no_dim t w None e = refl
no_dim t w (Some high) e = no_span w (const_value_in t high) e

none_left : (m n : ℕ) → n ≡ 0 → m * n ≡ 0
none_left m n e = ap (λ z. m * z) e ∙ omega arith

no_units : (t : NameTable) (bs : List BoundTree) → dims_of t bs ≡ None → bounds_units (value_among t.entries) bs ≡ 0
no_units t [] e = cc
no_units t (b ∷ bs) e = go (dim_of t b) (dims_of t bs) refl refl e (λ h. no_units t bs h)
  where
    go : (o : Option Dim) (q : Option (List Dim)) → dim_of t b ≡ o → dims_of t bs ≡ q → with_dim o q ≡ None → (dims_of t bs ≡ None → bounds_units (value_among t.entries) bs ≡ 0) → bounds_units (value_among t.entries) (b ∷ bs) ≡ 0
    go None q f h i ih = ap (λ z. z * bounds_units (value_among t.entries) bs) (no_dim t (const_value_in t b.low) b.high f) ∙ omega arith
    go (Some d) None f h i ih = none_left (bound_units (value_among t.entries) b) (bounds_units (value_among t.entries) bs) (ih h)
    go (Some d) (Some ds) f h i ih = cc

at_most_limit : (t : NameTable) (e : EntryTree) → ShapeFits t e → units_by (dims_in t e) ≤ 2147483647
at_most_limit t e fits = go e.shape refl
  where
    go : (o : Option ShapeTree) → e.shape ≡ o → units_by (entry_dims t (is_some e.dummy) o) ≤ 2147483647
    go None q = omega arith
    go (Some s) q =
        let good = fits s q in
        let some = (or_parts (nat_lt 7 (length s.bounds)) (has_bad_bound t (is_some e.dummy) s.bounds || is_too_big (dims_of t s.bounds)) good).1 in
        let big = (or_parts (has_bad_bound t (is_some e.dummy) s.bounds) (is_too_big (dims_of t s.bounds)) some).1 in
        let less = sized (dims_of t s.bounds) big in
        subst (λ b. units_by (if b then None else dims_of t s.bounds) ≤ 2147483647) (sym good) less
      where
        sized : (o : Option (List Dim)) → is_too_big o ≡ false → units_by o ≤ 2147483647
        sized None f = omega arith
        sized (Some ds) f = ltb-false 2147483647 (total_size ds) f

module _ (p : ParsedTree) (ss : List SymbolTree) (a : Answered p ss) (fit : ConstantsFit ss) where
  abbrev t : NameTable
  t = names_in p

  abbrev l : Layout
  l = layout_in p

  -- no more than it has by its dimensions, or one
  units_most : (n : ℕ) (e : EntryTree) → ShapeFits t e → units_in ss (symbol_of l n e) ≤ units_by (dims_in t e)
  units_most n e fits = go (dims_in t e) refl
    where
      shaped : (o : Option ShapeTree) → e.shape ≡ o → entry_dims t (is_some e.dummy) o ≡ None → bounds_units (value_among t.entries) (bounds_in o) ≡ 0
      shaped None q h = cc
      shaped (Some s) q h = no_units t s.bounds (sym (ap (λ b. if b then None else dims_of t s.bounds) (fits s q)) ∙ h)

      go : (o : Option (List Dim)) → dims_in t e ≡ o → units_in ss (symbol_of l n e) ≤ units_by o
      go None q =
          let none : units_in ss (symbol_of l n e) ≡ 0 = ap (λ v. bounds_units v (bounds_in e.shape)) (values_same p ss a fit) ∙ shaped e.shape refl q in
          omega (arith, none)
      go (Some ds) q = let all = units_are p ss a fit n e ds q in omega (arith, all)

-- ---- all names of a group

units_bound : (units : ℕ → ℕ) (most k : ℕ) (h : Home) (ss : List OffsetNode) → ((n : ℕ) → units n ≤ most) → units_from units k h ss ≤ most * length ss
units_bound units most k h [] f = omega arith
units_bound units most k h (s ∷ ss) f = go (same_home s.home h) (units_bound units most (k + 1) h ss f)
  where
    go : (b : Bool) → units_from units (k + 1) h ss ≤ most * length ss → (if b then units k else 0) + units_from units (k + 1) h ss ≤ most * suc (length ss)
    go true rest = let one = f k in omega (arith, mul-suc most (length ss), rest, one)
    go false rest = omega (arith, mul-suc most (length ss), rest)

-- ---- as many offset nodes as names

count_at : (units k n : ℕ) (o : Option ℕ) (l : Laid) → length (put_at units k n o l).offset_nodes ≡ length l.offset_nodes
count_at units k n None l = refl
count_at units k n (Some size) l = set_length l.offset_nodes k (record { home = Block n; offset = pos size })

count_there : (units k : ℕ) (o : Option ℕ) (l : Laid) → length (put_there units k o l).offset_nodes ≡ length l.offset_nodes
count_there units k None l = refl
count_there units k (Some n) l = count_at units k n (slice_get l.sizes n) l

count_member : (t : NameTable) (block : List ℕ) (e : EntityTree) (o : Option ℕ) (l : Laid) → length (member_put t block e o l).offset_nodes ≡ length l.offset_nodes
count_member t block e None l = refl
count_member t block e (Some k) l = go (sits_in_block (slice_get l.offset_nodes k))
  where
    go : (b : Bool) → length (let r : Laid = if b then l else put_there (units_of t e.name) k (block_number l.names block) l in r.offset_nodes) ≡ length l.offset_nodes
    go true = refl
    go false = count_there (units_of t e.name) k (block_number l.names block) l

count_members : (t : NameTable) (block : List ℕ) (es : List EntityTree) (l : Laid) → length (members_put t block es l).offset_nodes ≡ length l.offset_nodes
count_members t block [] l = refl
count_members t block (e ∷ es) l = count_members t block es (member_put t block e (place_of t e.name) l) ∙ count_member t block e (place_of t e.name) l

count_block : (x : List ℕ) (o : Option ℕ) (l : Laid) → length (with_block x o l).offset_nodes ≡ length l.offset_nodes
count_block x None l = refl
count_block x (Some n) l = refl

count_parts : (t : NameTable) (cs : List CommonTree) (l : Laid) → length (parts_put t cs l).offset_nodes ≡ length l.offset_nodes
count_parts t [] l = refl
count_parts t (c ∷ cs) l =
    count_parts t cs (part_put t c l) ∙ count_members t c.block c.members (with_block c.block (block_number l.names c.block) l) ∙ count_block c.block (block_number l.names c.block) l

count_decl : (t : NameTable) (d : DeclTree) (l : Laid) → length (decl_put t d l).offset_nodes ≡ length l.offset_nodes
count_decl t (decl.common cs) l = count_parts t cs l
count_decl t (decl.implicit ps) l = refl
count_decl t (decl.integer es) l = refl
count_decl t (decl.logical es) l = refl
count_decl t (decl.dimension es) l = refl
count_decl t (decl.parameter ss) l = refl
count_decl t (decl.equivalence gs) l = refl
count_decl t (decl.save is) l = refl
count_decl t (decl.initial gs) l = refl

count_decls : (t : NameTable) (ds : List DeclTree) (l : Laid) → length (decls_put t ds l).offset_nodes ≡ length l.offset_nodes
count_decls t [] l = refl
count_decls t (d ∷ ds) l = count_decls t ds (decl_put t d l) ∙ count_decl t d l

count_alone : (k c : ℕ) → length (alone_from k c) ≡ c
count_alone k zero = refl
count_alone k (suc c) = ap suc (count_alone (k + 1) c)

joined_count : (ss : List OffsetNode) (a b : OffsetNode) (shift : ℤ) → length (joined_at ss a b shift).offset_nodes ≡ length ss
joined_count ss a b shift = go (same_home a.home b.home) (is_block b.home) (is_block a.home)
  where
    go : (same inner outer : Bool) → length (let j : Joined = if same then record { offset_nodes = ss; clash = not (int_eq shift (pos 0)) } else if inner then (if outer then record { offset_nodes = ss; clash = true } else record { offset_nodes = all_moved a.home b.home (neg_ℤ shift) ss; clash = false }) else record { offset_nodes = all_moved b.home a.home shift ss; clash = false } in j.offset_nodes) ≡ length ss
    go true inner outer = refl
    go false true true = refl
    go false true false = length-map ss (move_offset_node a.home b.home (neg_ℤ shift))
    go false false outer = length-map ss (move_offset_node b.home a.home shift)

count_joined : (ss : List OffsetNode) (m : ℕ) (p : ℤ) (n : ℕ) (q : ℤ) (x y : Option OffsetNode) → length (joined_offset_nodes ss x p y q).offset_nodes ≡ length ss
count_joined ss m p n q None y = refl
count_joined ss m p n q (Some a) None = refl
count_joined ss m p n q (Some a) (Some b) = joined_count ss a b ((a.offset +ℤ p) -ℤ (b.offset +ℤ q))

pub count_shared : (p : ParsedTree) → length (shared_in p).group.offset_nodes ≡ length (names_in p).entries
unfolding shared laid
count_shared p =
    let t = names_in p in
    let ds = p.module_read.decls in
    let begun : length (laid_in p).offset_nodes ≡ length t.entries = count_decls t ds (alone t) ∙ count_alone 0 (length t.entries) in
    decls_keep (λ ss. length ss ≡ length t.entries) (λ ss m x n y h. count_joined ss m x n y (slice_get ss m) (slice_get ss n) ∙ h) t (lines_in p) ds 0 (unshared (laid_in p).offset_nodes (found_in p)) begun

-- ---- ends

-- an end below a bound stays so where the offset is a count
as_end : (z : ℤ) (u w : ℕ) → u ≤ w → (z +ℤ pos u) ≤ℤ pos w → as_count z + u ≤ w
as_end (pos n) u w h k = omega (arith, ints, k)
as_end (negsuc n) u w h k = omega (arith, h)

offset_node_end : (l : Layout) (units : ℕ → ℕ) (n : ℕ) (s : OffsetNode) → slice_get l.offset_nodes n ≡ Some s → AreCompact units l.offset_nodes → offset_in (home_place l s.offset s.home) + units n ≤ units_from units 0 s.home l.offset_nodes
offset_node_end l units n s e all = go s.home refl
  where
    r : Reaches units l.offset_nodes s.home
    r = all s.home

    zero_on : 0 + n ≡ n
    zero_on = omega arith

    has : units n ≤ units_from units 0 s.home l.offset_nodes
    has = subst (λ k. units k ≤ units_from units 0 s.home l.offset_nodes) zero_on (has_units units l.offset_nodes 0 n s.home s e (same_home-refl s.home))

    lies : (r.low ≤ℤ s.offset) × ((s.offset +ℤ pos (units n)) ≤ℤ (r.low +ℤ pos (units_from units 0 s.home l.offset_nodes)))
    lies = r.lie n s e (same_home-refl s.home)

    go : (h : Home) → s.home ≡ h → offset_in (home_place l s.offset h) + units n ≤ units_from units 0 s.home l.offset_nodes
    go (Block b) q =
        let low = r.begin (ap is_block q) in
        as_end s.offset (units n) (units_from units 0 s.home l.offset_nodes) has (omega (arith, ints, lies.1, low))
    go (Own m) q =
        let f = lowest_is_reached l.offset_nodes n s e in
        let first = (r.lie f.0 f.1 f.2 f.3).0 in
        let at : f.1.offset ≡ lowest l.offset_nodes (Own m) = f.4 ∙ ap (lowest l.offset_nodes) q in
        as_end (s.offset -ℤ lowest l.offset_nodes (Own m)) (units n) (units_from units 0 s.home l.offset_nodes) has (omega (arith, ints, lies.1, first, at))

-- ---- a table

module _ (p : ParsedTree) (ss : List SymbolTree) (a : Answered p ss) (fit : ConstantsFit ss) where
  abbrev names : NameTable
  names = names_in p

  all_most : (n : ℕ) → units_at names n ≤ 2147483647
  all_most n = go (slice_get names.entries n) refl
    where
      go : (o : Option EntryTree) → slice_get names.entries n ≡ o → units_of_entry names o ≤ 2147483647
      go None q = omega arith
      go (Some e) q = at_most_limit names e (shapes_at p (found_none p ss a) n e q)

  count_symbols : (l : Layout) (n : ℕ) (es : List EntryTree) → length (symbols_from l n es) ≡ length es
  count_symbols l n [] = refl
  count_symbols l n (e ∷ es) = ap suc (count_symbols l (n + 1) es)

  as_many : length ss ≡ length names.entries
  as_many = ap length a.table ∙ count_symbols (layout_in p) 0 names.entries

  -- one more than the place of a name
  some_names : (es : List EntryTree) (n : ℕ) (e : EntryTree) → slice_get es n ≡ Some e → 2147483647 ≤ 2147483647 * length es
  some_names [] zero e q = cc
  some_names [] (suc n) e q = cc
  some_names (x ∷ es) n e q = omega (arith, mul-suc 2147483647 (length es))

  entry_end : (n : ℕ) (e : EntryTree) → slice_get names.entries n ≡ Some e → offset_in (symbol_of (layout_in p) n e).place + units_at names n ≤ 2147483647 * length ss
  entry_end n e q = valued e.value e.dummy
    where
      alone : (o : ℕ) → o ≡ 0 → o + units_at names n ≤ 2147483647 * length ss
      alone o z = let some = some_names names.entries n e q in let most = all_most n in let many = ap (λ k. 2147483647 * k) as_many in omega (arith, z, some, most, many)

      seated : (o : Option OffsetNode) → slice_get (layout_in p).offset_nodes n ≡ o → offset_in (place_in (layout_in p) o) + units_at names n ≤ 2147483647 * length ss
      seated None h = alone 0 refl
      seated (Some s) h =
          let ends = offset_node_end (layout_in p) (units_at names) n s h (shared_compact names (lines_in p) p.module_read.decls (found_in p)) in
          let bound = units_bound (units_at names) 2147483647 0 s.home (layout_in p).offset_nodes all_most in
          let many = ap (λ k. 2147483647 * k) (count_shared p ∙ sym as_many) in
          omega (arith, ends, bound, many)

      valued : (v : Option Constant) (d : Option ℕ) → offset_in (unless_value v (unless_dummy d (place_in (layout_in p) (slice_get (layout_in p).offset_nodes n)))) + units_at names n ≤ 2147483647 * length ss
      valued (Some c) d = alone 0 refl
      valued None (Some m) = alone 0 refl
      valued None None = seated (slice_get (layout_in p).offset_nodes n) refl

pub ends_are_bounded : EndsAreBounded
ends_are_bounded p ss is fit n s e =
    let a = answered_by p ss is in
    let r = entry_of (layout_in p) 0 (names_in p).entries n s (sym (ap (λ z. slice_get z n) a.table) ∙ e) in
    let at : r.place ≡ n = omega (arith, r.is_place) in
    let same : s ≡ symbol_of (layout_in p) n r.entry = r.symbol ∙ ap (λ k. symbol_of (layout_in p) k r.entry) at in
    let fits = shapes_at p (found_none p ss a) n r.entry r.is_entry in
    let units : units_at (names_in p) n ≡ units_by (dims_in (names_in p) r.entry) = ap (units_of_entry (names_in p)) r.is_entry in
    let most = units_most p ss a fit n r.entry fits in
    let ends = entry_end p ss a fit n r.entry r.is_entry in
    subst (λ (z : SymbolTree). offset_in z.place + units_in ss z ≤ 2147483647 * length ss) (sym same) (omega (arith, units, most, ends))
