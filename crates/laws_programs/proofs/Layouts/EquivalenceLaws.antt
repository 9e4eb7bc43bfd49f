-- EQUIVALENCE: in the table of a module that is not refused the items of each group share their first units.
use Rattle.std.proofs.Common.{◌≡◌, ℕ, ◌+◌, Bool, true, false, not, ℤ, pos, negsuc, ◌≤ℤ◌, ◌+ℤ◌, ◌-ℤ◌, List, [], ◌∷◌, length, Option, Some, None, refl, sym, ap, ◌∙◌, subst, arith}
use Rattle.std.specs.Prelude.{is_some, ◌||◌, slice_get, unwrap_or}
use Rattle.std.specs.List.{AllByRecursion}
use Rattle.std.proofs.lemmas.Int.{ints}
use Rattle.f77_ast.specs.Trees.{ExprTree, ExprTrees}
use Rattle.f77_ast.specs.Trees as tree
use Rattle.f77_ast.specs.DeclTrees.{ParsedTree}
use Rattle.f77_ast.specs.Places.{as_count}
use Rattle.f77_ast.specs.Symbols.{SymbolTree}
use Rattle.f77_ast.specs.Shared.{OneUnit as Unit_of, group_unit, block_unit, unit_after}
use Rattle.f77_names.specs.Entries.{EntryTree, find}
use Rattle.storage_data.specs.declared.offset_node.Home.{Home}
use Rattle.storage_data.specs.declared.offset_node.Home.TheVariants.{Block, Own}
use Rattle.storage_data.specs.declared.offset_node.OffsetNode.{OffsetNode}
use Rattle.storage_data.specs.OffsetNodes.{is_block, lowest}
use Rattle.storage_data.proofs.LowestLaws.{lowest_is_least}
use Rattle.storage_data.specs.Units.{place_of}
use Rattle.storage_data.specs.Items.{item_name, item_position, element_position, position_at, numbers_of}
use Rattle.f77_checks.specs.Dimensions.{dims_in}
use Rattle.storage_layout.specs.declared.equivalences.Anchor.{Anchor}
use Rattle.storage_layout.specs.Equivalences.{may_join}
use Rattle.storage_layout.specs.Table.{Layout, group_in, home_place, place_in as offset_node_place, unless_dummy, unless_value, symbol_of}
use Rattle.storage_layout.specs.Symbols.{alone, laid, unshared, shared}
use Rattle.storage_layout.proofs.EarlyLaws.{NoneBefore, alone_none_at, decls_none, decls_sound}
use Rattle.laws_programs.specs.SymbolTables.Shapes.{symbol_named}
use Rattle.laws_programs.proofs.SymbolTables.Answers.{Answered, lines_in, names_in, found_in, laid_in, layout_in, answered_by}
use Rattle.laws_programs.specs.Storage.DataLaws.{ConstantsFit}
use Rattle.laws_programs.proofs.Storage.ParameterLaws.{names_right}
use Rattle.laws_programs.proofs.Storage.UnitLaws.{values_same}
use Rattle.storage_layout.specs.Statements.{equivalences}
use Rattle.laws_programs.specs.Layout.Layout.{name_unit, indexed_unit, element_unit, item_unit, AllBeginAt, ShareTheirFirst}
use Rattle.laws_programs.specs.Layout.Laws.{EquivalencedItemsShare}
use Rattle.laws_programs.proofs.Layouts.CommonLaws.{placed_symbol, without_value}
use Rattle.laws_programs.proofs.Layouts.ItemLaws.{position_same}
use Rattle.storage_data.specs.GroupLaws.{Coincide}
use Rattle.storage_layout.specs.Laws.{AllAt, GroupCoincides}
use Rattle.storage_layout.proofs.EquivalenceLaws.{equivalences_coincide}
use Rattle.f77_ast.proofs.Shared.{counted as as_count-pos}

-- ---- units of offset nodes

count_plus : (z : ℤ) (v : ℕ) → pos 0 ≤ℤ z → as_count (z +ℤ pos v) ≡ as_count z + v
count_plus (pos n) v h = refl
count_plus (negsuc n) v h = absurd (omega (arith, ints))

-- the unit at an offset of a group or a block
abbrev unit_at : Layout → Home → ℤ → Unit_of
unit_at l (Block b) z = block_unit (unwrap_or (slice_get l.names b) []) (as_count z)
unit_at l (Own n) z = group_unit (group_in l n) (as_count (z -ℤ lowest l.offset_nodes (Own n)))

unit_is : (l : Layout) → NoneBefore l.offset_nodes → (k : ℕ) (s : OffsetNode) (v : ℕ) → slice_get l.offset_nodes k ≡ Some s → unit_after (home_place l s.offset s.home) v ≡ Some (unit_at l s.home (s.offset +ℤ pos v))
unit_is l none k s v e = go s.home refl
  where
    go : (h : Home) → s.home ≡ h → unit_after (home_place l s.offset h) v ≡ Some (unit_at l h (s.offset +ℤ pos v))
    go (Block b) q = ap (λ z. Some (block_unit (unwrap_or (slice_get l.names b) []) z)) (sym (count_plus s.offset v (none k s e (ap is_block q))))
    go (Own n) q =
        let low : lowest l.offset_nodes (Own n) ≤ℤ s.offset = subst (λ (h : Home). lowest l.offset_nodes h ≤ℤ s.offset) q (lowest_is_least l.offset_nodes k s e) in
        let least : pos 0 ≤ℤ (s.offset -ℤ lowest l.offset_nodes (Own n)) = omega (arith, ints) in
        let turned : (s.offset +ℤ pos v) -ℤ lowest l.offset_nodes (Own n) ≡ (s.offset -ℤ lowest l.offset_nodes (Own n)) +ℤ pos v = omega (arith, ints) in
        ap (λ z. Some (group_unit (group_in l n) z)) (sym (ap as_count turned ∙ count_plus (s.offset -ℤ lowest l.offset_nodes (Own n)) v least))

-- two that are one unit
units_same : (l : Layout) (m : ℕ) (p : ℤ) (n : ℕ) (q : ℤ) (h : Coincide l.offset_nodes m p n q) → unit_at l h.first.home (h.first.offset +ℤ p) ≡ unit_at l h.second.home (h.second.offset +ℤ q)
units_same l m p n q h = ap (λ z. unit_at l z (h.first.offset +ℤ p)) h.home ∙ ap (unit_at l h.second.home) h.unit

abbrev unit_maybe : Layout → Option OffsetNode → ℤ → Unit_of
unit_maybe l None p = group_unit 0 0
unit_maybe l (Some s) p = unit_at l s.home (s.offset +ℤ p)

-- ---- entries of items

joining : (o : Option EntryTree) → may_join o ≡ true → (e : EntryTree) × (o ≡ Some e) × (e.dummy ≡ None) × (e.parameter ≡ false)
joining None h = cc
joining (Some e) h = go e.dummy e.parameter refl refl h
  where
    go : (d : Option ℕ) (b : Bool) → e.dummy ≡ d → e.parameter ≡ b → not (is_some d || b) ≡ true → (x : EntryTree) × (Some e ≡ Some x) × (x.dummy ≡ None) × (x.parameter ≡ false)
    go None false q r k = (e, refl, q, r)
    go None true q r k = cc
    go (Some n) b q r k = cc

module _ (p : ParsedTree) (ss : List SymbolTree) (a : Answered p ss) (fit : ConstantsFit ss) where
  no_block_before : NoneBefore (layout_in p).offset_nodes
  unfolding laid shared
  no_block_before = decls_sound (names_in p) (lines_in p) p.module_read.decls 0 (unshared (laid_in p).offset_nodes (found_in p)) (λ e. decls_none (names_in p) p.module_read.decls (alone (names_in p)) (alone_none_at (length (names_in p).entries))) a.late

  -- the symbol of a name that may join, and its unit
  record Lies (x : List ℕ) (k : ℕ) (s : OffsetNode) : Type 0 where
    entry : EntryTree
    found : find x (names_in p).entries ≡ Some entry
    is_named : symbol_named ss x ≡ Some (symbol_of (layout_in p) k entry)
    lies : (symbol_of (layout_in p) k entry).place ≡ home_place (layout_in p) s.offset s.home

  lies_at : (x : List ℕ) (k : ℕ) (s : OffsetNode) → may_join (find x (names_in p).entries) ≡ true → place_of (names_in p) x ≡ Some k → slice_get (layout_in p).offset_nodes k ≡ Some s → Lies x k s
  lies_at x k s may at offset_node =
      let l = layout_in p in
      let e = joining (find x (names_in p).entries) may in
      let value = without_value (names_in p).kinds e.0 ((names_right p).right x e.0 e.1) e.3 in
      record {
        entry = e.0;
        found = e.1;
        is_named = ap (λ z. symbol_named z x) a.table ∙ placed_symbol l x e.0 k e.1 at;
        lies =
            ap (λ v. unless_value v (unless_dummy e.0.dummy (offset_node_place l (slice_get l.offset_nodes k)))) value
            ∙ ap (λ d. unless_dummy d (offset_node_place l (slice_get l.offset_nodes k))) e.2
            ∙ ap (offset_node_place l) offset_node;
      }

  -- the first unit of an item
  item_at : (i : ExprTree) (x : List ℕ) (k v : ℕ) (s : OffsetNode) → item_name i ≡ Some x → item_position (names_in p) i ≡ Some v → slice_get (layout_in p).offset_nodes k ≡ Some s → Lies x k s → item_unit ss i ≡ Some (unit_at (layout_in p) s.home (s.offset +ℤ pos v))
  item_at (tree.name y) x k v s n q offset_node r =
      let l = layout_in p in
      let same : y ≡ x = cc in
      let first : 0 ≡ v = cc in
      ap (λ z. name_unit (symbol_named ss z)) same ∙ ap name_unit r.is_named ∙ ap (λ z. unit_after z 0) r.lies ∙ ap (unit_after (home_place l s.offset s.home)) first ∙ unit_is l no_block_before k s v offset_node
  item_at (tree.element y es) x k v s n q offset_node r =
      let l = layout_in p in
      let t = names_in p in
      let same : y ≡ x = cc in
      let by_name : position_at (dims_in t r.entry) (numbers_of t es) ≡ Some v = ap (λ o. element_position t o es) (sym r.found) ∙ ap (λ z. element_position t (find z t.entries) es) (sym same) ∙ q in
      let by_table = position_same t ss (values_same p ss a fit) r.entry es v by_name in
      ap (λ z. indexed_unit ss (symbol_named ss z) es) same ∙ ap (λ o. indexed_unit ss o es) r.is_named ∙ ap (element_unit (symbol_of l k r.entry)) by_table ∙ ap (λ z. unit_after z v) r.lies ∙ unit_is l no_block_before k s v offset_node
  item_at (tree.int m) x k v s n q offset_node r = cc
  item_at (tree.log b) x k v s n q offset_node r = cc
  item_at (tree.paren y) x k v s n q offset_node r = cc
  item_at (tree.unary o y) x k v s n q offset_node r = cc
  item_at (tree.binary o y z) x k v s n q offset_node r = cc
  item_at (tree.chars y) x k v s n q offset_node r = cc

  all_begin : (c : Anchor) (is : List ExprTree) → AllAt (names_in p) (layout_in p).offset_nodes c is → AllBeginAt ss (unit_maybe (layout_in p) (slice_get (layout_in p).offset_nodes c.place) (pos c.unit)) is
  all_begin c [] h = tt
  all_begin c (i ∷ is) h =
      let l = layout_in p in
      let r = h.0 in
      let one = h.1 in
      let there = item_at i r.name r.place r.unit one.second r.is_name r.is_unit one.is_second (lies_at r.name r.place one.second r.may r.is_place one.is_second) in
      let anchor : unit_maybe l (slice_get l.offset_nodes c.place) (pos c.unit) ≡ unit_at l one.first.home (one.first.offset +ℤ pos c.unit) = ap (λ o. unit_maybe l o (pos c.unit)) one.is_first in
      (there ∙ ap Some (sym (units_same l c.place (pos c.unit) r.place (pos r.unit) one)) ∙ ap Some (sym anchor), all_begin c is h.2)

  groups_share : (gs : List (List ExprTree)) → AllByRecursion (GroupCoincides (names_in p) (layout_in p).offset_nodes) gs → AllByRecursion (ShareTheirFirst ss) gs
  groups_share [] h = tt
  groups_share (g ∷ gs) h = ((unit_maybe (layout_in p) (slice_get (layout_in p).offset_nodes h.0.0.place) (pos h.0.0.unit), all_begin h.0.0 g h.0.1), groups_share gs h.1)

  all_share : AllByRecursion (ShareTheirFirst ss) (equivalences p.module_read.decls)
  all_share = groups_share (equivalences p.module_read.decls) (equivalences_coincide (names_in p) (lines_in p) p.module_read.decls (found_in p) a.late)

pub equivalenced_items_share : EquivalencedItemsShare
equivalenced_items_share p ss e fit = all_share p ss (answered_by p ss e) fit
