-- No block begins before its first unit where EQUIVALENCE is not refused for it.
use Rattle.std.proofs.Common.{◌≡◌, ℕ, zero, suc, ◌+◌, Bool, true, false, pos, ◌≤ℤ◌, List, [], ◌∷◌, Option, Some, None, ◌⊎◌, inl, inr, refl, sym, ap, ◌∙◌, subst, arith}
use Rattle.std.specs.Prelude.{◌<ℤ◌, ◌&&◌, int_lt, slice_get, slice_set, if◌then◌else◌}
use Rattle.std.proofs.lemmas.Int.{ints}
use Rattle.std.proofs.lemmas.Bool.{and_from as and_true}
use Rattle.f77_ast.specs.Trees.{ExprTree}
use Rattle.f77_ast.specs.DeclTrees.{EntityTree, CommonTree, DeclTree}
use Rattle.f77_ast.specs.DeclTrees as decl
use Rattle.fx_lists.specs.declared.code.Code.TheVariants.{EquivalenceClash, EquivalenceExtendsBack}
use Rattle.f77_names.specs.declared.lines.Sited.TheVariants.{Decl}
use Rattle.fx_lists.specs.Refusals.{refuse_if}
use Rattle.f77_names.specs.Lines.{LineTable, line_or}
use Rattle.f77_names.specs.Entries.{find}
use Rattle.f77_names.specs.Tables.{NameTable}
use Rattle.storage_data.specs.declared.offset_node.Home.TheVariants.{Block, Own}
use Rattle.storage_data.specs.declared.offset_node.OffsetNode.{OffsetNode}
use Rattle.storage_data.specs.OffsetNodes.{alone_from, same_home, is_block, begins_before, joined}
use Rattle.storage_data.proofs.BlockLaws.{same_home-refl, same_home-is, blocks_stay, blocks_take_groups}
use Rattle.storage_data.specs.Units.{place_of, units_of}
use Rattle.storage_data.specs.Items.{item_name, item_position}
use Rattle.storage_layout.specs.declared.blocks.Laid.{Laid}
use Rattle.storage_layout.specs.declared.equivalences.Anchor.{Anchor}
use Rattle.storage_layout.specs.declared.equivalences.Grouping.{Grouping}
use Rattle.storage_layout.specs.declared.equivalences.Shared.{Shared}
use Rattle.storage_layout.specs.Blocks.{block_number, with_block, sits_in_block, put_at, put_there, member_put, members_put, part_put, parts_put, decl_put, decls_put}
use Rattle.storage_layout.specs.Equivalences.{may_join, clashes, unit_joined, at_place, named_joined, items_joined, extends_back, place_extends, name_extends, items_extend, begun, group_shared, groups_shared, decl_shared, decls_shared}
use Rattle.fx_lists.proofs.Lookups.{any_at}
use Rattle.fx_lists.proofs.Refused.{none_refused}

-- no variable lies in a block before its first unit
abbrev pub NoneBefore : List OffsetNode → Type 0
NoneBefore ss = (n : ℕ) (s : OffsetNode) → slice_get ss n ≡ Some s → is_block s.home ≡ true → pos 0 ≤ℤ s.offset

-- ---- tests on lists

set_get : {X : Type 0} (xs : List X) (i : ℕ) (v : X) (n : ℕ) (x : X) → slice_get (slice_set xs i v) n ≡ Some x → (slice_get xs n ≡ Some x) ⊎ (v ≡ x)
set_get [] i v zero x e = cc
set_get [] i v (suc n) x e = cc
set_get (y ∷ xs) zero v zero x e = let same : v ≡ x = cc in inr same
set_get (y ∷ xs) zero v (suc n) x e = inl e
set_get (y ∷ xs) (suc i) v zero x e = inl e
set_get (y ∷ xs) (suc i) v (suc n) x e = set_get xs i v n x e

-- ---- COMMON

alone_none : (n k : ℕ) → NoneBefore (alone_from n k)
alone_none n zero zero s e b = cc
alone_none n zero (suc i) s e b = cc
alone_none n (suc k) zero s e b = let one : record { home = Own n; offset = pos 0 } ≡ s = cc in let own : is_block s.home ≡ false = ap (λ (r : OffsetNode). is_block r.home) (sym one) in cc
alone_none n (suc k) (suc i) s e b = alone_none (n + 1) k i s e b

block_none : (x : List ℕ) (o : Option ℕ) (l : Laid) → NoneBefore l.offset_nodes → NoneBefore (with_block x o l).offset_nodes
block_none x None l h = h
block_none x (Some n) l h = h

at_none : (units place n : ℕ) (o : Option ℕ) (l : Laid) → NoneBefore l.offset_nodes → NoneBefore (put_at units place n o l).offset_nodes
at_none units place n None l h i s e b = h i s e b
at_none units place n (Some size) l h i s e b = go (set_get l.offset_nodes place (record { home = Block n; offset = pos size }) i s e)
  where
    go : (slice_get l.offset_nodes i ≡ Some s) ⊎ (record { home = Block n; offset = pos size } ≡ s) → pos 0 ≤ℤ s.offset
    go (inl q) = h i s q b
    go (inr q) = let least : pos 0 ≤ℤ pos size = omega (arith, ints) in subst (λ (r : OffsetNode). pos 0 ≤ℤ r.offset) q least

there_none : (units place : ℕ) (o : Option ℕ) (l : Laid) → NoneBefore l.offset_nodes → NoneBefore (put_there units place o l).offset_nodes
there_none units place None l h = h
there_none units place (Some n) l h = at_none units place n (slice_get l.sizes n) l h

member_none : (t : NameTable) (block : List ℕ) (e : EntityTree) (o : Option ℕ) (l : Laid) → NoneBefore l.offset_nodes → NoneBefore (member_put t block e o l).offset_nodes
member_none t block e None l h = h
member_none t block e (Some place) l h = go (sits_in_block (slice_get l.offset_nodes place))
  where
    go : (b : Bool) → NoneBefore (let r : Laid = if b then l else put_there (units_of t e.name) place (block_number l.names block) l in r.offset_nodes)
    go true = h
    go false = there_none (units_of t e.name) place (block_number l.names block) l h

members_none : (t : NameTable) (block : List ℕ) (es : List EntityTree) (l : Laid) → NoneBefore l.offset_nodes → NoneBefore (members_put t block es l).offset_nodes
members_none t block [] l h = h
members_none t block (e ∷ es) l h = members_none t block es (member_put t block e (place_of t e.name) l) (member_none t block e (place_of t e.name) l h)

part_none : (t : NameTable) (c : CommonTree) (l : Laid) → NoneBefore l.offset_nodes → NoneBefore (part_put t c l).offset_nodes
part_none t c l h = members_none t c.block c.members (with_block c.block (block_number l.names c.block) l) (block_none c.block (block_number l.names c.block) l h)

parts_none : (t : NameTable) (cs : List CommonTree) (l : Laid) → NoneBefore l.offset_nodes → NoneBefore (parts_put t cs l).offset_nodes
parts_none t [] l h = h
parts_none t (c ∷ cs) l h = parts_none t cs (part_put t c l) (part_none t c l h)

decl_none : (t : NameTable) (d : DeclTree) (l : Laid) → NoneBefore l.offset_nodes → NoneBefore (decl_put t d l).offset_nodes
decl_none t (decl.common cs) l h = parts_none t cs l h
decl_none t (decl.implicit ps) l h = h
decl_none t (decl.integer es) l h = h
decl_none t (decl.logical es) l h = h
decl_none t (decl.dimension es) l h = h
decl_none t (decl.parameter ss) l h = h
decl_none t (decl.equivalence gs) l h = h
decl_none t (decl.save is) l h = h
decl_none t (decl.initial gs) l h = h

pub decls_none : (t : NameTable) (ds : List DeclTree) (l : Laid) → NoneBefore l.offset_nodes → NoneBefore (decls_put t ds l).offset_nodes
decls_none t [] l h = h
decls_none t (d ∷ ds) l h = decls_none t ds (decl_put t d l) (decl_none t d l h)

pub alone_none_at : (k : ℕ) → NoneBefore (alone_from 0 k)
alone_none_at k = alone_none 0 k

-- ---- the items of an EQUIVALENCE

abbrev place_maybe : NameTable → Option (List ℕ) → Option ℕ
place_maybe t None = None
place_maybe t (Some x) = place_of t x

-- an item has this name's place
abbrev NamesPlace : NameTable → List ExprTree → ℕ → Type 0
NamesPlace t all j = (k : ℕ) × (i : ExprTree) × (slice_get all k ≡ Some i) × (place_maybe t (item_name i) ≡ Some j)

-- an item lies in this group
abbrev LiesWithItem : NameTable → List ExprTree → List OffsetNode → OffsetNode → Type 0
LiesWithItem t all ss s = (j : ℕ) × (r : OffsetNode) × NamesPlace t all j × (slice_get ss j ≡ Some r) × (r.home ≡ s.home)

-- what lies in a block before its first unit lies with an item, and so does the unit that the items share
record Taken (t : NameTable) (all : List ExprTree) (g : Grouping) : Type 0 where
  early : (n : ℕ) (s : OffsetNode) → slice_get g.offset_nodes n ≡ Some s → is_block s.home ≡ true → s.offset <ℤ pos 0 → LiesWithItem t all g.offset_nodes s
  anchored : (a : Anchor) → g.anchor ≡ Some a → NamesPlace t all a.place

clashed : (t : NameTable) (all : List ExprTree) (g : Grouping) → Taken t all g → Taken t all (clashes g)
clashed t all g h = record { early = h.early; anchored = h.anchored }

unit_step : (t : NameTable) (all : List ExprTree) (g : Grouping) (x : Option Anchor) → g.anchor ≡ x → (place unit : ℕ) → NamesPlace t all place → Taken t all g → Taken t all (unit_joined x place unit g)
unit_step t all g None q place unit names h = record {
  early = h.early;
  anchored = λ a e. (let one : record { place = place; unit = unit } ≡ a = cc in subst (λ (b : Anchor). NamesPlace t all b.place) one names);
}
unit_step t all g (Some b) q place unit names h = record { early = after; anchored = h.anchored }
  where
    after : (n : ℕ) (s : OffsetNode) → slice_get (joined g.offset_nodes b.place (pos b.unit) place (pos unit)).offset_nodes n ≡ Some s → is_block s.home ≡ true → s.offset <ℤ pos 0 → LiesWithItem t all (joined g.offset_nodes b.place (pos b.unit) place (pos unit)).offset_nodes s
    after n s e inside low = go (blocks_take_groups g.offset_nodes b.place (pos b.unit) place (pos unit) n s e inside)
      where
        which : (j : ℕ) → (j ≡ b.place) ⊎ (j ≡ place) → NamesPlace t all j
        which j (inl p) = subst (λ (k : ℕ). NamesPlace t all k) (sym p) (h.anchored b q)
        which j (inr p) = subst (λ (k : ℕ). NamesPlace t all k) (sym p) names

        go : (slice_get g.offset_nodes n ≡ Some s) ⊎ ((j : ℕ) × (r : OffsetNode) × ((j ≡ b.place) ⊎ (j ≡ place)) × (slice_get (joined g.offset_nodes b.place (pos b.unit) place (pos unit)).offset_nodes j ≡ Some r) × (same_home r.home s.home ≡ true)) → LiesWithItem t all (joined g.offset_nodes b.place (pos b.unit) place (pos unit)).offset_nodes s
        go (inl old) =
            let w = h.early n s old inside low in
            (w.0, w.1, w.2, blocks_stay g.offset_nodes b.place (pos b.unit) place (pos unit) w.0 w.1 w.3 (ap is_block w.4 ∙ inside), w.4)
        go (inr (j, r, p, f, same)) = (j, r, which j p, f, same_home-is r.home s.home same)

named_step : (t : NameTable) (all : List ExprTree) (g : Grouping) (k : ℕ) (i : ExprTree) (u : Option ℕ) → slice_get all k ≡ Some i → Taken t all g → Taken t all (named_joined t (item_name i) u g)
named_step t all g k i u e h = go (item_name i) refl
  where
    at : (o : Option ℕ) (v : Option ℕ) → place_maybe t (item_name i) ≡ o → Taken t all (at_place o v g)
    at None v p = clashed t all g h
    at (Some place) None p = clashed t all g h
    at (Some place) (Some unit) p = unit_step t all g g.anchor refl place unit (k, i, e, p) h

    joins : (b : Bool) (x : List ℕ) → item_name i ≡ Some x → Taken t all (if b then at_place (place_of t x) u g else clashes g)
    joins true x q = at (place_of t x) u (ap (place_maybe t) q)
    joins false x q = clashed t all g h

    go : (o : Option (List ℕ)) → item_name i ≡ o → Taken t all (named_joined t o u g)
    go None q = clashed t all g h
    go (Some x) q = joins (may_join (find x t.entries)) x q

items_step : (t : NameTable) (all is : List ExprTree) (g : Grouping) → ((k : ℕ) (i : ExprTree) → slice_get is k ≡ Some i → (n : ℕ) × (slice_get all n ≡ Some i)) → Taken t all g → Taken t all (items_joined t is g)
items_step t all [] g sub h = h
items_step t all (i ∷ is) g sub h =
    let one = sub zero i refl in
    items_step t all is (named_joined t (item_name i) (item_position t i) g) (λ k j e. sub (suc k) j e) (named_step t all g one.0 i (item_position t i) one.1 h)

-- ---- a group

name_back : (t : NameTable) (ss : List OffsetNode) (o : Option (List ℕ)) (j : ℕ) (r : OffsetNode) → place_maybe t o ≡ Some j → slice_get ss j ≡ Some r → extends_back ss (Some r) ≡ true → name_extends t ss o ≡ true
name_back t ss None j r p f b = cc
name_back t ss (Some x) j r p f b = ap (place_extends ss) p ∙ ap (extends_back ss) f ∙ b

-- an item lies in the group of a variable that lies before the first unit of its block
found_back : (t : NameTable) (is : List ExprTree) (ss : List OffsetNode) (n : ℕ) (s : OffsetNode) → slice_get ss n ≡ Some s → is_block s.home ≡ true → int_lt s.offset (pos 0) ≡ true → LiesWithItem t is ss s → items_extend t ss is ≡ true
found_back t is ss n s e inside low (j, r, (k, i, f, p), at, same) =
    let together : same_home s.home r.home ≡ true = subst (λ h. same_home s.home h ≡ true) (sym same) (same_home-refl s.home) in
    let before : begins_before ss r.home ≡ true = any_at (λ (q : OffsetNode). same_home q.home r.home && int_lt q.offset (pos 0)) ss n s e (and_true (same_home s.home r.home) (int_lt s.offset (pos 0)) together low) in
    let back : extends_back ss (Some r) ≡ true = and_true (is_block r.home) (begins_before ss r.home) (ap is_block same ∙ inside) before in
    any_at (λ i. name_extends t ss (item_name i)) is k i f (name_back t ss (item_name i) j r p at back)

ends_none : (t : NameTable) (is : List ExprTree) (g : Grouping) → Taken t is g → items_extend t g.offset_nodes is ≡ false → NoneBefore g.offset_nodes
ends_none t is g h none n s e inside = go (int_lt s.offset (pos 0)) refl
  where
    go : (b : Bool) → int_lt s.offset (pos 0) ≡ b → pos 0 ≤ℤ s.offset
    go true low =
        let less : s.offset <ℤ pos 0 = grind (arith, ints) in
        let some = found_back t is g.offset_nodes n s e inside low (h.early n s e inside less) in
        cc
    go false low = grind (arith, ints)

-- where nothing is refused so far no variable lies before its block
abbrev pub IsSound : Shared → Type 0
IsSound s = s.late ≡ None → NoneBefore s.group.offset_nodes

group_sound : (t : NameTable) (is : List ExprTree) (line : ℕ) (s : Shared) → IsSound s → IsSound (group_shared t is line s)
group_sound t is line s h e =
    let last = none_refused (items_extend t (items_joined t is (begun s.group)).offset_nodes is) line EquivalenceExtendsBack (refuse_if (items_joined t is (begun s.group)).clash line EquivalenceClash s.late) e in
    let first = none_refused (items_joined t is (begun s.group)).clash line EquivalenceClash s.late last.1 in
    ends_none t is (items_joined t is (begun s.group)) (items_step t is is (begun s.group) (λ k i f. (k, f)) (fresh (h first.1))) last.0
  where
    fresh : NoneBefore s.group.offset_nodes → Taken t is (begun s.group)
    fresh none = record {
      early = λ n r f inside low. (let least = none n r f inside in absurd (omega (arith, ints)));
      anchored = λ a q. cc;
    }

groups_sound : (t : NameTable) (gs : List (List ExprTree)) (line : ℕ) (s : Shared) → IsSound s → IsSound (groups_shared t gs line s)
groups_sound t [] line s h = h
groups_sound t (g ∷ gs) line s h = groups_sound t gs line (group_shared t g line s) (group_sound t g line s h)

decl_sound : (t : NameTable) (d : DeclTree) (line : ℕ) (s : Shared) → IsSound s → IsSound (decl_shared t d line s)
decl_sound t (decl.equivalence gs) line s h = groups_sound t gs line s h
decl_sound t (decl.implicit ps) line s h = h
decl_sound t (decl.integer es) line s h = h
decl_sound t (decl.logical es) line s h = h
decl_sound t (decl.dimension es) line s h = h
decl_sound t (decl.parameter ss) line s h = h
decl_sound t (decl.common cs) line s h = h
decl_sound t (decl.save is) line s h = h
decl_sound t (decl.initial gs) line s h = h

pub decls_sound : (t : NameTable) (at : LineTable) (ds : List DeclTree) (n : ℕ) (s : Shared) → IsSound s → IsSound (decls_shared t at ds n s)
decls_sound t at [] n s h = h
decls_sound t at (d ∷ ds) n s h = decls_sound t at ds (n + 1) (decl_shared t d (line_or at (Decl n) 0) s) (decl_sound t d (line_or at (Decl n) 0) s h)
