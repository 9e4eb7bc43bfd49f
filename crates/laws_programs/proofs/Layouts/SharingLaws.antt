-- Variables of a table with a common unit are associated.
use Rattle.std.proofs.Common.{◌≡◌, ℕ, ◌+◌, ◌<◌, ◌≤◌, Bool, true, false, List, [], ◌∷◌, Option, Some, None, ◌⊎◌, inl, inr, refl, sym, ap, ◌∙◌, subst, arith}
use Rattle.std.specs.Prelude.{slice_get, if◌then◌else◌, unwrap_or, nat_eq, ◌-ℤ◌}
use Rattle.std.proofs.lemmas.Bool.{eqb-true}
use Rattle.f77_ast.specs.DeclTrees.{ParsedTree}
use Rattle.f77_ast.specs.Places.{as_count}
use Rattle.f77_ast.specs.declared.constant.Constant.{Constant}
use Rattle.f77_ast.specs.Shared.{OneUnit, group_unit, block_unit, unit_after}
use Rattle.storage_data.specs.declared.offset_node.Home.{Home}
use Rattle.storage_data.specs.declared.offset_node.Home.TheVariants.{Block, Own}
use Rattle.storage_data.specs.declared.offset_node.OffsetNode.{OffsetNode}
use Rattle.storage_data.specs.OffsetNodes.{lowest}
use Rattle.storage_layout.specs.Groups.{groups_from, index_from}
use Rattle.storage_layout.specs.Table.{Layout, group_in, home_place, place_in as offset_node_place, unless_dummy, unless_value}
use Rattle.laws_programs.proofs.SymbolTables.Answers.{names_in, layout_in, answered_by}
use Rattle.laws_programs.specs.Layout.Layout.{Chained}
use Rattle.laws_programs.specs.Layout.Laws.{IsNumbered, SharingHasAChain}
use Rattle.laws_programs.proofs.Layouts.ChainLaws.{name_at, Linked}
use Rattle.laws_programs.proofs.Layouts.BlockChains.{placed, table_link, member_of}

-- ---- numbers of groups

pub index_least : (n : ℕ) (gs : List ℕ) (h g : ℕ) → index_from n gs h ≡ Some g → n ≤ g
index_least n [] h g e = cc
index_least n (x ∷ gs) h g e = go (nat_eq h x) e (index_least (n + 1) gs h g)
  where
    go : (b : Bool) → (if b then Some n else index_from (n + 1) gs h) ≡ Some g → (index_from (n + 1) gs h ≡ Some g → n + 1 ≤ g) → n ≤ g
    go true k ih = let same : n ≡ g = cc in omega (arith, same)
    go false k ih = let low = ih k in omega (arith, low)

pub index_same : (n : ℕ) (gs : List ℕ) (h k g : ℕ) → index_from n gs h ≡ Some g → index_from n gs k ≡ Some g → h ≡ k
index_same n [] h k g e f = cc
index_same n (x ∷ gs) h k g e f = go (nat_eq h x) (nat_eq k x) refl refl e f (index_same (n + 1) gs h k g)
  where
    go : (b c : Bool) → nat_eq h x ≡ b → nat_eq k x ≡ c → (if b then Some n else index_from (n + 1) gs h) ≡ Some g → (if c then Some n else index_from (n + 1) gs k) ≡ Some g → (index_from (n + 1) gs h ≡ Some g → index_from (n + 1) gs k ≡ Some g → h ≡ k) → h ≡ k
    go true true p q a b ih = eqb-true h x p ∙ sym (eqb-true k x q)
    go true false p q a b ih = let same : n ≡ g = cc in let low = index_least (n + 1) gs k g b in absurd (omega (arith, same, low))
    go false true p q a b ih = let same : n ≡ g = cc in let low = index_least (n + 1) gs h g a in absurd (omega (arith, same, low))
    go false false p q a b ih = ih a b

has_number : (o : Option ℕ) (g : ℕ) → unwrap_or o 0 ≡ g → 0 < g → o ≡ Some g
has_number None g e h = absurd (omega (arith, e, h))
has_number (Some n) g e h = ap Some e

same_group : (l : Layout) (h k g : ℕ) → group_in l h ≡ g → group_in l k ≡ g → 0 < g → h ≡ k
same_group l h k g e f some =
    let gs = groups_from 0 l.table.entries l.offset_nodes [] in
    index_same 1 gs h k g (has_number (index_from 1 gs h) g e some) (has_number (index_from 1 gs k) g f some)

-- ---- units and offset nodes

-- a unit of a group or a block
abbrev Holds : Layout → Home → OneUnit → Type 0
Holds l (Own h) (group_unit g k) = group_in l h ≡ g
Holds l (Own h) (block_unit b k) = ⊥
Holds l (Block n) (group_unit g k) = ⊥
Holds l (Block n) (block_unit b k) = unwrap_or (slice_get l.names n) [] ≡ b

record UnitOffsetNode (l : Layout) (o : Option OffsetNode) (u : OneUnit) : Type 0 where
  offset_node : OffsetNode
  is : o ≡ Some offset_node
  holds : Holds l offset_node.home u

unit_offset_node : (l : Layout) (v : Option Constant) (d : Option ℕ) (s : Option OffsetNode) (k : ℕ) (u : OneUnit) → unit_after (unless_value v (unless_dummy d (offset_node_place l s))) k ≡ Some u → IsNumbered u → UnitOffsetNode l s u
unit_offset_node l (Some c) d s k u e h = cc
unit_offset_node l None (Some n) s k u e h = cc
unit_offset_node l None None None k u e h = let same : group_unit 0 (0 + k) ≡ u = cc in let none : 0 < 0 = subst IsNumbered (sym same) h in absurd (omega (arith, none))
unit_offset_node l None None (Some s) k u e h = record { offset_node = s; is = refl; holds = go s.home e }
  where
    go : (x : Home) → unit_after (home_place l s.offset x) k ≡ Some u → Holds l x u
    go (Own n) q = let same : group_unit (group_in l n) (as_count (s.offset -ℤ lowest l.offset_nodes (Own n)) + k) ≡ u = cc in subst (Holds l (Own n)) same refl
    go (Block n) q = let same : block_unit (unwrap_or (slice_get l.names n) []) (as_count s.offset + k) ≡ u = cc in subst (Holds l (Block n)) same refl

-- ---- a table

same_home : (p : ParsedTree) (m n : ℕ) (s r : OffsetNode) (u : OneUnit) → IsNumbered u → slice_get (layout_in p).offset_nodes m ≡ Some s → slice_get (layout_in p).offset_nodes n ≡ Some r → Holds (layout_in p) s.home u → Holds (layout_in p) r.home u → s.home ≡ r.home
same_home p m n s r u some e f a b = go s.home r.home u refl refl some a b
  where
    go : (x y : Home) (w : OneUnit) → s.home ≡ x → r.home ≡ y → IsNumbered w → Holds (layout_in p) x w → Holds (layout_in p) y w → s.home ≡ r.home
    go (Own i) (Own j) (group_unit g k) q z h c d = q ∙ ap Own (same_group (layout_in p) i j g c d h) ∙ sym z
    go (Own i) (Own j) (block_unit b k) q z h c d = absurd c
    go (Own i) (Block j) (group_unit g k) q z h c d = absurd d
    go (Own i) (Block j) (block_unit b k) q z h c d = absurd c
    go (Block i) (Own j) (group_unit g k) q z h c d = absurd c
    go (Block i) (Own j) (block_unit b k) q z h c d = absurd d
    go (Block i) (Block j) (group_unit g k) q z h c d = absurd c
    go (Block i) (Block j) (block_unit b k) q z h c d =
        let one = member_of p b i m s c e q in
        let two = member_of p b j n r d f z in
        let number : Some i ≡ Some j = sym one.is_number ∙ two.is_number in
        let same : i ≡ j = cc in
        q ∙ ap Block same ∙ sym z

pub sharing_has_a_chain : SharingHasAChain
sharing_has_a_chain p ss q i j a b u some h k x y =
    let ds = p.module_read.decls in
    let t = names_in p in
    let l = layout_in p in
    let r = placed p ss (answered_by p ss q) i a h in
    let s = placed p ss (answered_by p ss q) j b k in
    let one = unit_offset_node l r.entry.value r.entry.dummy (slice_get l.offset_nodes i) x.0 u (ap (λ z. unit_after z x.0) r.lies ∙ x.2) some in
    let two = unit_offset_node l s.entry.value s.entry.dummy (slice_get l.offset_nodes j) y.0 u (ap (λ z. unit_after z y.0) s.lies ∙ y.2) some in
    go r.named s.named (table_link p i j one.offset_node two.offset_node one.is two.is (same_home p i j one.offset_node two.offset_node u some one.is two.is one.holds two.holds))
  where
    go : name_at p.module_read.decls (names_in p) i ≡ a.name → name_at p.module_read.decls (names_in p) j ≡ b.name → Linked p.module_read.decls (names_in p) i j → (i ≡ j) ⊎ Chained p.module_read.decls a.name b.name
    go n m (inl e) = inl e
    go n m (inr c) = inr (subst (λ z. Chained p.module_read.decls z b.name) n (subst (Chained p.module_read.decls (name_at p.module_read.decls (names_in p) i)) m c))
