-- What lies in a block of a table is a member of it, or is associated with one.
use Rattle.std.proofs.Common.{◌≡◌, ℕ, zero, suc, Bool, true, false, ℤ, pos, ◌+ℤ◌, ◌-ℤ◌, List, [], ◌∷◌, map, Option, Some, None, ◌⊎◌, inl, inr, refl, sym, ap, ◌∙◌, subst, arith}
use Rattle.std.specs.Prelude.{slice_get, not, neg_ℤ, if◌then◌else◌, unwrap_or}
use Rattle.std.specs.Ordering.{int_eq}
use Rattle.f77_ast.specs.DeclTrees.{DeclTree, ParsedTree}
use Rattle.f77_ast.specs.declared.constant.Constant.{Constant}
use Rattle.f77_ast.specs.declared.symbol.Place.TheVariants as place
use Rattle.f77_ast.specs.Symbols.{SymbolTree}
use Rattle.f77_names.specs.Entries.{EntryTree}
use Rattle.f77_names.specs.Tables.{NameTable}
use Rattle.storage_data.specs.declared.offset_node.Home.{Home}
use Rattle.storage_data.specs.declared.offset_node.Home.TheVariants.{Block, Own}
use Rattle.storage_data.specs.declared.offset_node.OffsetNode.{OffsetNode}
use Rattle.storage_data.specs.OffsetNodes.{same_home, is_block, all_moved, Joined, joined_at, joined_offset_nodes, joined}
use Rattle.storage_layout.specs.Blocks.{block_number}
use Rattle.storage_layout.specs.Table.{Layout, home_place, place_in as offset_node_place, unless_dummy, unless_value}
use Rattle.storage_layout.specs.Symbols.{unshared, shared}
use Rattle.laws_programs.proofs.SymbolTables.Answers.{Answered, lines_in, names_in, found_in, laid_in, shared_in, layout_in, answered_by}
use Rattle.laws_programs.proofs.SymbolTables.EntryLaws.{entry_of}
use Rattle.storage_layout.specs.Statements.{members, Has}
use Rattle.laws_programs.specs.Layout.Layout.{Chained}
use Rattle.laws_programs.specs.Layout.Laws.{BlocksHaveAChain}
use Rattle.laws_programs.proofs.Layouts.CommonLaws.{block_named}
use Rattle.storage_layout.proofs.StayLaws.{shared_stays}
use Rattle.storage_layout.proofs.GroupKeeps.{decls_keep}
use Rattle.laws_programs.proofs.Layouts.ChainLaws.{name_at, Linked, HomesLink, Old, old_of, home_now, shared_link}
use Rattle.laws_programs.proofs.Layouts.HomeLaws.{InBlock, Home_of, laid_homes, laid_link}

-- ---- no join makes a block

module _ (ds : List DeclTree) (t : NameTable) (first : List OffsetNode) where
  -- a block in which a variable lies has one at first
  abbrev Used : List OffsetNode → Type 0
  Used ss = (m n : ℕ) (s : OffsetNode) → slice_get ss m ≡ Some s → s.home ≡ Block n → (k : ℕ) × (r : OffsetNode) × (slice_get first k ≡ Some r) × (r.home ≡ Block n)

  moved_used : (ss : List OffsetNode) (from to : Home) (shift : ℤ) (j : ℕ) (b : OffsetNode) → slice_get ss j ≡ Some b → b.home ≡ to → Used ss → Used (all_moved from to shift ss)
  moved_used ss from to shift j b e there h m n s f block = let x = old_of ds t ss from to shift m s f in go x (same_home x.old.home from) refl
    where
      go : (x : Old ds t ss from to shift m s) (c : Bool) → same_home x.old.home from ≡ c → (k : ℕ) × (r : OffsetNode) × (slice_get first k ≡ Some r) × (r.home ≡ Block n)
      go x true q = h j n b e (there ∙ sym (home_now ds t from to shift x.old s true q x.now) ∙ block)
      go x false q = h m n x.old x.is (sym (home_now ds t from to shift x.old s false q x.now) ∙ block)

  at_used : (ss : List OffsetNode) (i j : ℕ) (a b : OffsetNode) (shift : ℤ) → slice_get ss i ≡ Some a → slice_get ss j ≡ Some b → Used ss → Used (joined_at ss a b shift).offset_nodes
  at_used ss i j a b shift e f h = go (same_home a.home b.home) (is_block b.home) (is_block a.home)
    where
      go : (same inner outer : Bool) → Used (let r : Joined = if same then record { offset_nodes = ss; clash = not (int_eq shift (pos 0)) } else if inner then (if outer then record { offset_nodes = ss; clash = true } else record { offset_nodes = all_moved a.home b.home (neg_ℤ shift) ss; clash = false }) else record { offset_nodes = all_moved b.home a.home shift ss; clash = false } in r.offset_nodes)
      go true inner outer = h
      go false true true = h
      go false true false = moved_used ss a.home b.home (neg_ℤ shift) j b f refl h
      go false false outer = moved_used ss b.home a.home shift i a e refl h

  joined_used : (ss : List OffsetNode) (i : ℕ) (p : ℤ) (j : ℕ) (q : ℤ) → Used ss → Used (joined ss i p j q).offset_nodes
  joined_used ss i p j q h = go (slice_get ss i) (slice_get ss j) refl refl
    where
      go : (x y : Option OffsetNode) → slice_get ss i ≡ x → slice_get ss j ≡ y → Used (joined_offset_nodes ss x p y q).offset_nodes
      go None y e f = h
      go (Some a) None e f = h
      go (Some a) (Some b) e f = at_used ss i j a b ((a.offset +ℤ p) -ℤ (b.offset +ℤ q)) e f h

shared_used : (p : ParsedTree) → Used p.module_read.decls (names_in p) (laid_in p).offset_nodes (shared_in p).group.offset_nodes
unfolding shared
shared_used p = decls_keep (Used p.module_read.decls (names_in p) (laid_in p).offset_nodes) (joined_used p.module_read.decls (names_in p) (laid_in p).offset_nodes) (names_in p) (lines_in p) p.module_read.decls 0 (unshared (laid_in p).offset_nodes (found_in p)) (λ m n s e h. (m, s, e, h))

-- ---- symbols

-- the offset node of what lies in a block
record BlockOffsetNode (l : Layout) (o : Option OffsetNode) (b : List ℕ) : Type 0 where
  offset_node : OffsetNode
  is : o ≡ Some offset_node
  number : ℕ
  home : offset_node.home ≡ Block number
  named : unwrap_or (slice_get l.names number) [] ≡ b

block_offset_node : (l : Layout) (v : Option Constant) (d : Option ℕ) (s : Option OffsetNode) (b : List ℕ) (o : ℕ) → unless_value v (unless_dummy d (offset_node_place l s)) ≡ place.Block b o → BlockOffsetNode l s b
block_offset_node l (Some c) d s b o h = cc
block_offset_node l None (Some n) s b o h = cc
block_offset_node l None None None b o h = cc
block_offset_node l None None (Some s) b o h = go s.home refl h
  where
    go : (x : Home) → s.home ≡ x → home_place l s.offset x ≡ place.Block b o → BlockOffsetNode l (Some s) b
    go (Block n) q k = let same : unwrap_or (slice_get l.names n) [] ≡ b = cc in record { offset_node = s; is = refl; number = n; home = q; named = same }
    go (Own n) q k = cc

name_of_entry : (es : List EntryTree) (i : ℕ) (e : EntryTree) → slice_get es i ≡ Some e → slice_get (map (λ z. z.name) es) i ≡ Some e.name
name_of_entry [] zero e h = cc
name_of_entry [] (suc i) e h = cc
name_of_entry (x ∷ es) zero e h = let same : x ≡ e = cc in ap (λ z. Some z.name) same
name_of_entry (x ∷ es) (suc i) e h = name_of_entry es i e h

-- a symbol with its place among the names
pub record Placed (p : ParsedTree) (s : SymbolTree) (i : ℕ) : Type 0 where
  pub entry : EntryTree
  pub named : name_at p.module_read.decls (names_in p) i ≡ s.name
  pub lies : unless_value entry.value (unless_dummy entry.dummy (offset_node_place (layout_in p) (slice_get (layout_in p).offset_nodes i))) ≡ s.place

pub placed : (p : ParsedTree) (ss : List SymbolTree) → Answered p ss → (i : ℕ) (s : SymbolTree) → slice_get ss i ≡ Some s → Placed p s i
placed p ss a i s h =
    let l = layout_in p in
    let r = entry_of l 0 (names_in p).entries i s (subst (λ z. slice_get z i ≡ Some s) a.table h) in
    let at : r.place ≡ i = omega (arith, r.is_place) in
    record {
      entry = r.entry;
      named = ap (λ o. unwrap_or o []) (name_of_entry (names_in p).entries i r.entry r.is_entry) ∙ ap (λ z. z.name) (sym r.symbol);
      lies = ap (λ k. unless_value r.entry.value (unless_dummy r.entry.dummy (offset_node_place l (slice_get l.offset_nodes k)))) (sym at) ∙ ap (λ z. z.place) (sym r.symbol);
    }

-- what lies in one group or block of a table
pub table_link : (p : ParsedTree) → HomesLink p.module_read.decls (names_in p) (layout_in p).offset_nodes
table_link p = shared_link p.module_read.decls (names_in p) (lines_in p) (laid_in p).offset_nodes (found_in p) (laid_link p.module_read.decls (names_in p))

-- a member of the block of an offset node
pub record MemberOf (p : ParsedTree) (b : List ℕ) (n m : ℕ) : Type 0 where
  pub place : ℕ
  pub has : Has (members b p.module_read.decls) (name_at p.module_read.decls (names_in p) place)
  pub is_number : block_number (laid_in p).names b ≡ Some n
  pub link : Linked p.module_read.decls (names_in p) place m

pub member_of : (p : ParsedTree) (b : List ℕ) (n m : ℕ) (s : OffsetNode) → unwrap_or (slice_get (laid_in p).names n) [] ≡ b → slice_get (layout_in p).offset_nodes m ≡ Some s → s.home ≡ Block n → MemberOf p b n m
member_of p b n m s named e h =
    let ds = p.module_read.decls in
    let t = names_in p in
    let from = shared_used p m n s e h in
    let first : InBlock ds t (laid_in p) from.0 n = subst (Home_of ds t (laid_in p) from.0) from.3 (laid_homes ds t from.0 from.1 from.2) in
    let number = block_named (laid_in p).names first.block n first.is in
    let same : first.block ≡ b = sym (ap (λ o. unwrap_or o []) number) ∙ named in
    let now = shared_stays t (lines_in p) ds (laid_in p).offset_nodes (found_in p) from.0 from.1 from.2 (ap is_block from.3) in
    record {
      place = from.0;
      has = subst (λ z. Has (members z ds) (name_at ds t from.0)) same first.has;
      is_number = ap (block_number (laid_in p).names) (sym same) ∙ first.is;
      link = table_link p from.0 m from.1 s now e (from.3 ∙ sym h);
    }

pub blocks_have_a_chain : BlocksHaveAChain
blocks_have_a_chain p ss q i o s b h lies =
    let ds = p.module_read.decls in
    let t = names_in p in
    let r = placed p ss (answered_by p ss q) i s h in
    let offset_node = block_offset_node (layout_in p) r.entry.value r.entry.dummy (slice_get (layout_in p).offset_nodes i) b o (r.lies ∙ lies) in
    let member = member_of p b offset_node.number i offset_node.offset_node offset_node.named offset_node.is offset_node.home in
    (name_at ds t member.place, member.has, go member.place r.named member.link)
  where
    go : (k : ℕ) → name_at p.module_read.decls (names_in p) i ≡ s.name → Linked p.module_read.decls (names_in p) k i → (name_at p.module_read.decls (names_in p) k ≡ s.name) ⊎ Chained p.module_read.decls (name_at p.module_read.decls (names_in p) k) s.name
    go k name (inl e) = inl (ap (name_at p.module_read.decls (names_in p)) e ∙ name)
    go k name (inr c) = inr (subst (Chained p.module_read.decls (name_at p.module_read.decls (names_in p) k)) name c)
