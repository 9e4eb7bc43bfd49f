-- Each name with a place has an offset node, also behind COMMON.
use Rattle.std.proofs.Common.{◌≡◌, ℕ, zero, suc, ◌+◌, ◌-◌, Bool, true, false, List, [], ◌∷◌, length, map, Option, Some, None, pos, refl, sym, ap, ◌∙◌, arith}
use Rattle.std.specs.Prelude.{slice_get, slice_set, bytes_eq, if◌then◌else◌}
use Rattle.f77_ast.specs.DeclTrees.{EntityTree, CommonTree, DeclTree}
use Rattle.f77_ast.specs.DeclTrees as decl
use Rattle.f77_ast.specs.Symbols.{number_from}
use Rattle.f77_names.specs.Entries.{EntryTree, place_in}
use Rattle.f77_names.specs.Tables.{NameTable}
use Rattle.storage_data.specs.declared.offset_node.Home.TheVariants.{Block}
use Rattle.storage_data.specs.declared.offset_node.OffsetNode.{OffsetNode}
use Rattle.storage_data.specs.OffsetNodes.{alone_from}
use Rattle.storage_data.specs.Units.{place_of, units_of}
use Rattle.storage_layout.specs.declared.blocks.Laid.{Laid}
use Rattle.storage_layout.specs.Blocks.{block_number, with_block, sits_in_block, put_at, put_there, member_put, members_put, part_put, parts_put, decl_put, decls_put}
use Rattle.storage_layout.specs.Symbols.{alone, laid}
use Rattle.storage_layout.proofs.GroupLaws.{IsAssociated}
use Rattle.f77_ast.proofs.NumberedNames.{number_from-least}

-- ---- offset nodes that are free

-- a place with a free offset node has one
pub free_offset_node : (o : Option OffsetNode) → sits_in_block o ≡ false → (s : OffsetNode) × (o ≡ Some s)
free_offset_node None h = cc
free_offset_node (Some s) h = (s, refl)

-- no offset node is in a block at first
pub none_sits : (m n k : ℕ) (es : List EntryTree) (x : List ℕ) → number_from n (map (λ e. e.name) es) x ≡ Some k → sits_in_block (slice_get (alone_from m (length es)) (k - n)) ≡ false
none_sits m n k [] x h = cc
none_sits m n k (z ∷ es) x h = go (bytes_eq x z.name) h (none_sits (m + 1) (suc n) k es x)
  where
    go : (c : Bool) → (if c then Some n else number_from (suc n) (map (λ y. y.name) es) x) ≡ Some k → (number_from (suc n) (map (λ y. y.name) es) x ≡ Some k → sits_in_block (slice_get (alone_from (m + 1) (length es)) (k - suc n)) ≡ false) → sits_in_block (slice_get (alone_from m (length (z ∷ es))) (k - n)) ≡ false
    go true h ih = let same : n ≡ k = cc in let none : k - n ≡ zero = omega (arith, same) in ap (λ i. sits_in_block (slice_get (alone_from m (length (z ∷ es))) i)) none
    go false h ih = let low = number_from-least (suc n) k (map (λ y. y.name) es) x h in let less : k - n ≡ suc (k - suc n) = omega (arith, low) in ap (λ i. sits_in_block (slice_get (alone_from m (length (z ∷ es))) i)) less ∙ ih h

-- ---- what stays where variables are put into blocks

module _ (P : List OffsetNode → Type 0) (step : (ss : List OffsetNode) (place : ℕ) (v : OffsetNode) → P ss → P (slice_set ss place v)) (t : NameTable) where
  block_keeps : (x : List ℕ) (o : Option ℕ) (l : Laid) → P l.offset_nodes → P (with_block x o l).offset_nodes
  block_keeps x None l h = h
  block_keeps x (Some n) l h = h

  at_keeps : (units place n : ℕ) (o : Option ℕ) (l : Laid) → P l.offset_nodes → P (put_at units place n o l).offset_nodes
  at_keeps units place n None l h = h
  at_keeps units place n (Some size) l h = step l.offset_nodes place (record { home = Block n; offset = pos size }) h

  there_keeps : (units place : ℕ) (o : Option ℕ) (l : Laid) → P l.offset_nodes → P (put_there units place o l).offset_nodes
  there_keeps units place None l h = h
  there_keeps units place (Some n) l h = at_keeps units place n (slice_get l.sizes n) l h

  member_keeps : (block : List ℕ) (e : EntityTree) (o : Option ℕ) (l : Laid) → P l.offset_nodes → P (member_put t block e o l).offset_nodes
  member_keeps block e None l h = h
  member_keeps block e (Some place) l h = go (sits_in_block (slice_get l.offset_nodes place))
    where
      go : (b : Bool) → P (let r : Laid = if b then l else put_there (units_of t e.name) place (block_number l.names block) l in r.offset_nodes)
      go true = h
      go false = there_keeps (units_of t e.name) place (block_number l.names block) l h

  members_keep : (block : List ℕ) (es : List EntityTree) (l : Laid) → P l.offset_nodes → P (members_put t block es l).offset_nodes
  members_keep block [] l h = h
  members_keep block (e ∷ es) l h = members_keep block es (member_put t block e (place_of t e.name) l) (member_keeps block e (place_of t e.name) l h)

  parts_keep : (cs : List CommonTree) (l : Laid) → P l.offset_nodes → P (parts_put t cs l).offset_nodes
  parts_keep [] l h = h
  parts_keep (c ∷ cs) l h = parts_keep cs (part_put t c l) (members_keep c.block c.members (with_block c.block (block_number l.names c.block) l) (block_keeps c.block (block_number l.names c.block) l h))

  decl_keeps : (d : DeclTree) (l : Laid) → P l.offset_nodes → P (decl_put t d l).offset_nodes
  decl_keeps (decl.common cs) l h = parts_keep cs l h
  decl_keeps (decl.implicit ps) l h = h
  decl_keeps (decl.integer es) l h = h
  decl_keeps (decl.logical es) l h = h
  decl_keeps (decl.dimension es) l h = h
  decl_keeps (decl.parameter ss) l h = h
  decl_keeps (decl.equivalence gs) l h = h
  decl_keeps (decl.save is) l h = h
  decl_keeps (decl.initial gs) l h = h

  pub decls_keep : (ds : List DeclTree) (l : Laid) → P l.offset_nodes → P (decls_put t ds l).offset_nodes
  decls_keep [] l h = h
  decls_keep (d ∷ ds) l h = decls_keep ds (decl_put t d l) (decl_keeps d l h)

set_has : (ss : List OffsetNode) (i : ℕ) (v : OffsetNode) (k : ℕ) (s : OffsetNode) → slice_get ss k ≡ Some s → (r : OffsetNode) × (slice_get (slice_set ss i v) k ≡ Some r)
set_has [] i v zero s e = cc
set_has [] i v (suc k) s e = cc
set_has (x ∷ ss) zero v zero s e = (v, refl)
set_has (x ∷ ss) zero v (suc k) s e = (s, e)
set_has (x ∷ ss) (suc i) v zero s e = (s, e)
set_has (x ∷ ss) (suc i) v (suc k) s e = set_has ss i v k s e

module _ (t : NameTable) where
  associated_set : (ss : List OffsetNode) (i : ℕ) (v : OffsetNode) → IsAssociated t ss → IsAssociated t (slice_set ss i v)
  associated_set ss i v h x k e = let s = h x k e in set_has ss i v k s.0 s.1

  alone_associated : IsAssociated t (alone t).offset_nodes
  unfolding place_in
  alone_associated x k e =
      let same : k - 0 ≡ k = omega arith in
      free_offset_node (slice_get (alone_from 0 (length t.entries)) k) (ap (λ i. sits_in_block (slice_get (alone_from 0 (length t.entries)) i)) (sym same) ∙ none_sits 0 0 k t.entries x e)

  pub laid_associated : (ds : List DeclTree) → IsAssociated t (laid t ds).offset_nodes
  unfolding laid
  laid_associated ds = decls_keep (IsAssociated t) associated_set t ds (alone t) alone_associated
