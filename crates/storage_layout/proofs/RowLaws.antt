-- COMMON as it is laid out: the members of a block lie one behind the other, in the order of the text.
use Rattle.std.proofs.Common.{◌≡◌, ℕ, zero, suc, ◌+◌, ◌-◌, Bool, true, false, pos, List, [], ◌∷◌, ◌++◌, length, map, Option, Some, None, refl, sym, ap, ◌∙◌, subst, arith, append_assoc, append-nil, length-append}
use Rattle.std.specs.Prelude.{if◌then◌else◌, bytes_eq, nat_eq, slice_get, slice_set, flat_map}
use Rattle.std.proofs.lemmas.Bool.{eqb-true, eqb-false}
use Rattle.std.proofs.lemmas.Slice.Eq.{bytes_eq-Decides}
use Rattle.f77_ast.specs.DeclTrees.{EntityTree, CommonTree, DeclTree}
use Rattle.f77_ast.specs.DeclTrees as decl
use Rattle.f77_ast.specs.Symbols.{number_from}
use Rattle.f77_ast.proofs.NumbersLaws.{number_from-append}
use Rattle.f77_names.specs.Entries.{place_in}
use Rattle.f77_names.specs.Tables.{NameTable}
use Rattle.storage_data.specs.declared.offset_node.Home.TheVariants.{Block}
use Rattle.storage_data.specs.declared.offset_node.OffsetNode.{OffsetNode}
use Rattle.storage_data.specs.OffsetNodes.{alone_from}
use Rattle.storage_data.specs.Units.{place_of, units_of}
use Rattle.storage_layout.specs.declared.blocks.Laid.{Laid}
use Rattle.storage_layout.specs.Statements.{Has, commons_in, commons, members_in, members, names_in, common_names}
use Rattle.storage_layout.specs.Blocks.{block_number, with_block, sits_in_block, put_at, put_there, member_put, members_put, part_put, parts_put, decl_put, decls_put}
use Rattle.storage_layout.specs.Symbols.{alone, laid}
use Rattle.storage_layout.specs.Laws.{AreDistinct, InARow, HasRow, no_block, a_row, MembersLieInARow}
use Rattle.storage_layout.proofs.StayLaws.{BlocksRemain}
use Rattle.storage_layout.proofs.IsAssociatedLaws.{free_offset_node, none_sits}
use Rattle.fx_lists.proofs.Lookups.{set_here, set_other, get_last, get_more}
use Rattle.f77_ast.proofs.NumberedNames.{one_number}

-- ---- lists

pub set_length : {X : Type 0} (xs : List X) (i : ℕ) (v : X) → length (slice_set xs i v) ≡ length xs
set_length [] zero v = refl
set_length [] (suc i) v = refl
set_length (x ∷ xs) zero v = refl
set_length (x ∷ xs) (suc i) v = ap suc (set_length xs i v)

-- ---- lists of names

pub flat_map-append : {X Y : Type 0} (f : X → List Y) (xs ys : List X) → flat_map f (xs ++ ys) ≡ flat_map f xs ++ flat_map f ys
flat_map-append f [] ys = refl
flat_map-append f (x ∷ xs) ys = ap (λ z. f x ++ z) (flat_map-append f xs ys) ∙ sym (append_assoc (f x) (flat_map f xs) (flat_map f ys))

distinct_after : (t : NameTable) (xs ys : List (List ℕ)) → AreDistinct t (xs ++ ys) → AreDistinct t ys
distinct_after t [] ys d = d
distinct_after t (x ∷ xs) ys d = distinct_after t xs ys d.3

-- ---- rows

module _ (t : NameTable) where
  row_more : (ss : List OffsetNode) (n from : ℕ) (xs : List (List ℕ)) (to : ℕ) (x : List ℕ) (k : ℕ) → InARow t ss n from xs to → place_of t x ≡ Some k → slice_get ss k ≡ Some (record { home = Block n; offset = pos to }) → InARow t ss n from (xs ++ x ∷ []) (to + units_of t x)
  row_more ss n from [] to x k h p e = (k, p, e ∙ ap (λ o. Some (record { home = Block n; offset = pos o })) (sym h), ap (λ o. o + units_of t x) h)
  row_more ss n from (y ∷ xs) to x k h p e = (h.0, h.1, h.2, row_more ss n (from + units_of t y) xs to x k h.3 p e)

  pub row_remains : (ss ts : List OffsetNode) (n from : ℕ) (xs : List (List ℕ)) (to : ℕ) → BlocksRemain ss ts → InARow t ss n from xs to → InARow t ts n from xs to
  row_remains ss ts n from [] to r h = h
  row_remains ss ts n from (x ∷ xs) to r h = (h.0, h.1, r h.0 (record { home = Block n; offset = pos from }) h.2 refl, row_remains ss ts n (from + units_of t x) xs to r h.3)

  -- ---- one block

  -- these names are in no block so far
  abbrev Free : List (List ℕ) → Laid → Type 0
  Free ys l = (y : List ℕ) (j : ℕ) → Has ys y → place_of t y ≡ Some j → sits_in_block (slice_get l.offset_nodes j) ≡ false

  -- the row of a block so far, and the names that are to come
  record State (b : List ℕ) (ys : List (List ℕ)) (l : Laid) (xs : List (List ℕ)) : Type 0 where
    even : length l.names ≡ length l.sizes
    free : Free ys l
    row : HasRow t b l xs

  -- an offset node that is free is none of a block
  free_remains : (ss : List OffsetNode) (place : ℕ) (v : OffsetNode) → sits_in_block (slice_get ss place) ≡ false → BlocksRemain ss (slice_set ss place v)
  free_remains ss place v free k s e inside = set_other ss place k v (λ q. not_here q) ∙ e
    where
      not_here : place ≡ k → ⊥
      not_here q = let yes : sits_in_block (slice_get ss place) ≡ true = ap (λ i. sits_in_block (slice_get ss i)) q ∙ ap sits_in_block e ∙ inside in let z : true ≡ false = sym yes ∙ free in cc

  same_place : (x y : List ℕ) (k : ℕ) → place_of t x ≡ Some k → place_of t y ≡ Some k → x ≡ y
  unfolding place_in
  same_place x y k e f = one_number 0 k (map (λ e. e.name) t.entries) x y e f

  -- with one member less to come
  free_next : (ys : List (List ℕ)) (l : Laid) (x : List ℕ) (k : ℕ) (v : OffsetNode) → place_of t x ≡ Some k → (Has ys x → ⊥) → Free (x ∷ ys) l → (y : List ℕ) (j : ℕ) → Has ys y → place_of t y ≡ Some j → sits_in_block (slice_get (slice_set l.offset_nodes k v) j) ≡ false
  free_next ys l x k v p new h y j i q = go (nat_eq k j) refl
    where
      go : (b : Bool) → nat_eq k j ≡ b → sits_in_block (slice_get (slice_set l.offset_nodes k v) j) ≡ false
      go true e = absurd (new (subst (Has ys) (sym (same_place x y k p (q ∙ ap Some (sym (eqb-true k j e))))) i))
      go false e = ap sits_in_block (set_other l.offset_nodes k j v (eqb-false k j e)) ∙ h y j (suc i.0, i.1) q

  state_next : (b x : List ℕ) (ys : List (List ℕ)) (l : Laid) (xs : List (List ℕ)) → State b (x ∷ ys) l xs → State b ys l xs
  state_next b x ys l xs st = record { even = st.even; free = λ y j i q. st.free y j (suc i.0, i.1) q; row = st.row }

  module _ (b : List ℕ) (block : List ℕ) where
    -- of the block itself
    own_put : (ys : List (List ℕ)) (l : Laid) (xs : List (List ℕ)) (x : List ℕ) (k n size : ℕ) → place_of t x ≡ Some k → (Has ys x → ⊥) → State b (x ∷ ys) l xs → block_number l.names b ≡ Some n → slice_get l.sizes n ≡ Some size → InARow t l.offset_nodes n 0 xs size →
        State b ys (put_at (units_of t x) k n (Some size) l) (xs ++ x ∷ [])
    own_put ys l xs x k n size p new st is has row =
        let v : OffsetNode = record { home = Block n; offset = pos size } in
        let free = st.free x k (zero, refl) p in
        let offset_node = free_offset_node (slice_get l.offset_nodes k) free in
        record {
          even = st.even ∙ sym (set_length l.sizes n (size + units_of t x));
          free = free_next ys l x k v p new st.free;
          row = a_row n (size + units_of t x) is (set_here l.sizes n (size + units_of t x) size has) (row_more (slice_set l.offset_nodes k v) n 0 xs size x k (row_remains l.offset_nodes (slice_set l.offset_nodes k v) n 0 xs size (free_remains l.offset_nodes k v free) row) p (set_here l.offset_nodes k v offset_node.0 offset_node.1));
        }

    -- of another block
    other_put : (ys : List (List ℕ)) (l : Laid) (xs : List (List ℕ)) (x : List ℕ) (k m size : ℕ) → (b ≡ block → ⊥) → place_of t x ≡ Some k → (Has ys x → ⊥) → State b (x ∷ ys) l xs → block_number l.names block ≡ Some m → State b ys (put_at (units_of t x) k m (Some size) l) xs
    other_put ys l xs x k m size differ p new st is = record {
      even = st.even ∙ sym (set_length l.sizes m (size + units_of t x));
      free = free_next ys l x k (record { home = Block m; offset = pos size }) p new st.free;
      row = go st.row;
    }
      where
        go : HasRow t b l xs → HasRow t b (put_at (units_of t x) k m (Some size) l) xs
        go (no_block a c) = no_block a c
        go (a_row n old a c row) =
            a_row n old a (set_other l.sizes m n (size + units_of t x) (λ q. differ (one_number 0 n l.names b block a (is ∙ ap Some q))) ∙ c)
            (row_remains l.offset_nodes (slice_set l.offset_nodes k (record { home = Block m; offset = pos size })) n 0 xs old (free_remains l.offset_nodes k (record { home = Block m; offset = pos size }) (st.free x k (zero, refl) p)) row)

  -- ---- members

  -- a member with a place and a free offset node is put there
  put_is : (block : List ℕ) (e : EntityTree) (l : Laid) (k : ℕ) → place_of t e.name ≡ Some k → sits_in_block (slice_get l.offset_nodes k) ≡ false → member_put t block e (place_of t e.name) l ≡ put_there (units_of t e.name) k (block_number l.names block) l
  put_is block e l k p free = ap (λ o. member_put t block e o l) p ∙ ap (λ c. if c then l else put_there (units_of t e.name) k (block_number l.names block) l) free

  module _ (b : List ℕ) where
    members_own : (block : List ℕ) → b ≡ block → (es : List EntityTree) (ys : List (List ℕ)) (l : Laid) (xs : List (List ℕ)) (n : ℕ) → AreDistinct t (map (λ e. e.name) es ++ ys) → State b (map (λ e. e.name) es ++ ys) l xs → block_number l.names b ≡ Some n →
        State b ys (members_put t block es l) (xs ++ map (λ e. e.name) es)
    members_own block same [] ys l xs n d st is = subst (State b ys l) (sym (append-nil xs)) st
    members_own block same (e ∷ es) ys l xs n d st is = go st.row (λ l' st' is'. members_own block same es ys l' (xs ++ e.name ∷ []) n d.3 st' is')
      where
        rest : List (List ℕ)
        rest = map (λ z. z.name) es ++ ys

        go : HasRow t b l xs → ((l' : Laid) → State b rest l' (xs ++ e.name ∷ []) → block_number l'.names b ≡ Some n → State b ys (members_put t block es l') ((xs ++ e.name ∷ []) ++ map (λ z. z.name) es)) → State b ys (members_put t block (e ∷ es) l) (xs ++ map (λ z. z.name) (e ∷ es))
        go (no_block a c) ih = let z : None ≡ Some n = sym a ∙ is in cc
        go (a_row m size a has row) ih =
            let k = d.0 in
            let p : place_of t e.name ≡ Some k = d.1 in
            let l' = put_at (units_of t e.name) k m (Some size) l in
            let put : member_put t block e (place_of t e.name) l ≡ l' = put_is block e l k p (st.free e.name k (zero, refl) p) ∙ ap (λ o. put_there (units_of t e.name) k o l) (ap (block_number l.names) (sym same) ∙ a) ∙ ap (λ o. put_at (units_of t e.name) k m o l) has in
            let next = own_put b block rest l xs e.name k m size p d.2 st a has row in
            subst (State b ys (members_put t block (e ∷ es) l)) (append_assoc xs (e.name ∷ []) (map (λ z. z.name) es))
            (subst (λ z. State b ys (members_put t block es z) ((xs ++ e.name ∷ []) ++ map (λ z. z.name) es)) (sym put) (ih l' next is))

    members_other : (block : List ℕ) → (b ≡ block → ⊥) → (es : List EntityTree) (ys : List (List ℕ)) (l : Laid) (xs : List (List ℕ)) → AreDistinct t (map (λ e. e.name) es ++ ys) → State b (map (λ e. e.name) es ++ ys) l xs → State b ys (members_put t block es l) xs
    members_other block differ [] ys l xs d st = st
    members_other block differ (e ∷ es) ys l xs d st =
        subst (λ z. State b ys (members_put t block es z) xs) (sym (put_is block e l d.0 d.1 (st.free e.name d.0 (zero, refl) d.1)))
        (members_other block differ es ys (put_there (units_of t e.name) d.0 (block_number l.names block) l) xs d.3 (there (block_number l.names block) refl))
      where
        rest : List (List ℕ)
        rest = map (λ z. z.name) es ++ ys

        seated : (m : ℕ) → block_number l.names block ≡ Some m → (o : Option ℕ) → State b rest (put_at (units_of t e.name) d.0 m o l) xs
        seated m is None = state_next b e.name rest l xs st
        seated m is (Some size) = other_put b block rest l xs e.name d.0 m size differ d.1 d.2 st is

        there : (o : Option ℕ) → block_number l.names block ≡ o → State b rest (put_there (units_of t e.name) d.0 o l) xs
        there None is = state_next b e.name rest l xs st
        there (Some m) is = seated m is (slice_get l.sizes m)

    -- ---- a block that begins

    even_more : (l : Laid) (x : List ℕ) → length l.names ≡ length l.sizes → length (l.names ++ x ∷ []) ≡ length (l.sizes ++ 0 ∷ [])
    even_more l x e = length-append l.names (x ∷ []) ∙ ap (λ n. n + 1) e ∙ sym (length-append l.sizes (0 ∷ []))

    record Begun (ys : List (List ℕ)) (l : Laid) (xs : List (List ℕ)) : Type 0 where
      state : State b ys l xs
      number : ℕ
      is : block_number l.names b ≡ Some number

    begins_own : (block : List ℕ) → bytes_eq block b ≡ true → b ≡ block → (ys : List (List ℕ)) (l : Laid) (xs : List (List ℕ)) → State b ys l xs → Begun ys (with_block block (block_number l.names block) l) xs
    begins_own block e same ys l xs st = go (block_number l.names block) refl
      where
        is_last : block_number l.names block ≡ None → block_number (l.names ++ block ∷ []) b ≡ Some (length l.names)
        is_last none = number_from-append 0 l.names block b none ∙ ap (λ c. if c then Some (0 + length l.names) else number_from 0 l.names b) e ∙ (let z : 0 + length l.names ≡ length l.names = omega arith in ap Some z)

        fresh : block_number l.names block ≡ None → HasRow t b l xs → HasRow t b (with_block block None l) xs
        fresh none (no_block a c) = a_row (length l.names) 0 (is_last none) (ap (slice_get (l.sizes ++ 0 ∷ [])) st.even ∙ get_last l.sizes 0) (subst (λ z. InARow t l.offset_nodes (length l.names) 0 z 0) (sym c) refl)
        fresh none (a_row n size a has row) = let z : Some n ≡ None = sym a ∙ ap (block_number l.names) same ∙ none in cc

        go : (o : Option ℕ) → block_number l.names block ≡ o → Begun ys (with_block block o l) xs
        go None none = record { state = record { even = even_more l block st.even; free = st.free; row = fresh none st.row }; number = length l.names; is = is_last none }
        go (Some n) is = record { state = st; number = n; is = ap (block_number l.names) same ∙ is }

    begins_other : (block : List ℕ) → bytes_eq block b ≡ false → (ys : List (List ℕ)) (l : Laid) (xs : List (List ℕ)) → State b ys l xs → State b ys (with_block block (block_number l.names block) l) xs
    begins_other block e ys l xs st = go (block_number l.names block) refl
      where
        still : block_number l.names block ≡ None → block_number (l.names ++ block ∷ []) b ≡ block_number l.names b
        still none = number_from-append 0 l.names block b none ∙ ap (λ c. if c then Some (0 + length l.names) else number_from 0 l.names b) e

        more : block_number l.names block ≡ None → HasRow t b l xs → HasRow t b (with_block block None l) xs
        more none (no_block a c) = no_block (still none ∙ a) c
        more none (a_row n size a has row) = a_row n size (still none ∙ a) (get_more l.sizes n 0 size has) row

        go : (o : Option ℕ) → block_number l.names block ≡ o → State b ys (with_block block o l) xs
        go None none = record { even = even_more l block st.even; free = st.free; row = more none st.row }
        go (Some n) is = st

    -- ---- statements

    part_rows : (c : CommonTree) (ys : List (List ℕ)) (l : Laid) (xs : List (List ℕ)) → AreDistinct t (names_in c ++ ys) → State b (names_in c ++ ys) l xs → State b ys (part_put t c l) (xs ++ members_in b c)
    part_rows c ys l xs d st = go (bytes_eq b c.block) refl
      where
        turned : (k : Bool) → bytes_eq b c.block ≡ k → bytes_eq c.block b ≡ k
        turned true e = (bytes_eq-Decides c.block b).1 (sym ((bytes_eq-Decides b c.block).0 e))
        turned false e = inner (bytes_eq c.block b) refl
          where
            inner : (z : Bool) → bytes_eq c.block b ≡ z → bytes_eq c.block b ≡ false
            inner true q = let yes = (bytes_eq-Decides b c.block).1 (sym ((bytes_eq-Decides c.block b).0 q)) in let z : true ≡ false = sym yes ∙ e in cc
            inner false q = q

        go : (k : Bool) → bytes_eq b c.block ≡ k → State b ys (part_put t c l) (xs ++ (if k then map (λ e. e.name) c.members else []))
        go true e =
            let same = (bytes_eq-Decides b c.block).0 e in
            let begun = begins_own c.block (turned true e) same (names_in c ++ ys) l xs st in
            members_own c.block same c.members ys (with_block c.block (block_number l.names c.block) l) xs begun.number d begun.state begun.is
        go false e =
            subst (State b ys (part_put t c l)) (sym (append-nil xs))
            (members_other c.block (λ q. (let z : true ≡ false = sym ((bytes_eq-Decides b c.block).1 q) ∙ e in cc)) c.members ys (with_block c.block (block_number l.names c.block) l) xs d (begins_other c.block (turned false e) (names_in c ++ ys) l xs st))

    parts_rows : (cs : List CommonTree) (ys : List (List ℕ)) (l : Laid) (xs : List (List ℕ)) → AreDistinct t (flat_map names_in cs ++ ys) → State b (flat_map names_in cs ++ ys) l xs → State b ys (parts_put t cs l) (xs ++ flat_map (members_in b) cs)
    parts_rows [] ys l xs d st = subst (State b ys l) (sym (append-nil xs)) st
    parts_rows (c ∷ cs) ys l xs d st =
        let apart = append_assoc (names_in c) (flat_map names_in cs) ys in
        let all = subst (AreDistinct t) apart d in
        subst (State b ys (parts_put t cs (part_put t c l))) (append_assoc xs (members_in b c) (flat_map (members_in b) cs))
        (parts_rows cs ys (part_put t c l) (xs ++ members_in b c) (distinct_after t (names_in c) (flat_map names_in cs ++ ys) all) (part_rows c (flat_map names_in cs ++ ys) l xs all (subst (λ zs. State b zs l xs) apart st)))

    decl_rows : (d : DeclTree) (ys : List (List ℕ)) (l : Laid) (xs : List (List ℕ)) → AreDistinct t (flat_map names_in (commons_in d) ++ ys) → State b (flat_map names_in (commons_in d) ++ ys) l xs → State b ys (decl_put t d l) (xs ++ flat_map (members_in b) (commons_in d))
    decl_rows (decl.common cs) ys l xs d st = parts_rows cs ys l xs d st
    decl_rows (decl.implicit ps) ys l xs d st = subst (State b ys l) (sym (append-nil xs)) st
    decl_rows (decl.integer es) ys l xs d st = subst (State b ys l) (sym (append-nil xs)) st
    decl_rows (decl.logical es) ys l xs d st = subst (State b ys l) (sym (append-nil xs)) st
    decl_rows (decl.dimension es) ys l xs d st = subst (State b ys l) (sym (append-nil xs)) st
    decl_rows (decl.parameter ss) ys l xs d st = subst (State b ys l) (sym (append-nil xs)) st
    decl_rows (decl.equivalence gs) ys l xs d st = subst (State b ys l) (sym (append-nil xs)) st
    decl_rows (decl.save is) ys l xs d st = subst (State b ys l) (sym (append-nil xs)) st
    decl_rows (decl.initial gs) ys l xs d st = subst (State b ys l) (sym (append-nil xs)) st

    decls_rows : (ds : List DeclTree) (l : Laid) (xs : List (List ℕ)) → AreDistinct t (common_names ds) → State b (common_names ds) l xs → State b [] (decls_put t ds l) (xs ++ members b ds)
    decls_rows [] l xs d st = subst (State b [] l) (sym (append-nil xs)) st
    decls_rows (x ∷ ds) l xs d st =
        let apart = flat_map-append names_in (commons_in x) (commons ds) in
        let all = subst (AreDistinct t) apart d in
        let first = decl_rows x (common_names ds) l xs all (subst (λ zs. State b zs l xs) apart st) in
        let rest = decls_rows ds (decl_put t x l) (xs ++ flat_map (members_in b) (commons_in x)) (distinct_after t (flat_map names_in (commons_in x)) (common_names ds) all) first in
        subst (State b [] (decls_put t ds (decl_put t x l))) (append_assoc xs (flat_map (members_in b) (commons_in x)) (members b ds) ∙ ap (λ z. xs ++ z) (sym (flat_map-append (members_in b) (commons_in x) (commons ds)))) rest

    -- ---- all of them

    none_put : (ys : List (List ℕ)) → Free ys (alone t)
    unfolding place_in
    none_put ys x k i p =
        let zero_less : k - 0 ≡ k = omega arith in
        ap (λ i. sits_in_block (slice_get (alone_from 0 (length t.entries)) i)) (sym zero_less) ∙ none_sits 0 0 k t.entries x p

    laid_rows : (ds : List DeclTree) → AreDistinct t (common_names ds) → HasRow t b (laid t ds) (members b ds)
    unfolding laid
    laid_rows ds d = (let st = decls_rows ds (alone t) [] d (record { even = refl; free = none_put (common_names ds); row = no_block refl refl }) in st.row)

pub members_lie_in_a_row : MembersLieInARow
members_lie_in_a_row t ds d b = laid_rows t b ds d
