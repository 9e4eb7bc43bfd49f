-- COMMON as it is laid out: what lies in one block is in COMMON with it.
use Rattle.std.proofs.Common.{◌≡◌, ℕ, zero, suc, ◌+◌, Bool, true, false, pos, List, [], ◌∷◌, ◌++◌, length, map, Option, Some, None, ◌⊎◌, inl, inr, refl, sym, ap, ◌∙◌, subst, arith}
use Rattle.std.specs.Prelude.{slice_get, slice_set, if◌then◌else◌, bytes_eq, flat_map}
use Rattle.std.proofs.lemmas.Slice.Eq.{bytes_eq-Decides}
use Rattle.f77_ast.specs.DeclTrees.{EntityTree, CommonTree, DeclTree}
use Rattle.f77_ast.specs.DeclTrees as decl
use Rattle.f77_ast.specs.Symbols.{number_from}
use Rattle.f77_ast.proofs.NumbersLaws.{number_from-append}
use Rattle.f77_names.specs.Tables.{NameTable}
use Rattle.storage_data.specs.declared.offset_node.Home.{Home}
use Rattle.storage_data.specs.declared.offset_node.Home.TheVariants.{Block, Own}
use Rattle.storage_data.specs.declared.offset_node.OffsetNode.{OffsetNode}
use Rattle.storage_data.specs.OffsetNodes.{alone_from}
use Rattle.storage_data.specs.Units.{place_of, units_of}
use Rattle.storage_layout.specs.declared.blocks.Laid.{Laid}
use Rattle.storage_layout.specs.Blocks.{block_number, with_block, sits_in_block, put_at, put_there, member_put, members_put, part_put, parts_put, decl_put, decls_put}
use Rattle.storage_layout.specs.Symbols.{alone, laid}
use Rattle.storage_layout.specs.Statements.{commons_in, commons, members_in, members, Has}
use Rattle.laws_programs.specs.Layout.Layout.{in_block}
use Rattle.laws_programs.proofs.Layouts.ChainLaws.{has_left, has_right, name_at, name_placed, Linked, HomesLink}
use Rattle.f77_ast.proofs.NumberedNames.{one_number}

module _ (ds : List DeclTree) (t : NameTable) where
  -- a variable in a block is a member of it
  pub record InBlock (l : Laid) (m n : ℕ) : Type 0 where
    pub block : List ℕ
    pub is : block_number l.names block ≡ Some n
    pub has : Has (members block ds) (name_at ds t m)

  abbrev pub Home_of : Laid → ℕ → Home → Type 0
  Home_of l m (Own n) = n ≡ m
  Home_of l m (Block n) = InBlock l m n

  -- each variable is alone, or in a block of which it is a member
  abbrev pub Homes : Laid → Type 0
  Homes l = (m : ℕ) (s : OffsetNode) → slice_get l.offset_nodes m ≡ Some s → Home_of l m s.home

  -- ---- what is put

  abbrev Later : Laid → Laid → Type 0
  Later l k = (b : List ℕ) (n : ℕ) → block_number l.names b ≡ Some n → block_number k.names b ≡ Some n

  home_later : (l k : Laid) → Later l k → (m : ℕ) (h : Home) → Home_of l m h → Home_of k m h
  home_later l k f m (Own n) h = h
  home_later l k f m (Block n) h = record { block = h.block; is = f h.block n h.is; has = h.has }

  set_get : (ss : List OffsetNode) (i : ℕ) (v : OffsetNode) (m : ℕ) (s : OffsetNode) → slice_get (slice_set ss i v) m ≡ Some s → (slice_get ss m ≡ Some s) ⊎ ((m ≡ i) × (v ≡ s))
  set_get [] i v zero s e = cc
  set_get [] i v (suc m) s e = cc
  set_get (y ∷ ss) zero v zero s e = let same : v ≡ s = cc in inr (refl, same)
  set_get (y ∷ ss) zero v (suc m) s e = inl e
  set_get (y ∷ ss) (suc i) v zero s e = inl e
  set_get (y ∷ ss) (suc i) v (suc m) s e = elim (set_get ss i v m s e) [ inl a ↦ inl a | inr b ↦ inr (ap suc b.0, b.1) ]

  put_homes : (l : Laid) (units k n size : ℕ) → InBlock l k n → Homes l → Homes (put_at units k n (Some size) l)
  put_homes l units k n size new h m s e = go (set_get l.offset_nodes k (record { home = Block n; offset = pos size }) m s e)
    where
      go : (slice_get l.offset_nodes m ≡ Some s) ⊎ ((m ≡ k) × (record { home = Block n; offset = pos size } ≡ s)) → Home_of (put_at units k n (Some size) l) m s.home
      go (inl q) = home_later l (put_at units k n (Some size) l) (λ b j z. z) m s.home (h m s q)
      go (inr q) = subst (λ (z : OffsetNode). Home_of (put_at units k n (Some size) l) m z.home) q.1 (subst (λ i. Home_of (put_at units k n (Some size) l) i (Block n)) (sym q.0) (record { block = new.block; is = new.is; has = new.has }))

  there_homes : (l : Laid) (units k : ℕ) (block : List ℕ) → Has (members block ds) (name_at ds t k) → (o : Option ℕ) → block_number l.names block ≡ o → Homes l → Homes (put_there units k o l)
  there_homes l units k block has None q h = h
  there_homes l units k block has (Some n) q h = go (slice_get l.sizes n)
    where
      go : (o : Option ℕ) → Homes (put_at units k n o l)
      go None = h
      go (Some size) = put_homes l units k n size (record { block = block; is = q; has = has }) h

  member_homes : (block : List ℕ) (e : EntityTree) (l : Laid) → Has (members block ds) e.name → Homes l → Homes (member_put t block e (place_of t e.name) l)
  member_homes block e l has h = go (place_of t e.name) refl
    where
      seated : (k : ℕ) → place_of t e.name ≡ Some k → (b : Bool) → Homes (if b then l else put_there (units_of t e.name) k (block_number l.names block) l)
      seated k p true = h
      seated k p false = there_homes l (units_of t e.name) k block (subst (Has (members block ds)) (sym (name_placed ds t e.name k p)) has) (block_number l.names block) refl h

      go : (o : Option ℕ) → place_of t e.name ≡ o → Homes (member_put t block e o l)
      go None p = h
      go (Some k) p = seated k p (sits_in_block (slice_get l.offset_nodes k))

  members_homes : (block : List ℕ) (es : List EntityTree) (l : Laid) → ((x : List ℕ) → Has (map (λ e. e.name) es) x → Has (members block ds) x) → Homes l → Homes (members_put t block es l)
  members_homes block [] l sub h = h
  members_homes block (e ∷ es) l sub h = members_homes block es (member_put t block e (place_of t e.name) l) (λ x k. sub x (suc k.0, k.1)) (member_homes block e l (sub e.name (zero, refl)) h)

  begun_homes : (block : List ℕ) (l : Laid) → Homes l → Homes (with_block block (block_number l.names block) l)
  begun_homes block l h = go (block_number l.names block) refl
    where
      later : block_number l.names block ≡ None → Later l (with_block block None l)
      later none b n q = number_from-append 0 l.names block b none ∙ inner (bytes_eq block b) refl
        where
          inner : (c : Bool) → bytes_eq block b ≡ c → (if c then Some (0 + length l.names) else number_from 0 l.names b) ≡ Some n
          inner true e = let same = (bytes_eq-Decides block b).0 e in let z : None ≡ Some n = sym none ∙ ap (block_number l.names) same ∙ q in cc
          inner false e = q

      go : (o : Option ℕ) → block_number l.names block ≡ o → Homes (with_block block o l)
      go None none m s e = home_later l (with_block block None l) (later none) m s.home (h m s e)
      go (Some n) is m s e = h m s e

  -- ---- statements

  own_members : (c : CommonTree) (x : List ℕ) → Has (map (λ e. e.name) c.members) x → Has (members_in c.block c) x
  own_members c x h = subst (λ b. Has (if b then map (λ e. e.name) c.members else []) x) (sym ((bytes_eq-Decides c.block c.block).1 refl)) h

  parts_homes : (cs : List CommonTree) (l : Laid) → ((b x : List ℕ) → Has (flat_map (members_in b) cs) x → Has (members b ds) x) → Homes l → Homes (parts_put t cs l)
  parts_homes [] l sub h = h
  parts_homes (c ∷ cs) l sub h =
      parts_homes cs (part_put t c l) (λ b x k. sub b x (has_right (members_in b c) (flat_map (members_in b) cs) x k))
      (members_homes c.block c.members (with_block c.block (block_number l.names c.block) l) (λ x k. sub c.block x (has_left (members_in c.block c) (flat_map (members_in c.block) cs) x (own_members c x k))) (begun_homes c.block l h))

  -- the members of the first of two lists, and of the second
  left_members : (b : List ℕ) (cs es : List CommonTree) (x : List ℕ) → Has (flat_map (members_in b) cs) x → Has (flat_map (members_in b) (cs ++ es)) x
  left_members b [] es x (zero, e) = cc
  left_members b [] es x (suc i, e) = cc
  left_members b (c ∷ cs) es x h = go (members_in b c) h (left_members b cs es x)
    where
      go : (xs : List (List ℕ)) → Has (xs ++ flat_map (members_in b) cs) x → (Has (flat_map (members_in b) cs) x → Has (flat_map (members_in b) (cs ++ es)) x) → Has (xs ++ flat_map (members_in b) (cs ++ es)) x
      go [] h ih = ih h
      go (y ∷ xs) (zero, e) ih = (zero, e)
      go (y ∷ xs) (suc i, e) ih = let r = go xs (i, e) ih in (suc r.0, r.1)

  right_members : (b : List ℕ) (cs es : List CommonTree) (x : List ℕ) → Has (flat_map (members_in b) es) x → Has (flat_map (members_in b) (cs ++ es)) x
  right_members b [] es x h = h
  right_members b (c ∷ cs) es x h = has_right (members_in b c) (flat_map (members_in b) (cs ++ es)) x (right_members b cs es x h)

  decl_homes : (d : DeclTree) (l : Laid) → ((b x : List ℕ) → Has (flat_map (members_in b) (commons_in d)) x → Has (members b ds) x) → Homes l → Homes (decl_put t d l)
  decl_homes (decl.common cs) l sub h = parts_homes cs l sub h
  decl_homes (decl.implicit ps) l sub h = h
  decl_homes (decl.integer es) l sub h = h
  decl_homes (decl.logical es) l sub h = h
  decl_homes (decl.dimension es) l sub h = h
  decl_homes (decl.parameter ss) l sub h = h
  decl_homes (decl.equivalence gs) l sub h = h
  decl_homes (decl.save is) l sub h = h
  decl_homes (decl.initial gs) l sub h = h

  decls_homes : (es : List DeclTree) (l : Laid) → ((b x : List ℕ) → Has (members b es) x → Has (members b ds) x) → Homes l → Homes (decls_put t es l)
  decls_homes [] l sub h = h
  decls_homes (d ∷ es) l sub h =
      decls_homes es (decl_put t d l) (λ b x k. sub b x (right_members b (commons_in d) (commons es) x k))
      (decl_homes d l (λ b x k. sub b x (left_members b (commons_in d) (commons es) x k)) h)

  alone_homes : (n k m : ℕ) (s : OffsetNode) → slice_get (alone_from n k) m ≡ Some s → s.home ≡ Own (n + m)
  alone_homes n zero zero s e = cc
  alone_homes n zero (suc m) s e = cc
  alone_homes n (suc k) zero s e = let same : record { home = Own n; offset = pos 0 } ≡ s = cc in let z : n ≡ n + 0 = omega arith in ap (λ (q : OffsetNode). q.home) (sym same) ∙ ap Own z
  alone_homes n (suc k) (suc m) s e = let z : (n + 1) + m ≡ n + suc m = omega arith in alone_homes (n + 1) k m s e ∙ ap Own z

  pub laid_homes : Homes (laid t ds)
  unfolding laid
  laid_homes = decls_homes ds (alone t) (λ b x k. k) begin
    where
      begin : Homes (alone t)
      begin m s e = let own = alone_homes 0 (length t.entries) m s e in let z : 0 + m ≡ m = omega arith in subst (Home_of (alone t) m) (sym own) z

  -- two variables in one block
  pub laid_link : HomesLink ds t (laid t ds).offset_nodes
  laid_link m n s r e f same = go s.home r.home refl refl same (laid_homes m s e) (laid_homes n r f)
    where
      blocks : (i j : ℕ) → i ≡ j → InBlock (laid t ds) m i → InBlock (laid t ds) n j → Linked ds t m n
      blocks i j q a b =
          let one = one_number 0 i (laid t ds).names a.block b.block a.is (b.is ∙ ap Some (sym q)) in
          inr ([], in_block a.block a.has (subst (λ z. Has (members z ds) (name_at ds t n)) (sym one) b.has))

      go : (x y : Home) → s.home ≡ x → r.home ≡ y → s.home ≡ r.home → Home_of (laid t ds) m s.home → Home_of (laid t ds) n r.home → Linked ds t m n
      go (Own i) (Own j) p q w a b =
          let both : Own i ≡ Own j = sym p ∙ w ∙ q in
          let one : i ≡ j = cc in
          inl (sym (subst (Home_of (laid t ds) m) p a) ∙ one ∙ subst (Home_of (laid t ds) n) q b)
      go (Own i) (Block j) p q w a b = let both : Own i ≡ Block j = sym p ∙ w ∙ q in cc
      go (Block i) (Own j) p q w a b = let both : Block i ≡ Own j = sym p ∙ w ∙ q in cc
      go (Block i) (Block j) p q w a b =
          let both : Block i ≡ Block j = sym p ∙ w ∙ q in
          let one : i ≡ j = cc in
          blocks i j one (subst (Home_of (laid t ds) m) p a) (subst (Home_of (laid t ds) n) q b)
