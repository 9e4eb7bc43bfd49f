-- The offset nodes behind COMMON keep the distances of each layout that the statements admit.
use Rattle.std.proofs.Common.{◌≡◌, ℕ, zero, suc, ◌+◌, ℤ, pos, ◌+ℤ◌, List, [], ◌∷◌, length, Option, Some, None, refl, sym, ap, ◌∙◌, subst, arith}
use Rattle.std.specs.Prelude.{slice_get, slice_set, neg_ℤ, unwrap_or}
use Rattle.std.proofs.lemmas.Int.{ints}
use Rattle.f77_ast.specs.DeclTrees.{DeclTree}
use Rattle.f77_names.specs.Entries.{EntryTree, entry_names, place_in}
use Rattle.f77_names.specs.Tables.{NameTable}
use Rattle.storage_data.specs.declared.offset_node.Home.{Home}
use Rattle.storage_data.specs.declared.offset_node.Home.TheVariants.{Block, Own}
use Rattle.storage_data.specs.declared.offset_node.OffsetNode.{OffsetNode}
use Rattle.storage_data.specs.OffsetNodes.{alone_from}
use Rattle.storage_data.specs.Units.{place_of, units_of}
use Rattle.storage_layout.specs.Statements.{Has, members, common_names}
use Rattle.storage_layout.specs.Blocks.{block_number}
use Rattle.storage_layout.specs.Symbols.{alone, laid}
use Rattle.storage_layout.specs.Laws.{AreDistinct, InARow, HasRow, no_block, a_row}
use Rattle.storage_layout.proofs.RowLaws.{members_lie_in_a_row}
use Rattle.storage_layout.proofs.IsAssociatedLaws.{decls_keep}
use Rattle.laws_programs.specs.Layout.Fits.{block, Spot, behind, RunsFrom, Satisfies}
use Rattle.laws_programs.proofs.Layouts.ChainLaws.{name_at, name_placed}
use Rattle.laws_programs.proofs.Layouts.HomeLaws.{InBlock, Home_of, laid_homes}
use Rattle.laws_programs.proofs.Layouts.CommonLaws.{block_named}
use Rattle.laws_programs.proofs.Layouts.DifferLaws.{NamesDiffer}
use Rattle.laws_programs.proofs.Layouts.FitLaws.{Fits, spot_is}

-- ---- each offset node has a name

abbrev OffsetNodesNamed : NameTable → List OffsetNode → Type 0
OffsetNodesNamed t ss = (k : ℕ) (s : OffsetNode) → slice_get ss k ≡ Some s → (x : List ℕ) × (place_of t x ≡ Some k)

set_had : (ss : List OffsetNode) (i : ℕ) (v : OffsetNode) (k : ℕ) (s : OffsetNode) → slice_get (slice_set ss i v) k ≡ Some s → (r : OffsetNode) × (slice_get ss k ≡ Some r)
set_had [] i v zero s e = cc
set_had [] i v (suc k) s e = cc
set_had (x ∷ ss) zero v zero s e = (x, refl)
set_had (x ∷ ss) zero v (suc k) s e = (s, e)
set_had (x ∷ ss) (suc i) v zero s e = (x, refl)
set_had (x ∷ ss) (suc i) v (suc k) s e = set_had ss i v k s e

alone_named : (m k : ℕ) (es : List EntryTree) (s : OffsetNode) → slice_get (alone_from m (length es)) k ≡ Some s → (x : List ℕ) × (slice_get (entry_names es) k ≡ Some x)
alone_named m zero [] s e = cc
alone_named m (suc k) [] s e = cc
alone_named m zero (d ∷ es) s e = (d.name, refl)
alone_named m (suc k) (d ∷ es) s e = alone_named (m + 1) k es s e

laid_named : (t : NameTable) (ds : List DeclTree) → NamesDiffer t.entries → OffsetNodesNamed t (laid t ds).offset_nodes
unfolding laid place_in
laid_named t ds differ =
    decls_keep (OffsetNodesNamed t) (λ ss i v h k s e. (let r = set_had ss i v k s e in h k r.0 r.1)) t ds (alone t)
    (λ k s e. (let x = alone_named 0 k t.entries s e in (x.0, differ k x.0 x.1)))

-- ---- the bases of groups

abbrev offset_at : Option OffsetNode → ℤ
offset_at None = pos 0
offset_at (Some s) = s.offset

module _ (t : NameTable) (ds : List DeclTree) (f : List ℕ → Spot) where
  abbrev pub base_of : Home → Spot
  base_of (Block n) = record { area = block (unwrap_or (slice_get (laid t ds).names n) []); offset = pos 0 }
  base_of (Own n) = behind (f (name_at ds t n)) (neg_ℤ (offset_at (slice_get (laid t ds).offset_nodes n)))

  pub blocks_begin : (b : List ℕ) (n : ℕ) → block_number (laid t ds).names b ≡ Some n → base_of (Block n) ≡ record { area = block b; offset = pos 0 }
  blocks_begin b n is = ap (λ o. record { area = block (unwrap_or o []); offset = pos 0 }) (block_named (laid t ds).names b n is)

  row_spot : (ss : List OffsetNode) (b : List ℕ) (n from : ℕ) (xs : List (List ℕ)) (to : ℕ) → InARow t ss n from xs to → RunsFrom t f b from xs → (i : ℕ) (x : List ℕ) (k : ℕ) (s : OffsetNode) → slice_get xs i ≡ Some x → place_of t x ≡ Some k → slice_get ss k ≡ Some s → f x ≡ record { area = block b; offset = s.offset }
  row_spot ss b n from [] to row run zero x k s i p e = cc
  row_spot ss b n from [] to row run (suc j) x k s i p e = cc
  row_spot ss b n from (y ∷ ys) to row run zero x k s i p e =
      let same : y ≡ x = cc in
      let place : Some row.0 ≡ Some k = sym row.1 ∙ ap (place_of t) same ∙ p in
      let number : row.0 ≡ k = cc in
      let offset_node : Some (record { home = Block n; offset = pos from }) ≡ Some s = sym row.2 ∙ ap (slice_get ss) number ∙ e in
      let one : record { home = Block n; offset = pos from } ≡ s = cc in
      ap f (sym same) ∙ run.0 ∙ ap (λ (z : OffsetNode). record { area = block b; offset = z.offset }) one
  row_spot ss b n from (y ∷ ys) to row run (suc j) x k s i p e = row_spot ss b n (from + units_of t y) ys to row.3 run.1 j x k s i p e

  module _ (distinct : AreDistinct t (common_names ds)) (differ : NamesDiffer t.entries) (fits : Satisfies t ds f) where
    own_based : (x : List ℕ) (k n : ℕ) (s : OffsetNode) → place_of t x ≡ Some k → slice_get (laid t ds).offset_nodes k ≡ Some s → n ≡ k → f x ≡ behind (base_of (Own n)) s.offset
    own_based x k n s p e own =
        let name : name_at ds t n ≡ x = ap (name_at ds t) own ∙ name_placed ds t x k p in
        let offset : offset_at (slice_get (laid t ds).offset_nodes n) ≡ s.offset = ap (λ i. offset_at (slice_get (laid t ds).offset_nodes i)) own ∙ ap offset_at e in
        let base : base_of (Own n) ≡ behind (f x) (neg_ℤ s.offset) = ap (λ z. behind (f z) (neg_ℤ (offset_at (slice_get (laid t ds).offset_nodes n)))) name ∙ ap (λ o. behind (f x) (neg_ℤ o)) offset in
        let back : (f x).offset ≡ ((f x).offset +ℤ neg_ℤ s.offset) +ℤ s.offset = omega (arith, ints) in
        spot_is (f x) (behind (behind (f x) (neg_ℤ s.offset)) s.offset) refl back ∙ ap (λ z. behind z s.offset) (sym base)

    block_based : (x : List ℕ) (k n : ℕ) (s : OffsetNode) → place_of t x ≡ Some k → slice_get (laid t ds).offset_nodes k ≡ Some s → InBlock ds t (laid t ds) k n → f x ≡ behind (base_of (Block n)) s.offset
    block_based x k n s p e b = go (members_lie_in_a_row t ds distinct b.block)
      where
        has : Has (members b.block ds) x
        has = subst (Has (members b.block ds)) (name_placed ds t x k p) b.has

        go : HasRow t b.block (laid t ds) (members b.block ds) → f x ≡ behind (base_of (Block n)) s.offset
        go (no_block none q) = let z : Some n ≡ None = sym b.is ∙ none in cc
        go (a_row m size is h row) =
            let at = row_spot (laid t ds).offset_nodes b.block m 0 (members b.block ds) size row (fits.common b.block) has.0 x k s has.1 p e in
            let zero_more : s.offset ≡ pos 0 +ℤ s.offset = omega (arith, ints) in
            at ∙ ap (λ o. record { area = block b.block; offset = o }) zero_more ∙ ap (λ z. behind z s.offset) (sym (blocks_begin b.block n b.is))

    pub laid_fits : Fits t f (laid t ds).names base_of blocks_begin (laid t ds).offset_nodes
    laid_fits = record {
      based = λ x k s p e. based x k s p e s.home refl (laid_homes ds t k s e);
      housed = λ k s n e q. (let b = subst (Home_of ds t (laid t ds) k) q (laid_homes ds t k s e) in (b.block, b.is));
      named = laid_named t ds differ;
    }
      where
        based : (x : List ℕ) (k : ℕ) (s : OffsetNode) → place_of t x ≡ Some k → slice_get (laid t ds).offset_nodes k ≡ Some s → (h : Home) → s.home ≡ h → Home_of ds t (laid t ds) k h → f x ≡ behind (base_of s.home) s.offset
        based x k s p e (Own n) q own = own_based x k n s p e own ∙ ap (λ z. behind (base_of z) s.offset) (sym q)
        based x k s p e (Block n) q b = block_based x k n s p e b ∙ ap (λ z. behind (base_of z) s.offset) (sym q)
