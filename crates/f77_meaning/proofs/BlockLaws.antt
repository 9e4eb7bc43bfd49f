-- The blocks of a graph are those in which variables lie.
use Rattle.std.proofs.Common.{◌≡◌, ℕ, zero, suc, ◌-◌, ◌<◌, Bool, true, false, List, [], ◌∷◌, map, Some, refl, sym, ap, ◌∙◌, subst, arith}
use Rattle.std.specs.Prelude.{if◌then◌else◌, bytes_eq, ◌||◌, slice_get}
use Rattle.std.specs.List.{list_any}
use Rattle.std.specs.declared.cmp.Ordering.{Ordering}
use Rattle.std.specs.declared.cmp.Ordering.TheVariants.{Less, Equal, Greater}
use Rattle.std.specs.Ordering.{match_ordering, is_eq}
use Rattle.std.proofs.lemmas.Map.Text.{is_eq-slice_cmp}
use Rattle.std.proofs.lemmas.Slice.Eq.{bytes_eq-Decides}
use Rattle.std.proofs.lemmas.Bool.{or_left, or_right}
use Rattle.f77_ast.specs.declared.symbol.Place.{Place}
use Rattle.f77_ast.specs.declared.symbol.Place.TheVariants as place
use Rattle.f77_ast.specs.Symbols.{SymbolTree, number_from}
use Rattle.f77_ast.specs.Units.{units_in}
use Rattle.call_graph.specs.declared.graph.Block.{Block}
use Rattle.call_graph.specs.Blocks.{name_cmp, block, block_put, place_grown, symbols_grown, tables_grown}
use Rattle.f77_meaning.specs.Areas.{Area, or_zero}
use Rattle.f77_meaning.specs.Areas as area
use Rattle.f77_meaning.specs.Modules.{Known}
use Rattle.f77_meaning.specs.Linked.{numbering}
use Rattle.f77_meaning.specs.Laws.{IsKnown, area_of, AreasAreKnown}
use Rattle.f77_meaning.proofs.LinkLaws.{modules_are_known}
use Rattle.fx_lists.proofs.Texts.{same_name as same_bytes}
use Rattle.f77_ast.proofs.StorageLaws.{from_number as numbered_place}

abbrev has : List ℕ → List Block → Bool
has x bs = list_any (λ b. bytes_eq x b.name) bs

put_has : (x : List ℕ) (n : ℕ) (bs : List Block) → has x (block_put x n bs) ≡ true
put_has x n [] = or_left (bytes_eq x x) false (same_bytes x)
put_has x n (b ∷ bs) = go (name_cmp x b.name) refl (put_has x n bs)
  where
    go : (o : Ordering) → name_cmp x b.name ≡ o → has x (block_put x n bs) ≡ true → has x (match_ordering o (block x n ∷ b ∷ bs) (block b.name n ∷ bs) (b ∷ block_put x n bs)) ≡ true
    go Less e ih = or_left (bytes_eq x x) (has x (b ∷ bs)) (same_bytes x)
    go Equal e ih = or_left (bytes_eq x b.name) (has x bs) (sym (is_eq-slice_cmp x b.name) ∙ ap is_eq e)
    go Greater e ih = or_right (bytes_eq x b.name) (has x (block_put x n bs)) ih

put_keeps : (y x : List ℕ) (n : ℕ) (bs : List Block) → has y bs ≡ true → has y (block_put x n bs) ≡ true
put_keeps y x n [] h = cc
put_keeps y x n (b ∷ bs) h = go (name_cmp x b.name) (bytes_eq y b.name) refl h (put_keeps y x n bs)
  where
    go : (o : Ordering) (c : Bool) → bytes_eq y b.name ≡ c → (c || has y bs) ≡ true → (has y bs ≡ true → has y (block_put x n bs) ≡ true) → has y (match_ordering o (block x n ∷ b ∷ bs) (block b.name n ∷ bs) (b ∷ block_put x n bs)) ≡ true
    go Less c e i ih = or_right (bytes_eq y x) (has y (b ∷ bs)) (ap (λ d. d || has y bs) e ∙ i)
    go Equal c e i ih = ap (λ d. d || has y bs) e ∙ i
    go Greater true e i ih = or_left (bytes_eq y b.name) (has y (block_put x n bs)) e
    go Greater false e i ih = or_right (bytes_eq y b.name) (has y (block_put x n bs)) (ih i)

place_keeps : (y : List ℕ) (p : Place) (n : ℕ) (bs : List Block) → has y bs ≡ true → has y (place_grown p n bs) ≡ true
place_keeps y (place.Local g o) n bs h = h
place_keeps y (place.Dummy m) n bs h = h
place_keeps y (place.Block x o) n bs h = put_keeps y x _ bs h
place_keeps y (place.Constant m) n bs h = h

symbols_keep : (y : List ℕ) (ss rest : List SymbolTree) (bs : List Block) → has y bs ≡ true → has y (symbols_grown ss rest bs) ≡ true
symbols_keep y ss [] bs h = h
symbols_keep y ss (s ∷ rest) bs h = symbols_keep y ss rest (place_grown s.place (units_in ss s) bs) (place_keeps y s.place (units_in ss s) bs h)

symbols_have : (ss rest : List SymbolTree) (bs : List Block) (i : ℕ) (s : SymbolTree) (x : List ℕ) (o : ℕ) → slice_get rest i ≡ Some s → s.place ≡ place.Block x o → has x (symbols_grown ss rest bs) ≡ true
symbols_have ss [] bs i s x o e p = cc
symbols_have ss (t ∷ rest) bs zero s x o e p =
    let same : t ≡ s = cc in
    let at : t.place ≡ place.Block x o = ap (λ z. z.place) same ∙ p in
    symbols_keep x ss rest (place_grown t.place (units_in ss t) bs) (subst (λ q. has x (place_grown q (units_in ss t) bs) ≡ true) (sym at) (put_has x _ bs))
symbols_have ss (t ∷ rest) bs (suc i) s x o e p = symbols_have ss rest (place_grown t.place (units_in ss t) bs) i s x o e p

tables_keep : (y : List ℕ) (sss : List (List SymbolTree)) (bs : List Block) → has y bs ≡ true → has y (tables_grown sss bs) ≡ true
tables_keep y [] bs h = h
tables_keep y (ss ∷ sss) bs h = tables_keep y sss (symbols_grown ss ss bs) (symbols_keep y ss ss bs h)

tables_have : (ks : List Known) (bs : List Block) (j i : ℕ) (k : Known) (s : SymbolTree) (x : List ℕ) (o : ℕ) → slice_get ks j ≡ Some k → slice_get k.symbols i ≡ Some s → s.place ≡ place.Block x o → has x (tables_grown (map (λ l. l.symbols) ks) bs) ≡ true
tables_have [] bs j i k s x o f e p = cc
tables_have (l ∷ ks) bs zero i k s x o f e p =
    let same : k ≡ l = cc in
    tables_keep x (map (λ z. z.symbols) ks) (symbols_grown l.symbols l.symbols bs) (symbols_have l.symbols l.symbols bs i s x o (subst (λ z. slice_get z.symbols i ≡ Some s) same e) p)
tables_have (l ∷ ks) bs (suc j) i k s x o f e p = tables_have ks (symbols_grown l.symbols l.symbols bs) j i k s x o f e p

numbered_from : (n : ℕ) (x : List ℕ) (bs : List Block) → has x bs ≡ true → n < or_zero (number_from (suc n) (map (λ b. b.name) bs) x)
numbered_from n x [] h = cc
numbered_from n x (b ∷ bs) h = go (bytes_eq x b.name) h (numbered_from (suc n) x bs)
  where
    go : (c : Bool) → (c || has x bs) ≡ true → (has x bs ≡ true → suc n < or_zero (number_from (suc (suc n)) (map (λ d. d.name) bs) x)) → n < or_zero (if c then Some (suc n) else number_from (suc (suc n)) (map (λ d. d.name) bs) x)
    go true i ih = omega arith
    go false i ih = let h' = ih i in omega (arith, h')

pub areas_are_known : AreasAreKnown
areas_are_known ks g k n s a blocks d e = go s.place refl e
  where
    go : (p : Place) → s.place ≡ p → area_of k.read.name p ≡ Some a → IsKnown (numbering ks g) a
    go (place.Local i o) q h = let same : area.group k.read.name i ≡ a = cc in subst (IsKnown (numbering ks g)) same (modules_are_known ks g d.at i k d.is_module)
    go (place.Dummy i) q h = cc
    go (place.Block x o) q h =
        let same : area.block x ≡ a = cc in
        let is : has x g.blocks ≡ true = ap (has x) blocks ∙ tables_have ks [] d.at (n - 1) k s x o d.is_module (numbered_place k.symbols n s d.is_symbol) q in
        subst (IsKnown (numbering ks g)) same (numbered_from 0 x g.blocks is)
    go (place.Constant v) q h = cc
