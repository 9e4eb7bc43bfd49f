-- The variables of a block end within the size that linking gives it.
use Rattle.std.proofs.Common.{◌≡◌, ℕ, zero, suc, ◌+◌, ◌-◌, ◌≤◌, max, Bool, true, false, List, [], ◌∷◌, map, Some, refl, sym, ap, ◌∙◌, subst, arith}
use Rattle.std.specs.Prelude.{if◌then◌else◌, bytes_eq, slice_get}
use Rattle.std.specs.declared.cmp.Ordering.{Ordering}
use Rattle.std.specs.declared.cmp.Ordering.TheVariants.{Less, Equal, Greater}
use Rattle.std.specs.Ordering.{match_ordering, is_eq}
use Rattle.std.proofs.lemmas.Map.Text.{is_eq-slice_cmp}
use Rattle.std.proofs.lemmas.Slice.Eq.{bytes_eq-Decides}
use Rattle.f77_ast.specs.declared.symbol.Place.{Place}
use Rattle.f77_ast.specs.declared.symbol.Place.TheVariants as place
use Rattle.f77_ast.specs.Symbols.{SymbolTree}
use Rattle.f77_ast.specs.Units.{units_in}
use Rattle.call_graph.specs.declared.graph.Graph.{Graph}
use Rattle.call_graph.specs.declared.graph.Block.{Block}
use Rattle.call_graph.specs.Blocks.{name_cmp, block, known_size, block_put, block_grown, place_grown, symbols_grown, tables_grown}
use Rattle.f77_meaning.specs.Modules.{Known}
use Rattle.f77_meaning.specs.Claims.{size_in}
use Rattle.f77_meaning.specs.Laws.{HasBlocks}
use Rattle.laws_programs.proofs.Effects.Callers.{BlocksReach}
use Rattle.f77_ast.proofs.StorageLaws.{from_number as numbered_place}

-- ---- one block

pub same_name : (x y : List ℕ) (o : Ordering) → name_cmp x y ≡ o → bytes_eq x y ≡ is_eq o
same_name x y o e = sym (is_eq-slice_cmp x y) ∙ ap is_eq e

pub symmetric : (x y : List ℕ) (b : Bool) → bytes_eq x y ≡ b → bytes_eq y x ≡ b
symmetric x y true e = (bytes_eq-Decides y x).1 (sym ((bytes_eq-Decides x y).0 e))
symmetric x y false e = go (bytes_eq y x) refl
  where
    go : (c : Bool) → bytes_eq y x ≡ c → c ≡ false
    go true q = let t : bytes_eq x y ≡ true = (bytes_eq-Decides x y).1 (sym ((bytes_eq-Decides y x).0 q)) in let z : true ≡ false = sym t ∙ e in cc
    go false q = refl

-- the size found first
pub put_size : (x : List ℕ) (n : ℕ) (bs : List Block) → size_in (block_put x n bs) x ≡ n
put_size x n [] = ap (λ b. if b then n else 0) ((bytes_eq-Decides x x).1 refl)
put_size x n (b ∷ bs) = go (name_cmp x b.name) refl (put_size x n bs)
  where
    go : (o : Ordering) → name_cmp x b.name ≡ o → size_in (block_put x n bs) x ≡ n → size_in (match_ordering o (block x n ∷ b ∷ bs) (block b.name n ∷ bs) (b ∷ block_put x n bs)) x ≡ n
    go Less e ih = ap (λ c. if c then n else size_in (b ∷ bs) x) ((bytes_eq-Decides x x).1 refl)
    go Equal e ih = ap (λ c. if c then n else size_in bs x) (symmetric x b.name true (same_name x b.name Equal e))
    go Greater e ih = ap (λ c. if c then b.size else size_in (block_put x n bs) x) (symmetric x b.name false (same_name x b.name Greater e)) ∙ ih

pub put_other_size : (x y : List ℕ) (n : ℕ) (bs : List Block) → bytes_eq x y ≡ false → size_in (block_put x n bs) y ≡ size_in bs y
put_other_size x y n [] d = ap (λ b. if b then n else 0) d
put_other_size x y n (b ∷ bs) d = go (name_cmp x b.name) refl (put_other_size x y n bs d)
  where
    go : (o : Ordering) → name_cmp x b.name ≡ o → size_in (block_put x n bs) y ≡ size_in bs y → size_in (match_ordering o (block x n ∷ b ∷ bs) (block b.name n ∷ bs) (b ∷ block_put x n bs)) y ≡ size_in (b ∷ bs) y
    go Less e ih = ap (λ c. if c then n else size_in (b ∷ bs) y) d
    go Equal e ih =
        let same : x ≡ b.name = (bytes_eq-Decides x b.name).0 (same_name x b.name Equal e) in
        let other : bytes_eq b.name y ≡ false = subst (λ z. bytes_eq z y ≡ false) same d in
        ap (λ c. if c then n else size_in bs y) other ∙ sym (ap (λ c. if c then b.size else size_in bs y) other)
    go Greater e ih = ap (λ s. if bytes_eq b.name y then b.size else s) ih

pub known_is : (x : List ℕ) (bs : List Block) → known_size x bs ≡ size_in bs x
known_is x [] = refl
known_is x (b ∷ bs) = go (name_cmp x b.name) refl (known_is x bs)
  where
    go : (o : Ordering) → name_cmp x b.name ≡ o → known_size x bs ≡ size_in bs x → match_ordering o (known_size x bs) b.size (known_size x bs) ≡ size_in (b ∷ bs) x
    go Less e ih = ih ∙ sym (ap (λ c. if c then b.size else size_in bs x) (symmetric x b.name false (same_name x b.name Less e)))
    go Equal e ih = sym (ap (λ c. if c then b.size else size_in bs x) (symmetric x b.name true (same_name x b.name Equal e)))
    go Greater e ih = ih ∙ sym (ap (λ c. if c then b.size else size_in bs x) (symmetric x b.name false (same_name x b.name Greater e)))

pub grown_itself : (x : List ℕ) (n : ℕ) (bs : List Block) → n ≤ size_in (block_grown x n bs) x
grown_itself x n bs = let e = put_size x (max (known_size x bs) n) bs in omega (arith, e)

pub grown_more : (x y : List ℕ) (n : ℕ) (bs : List Block) → size_in bs y ≤ size_in (block_grown x n bs) y
grown_more x y n bs = go (bytes_eq x y) refl
  where
    go : (b : Bool) → bytes_eq x y ≡ b → size_in bs y ≤ size_in (block_grown x n bs) y
    go true q =
        let same : x ≡ y = (bytes_eq-Decides x y).0 q in
        let e = put_size x (max (known_size x bs) n) bs in
        let k = known_is x bs in
        subst (λ z. size_in bs z ≤ size_in (block_grown x n bs) z) same (omega (arith, e, k))
    go false q = let e = put_other_size x y (max (known_size x bs) n) bs q in omega (arith, e)

-- ---- all symbols

pub place_more : (y : List ℕ) (p : Place) (n : ℕ) (bs : List Block) → size_in bs y ≤ size_in (place_grown p n bs) y
place_more y (place.Local g o) n bs = omega arith
place_more y (place.Dummy m) n bs = omega arith
place_more y (place.Block x o) n bs = grown_more x y (o + n) bs
place_more y (place.Constant m) n bs = omega arith

pub symbols_more : (y : List ℕ) (ss rest : List SymbolTree) (bs : List Block) → size_in bs y ≤ size_in (symbols_grown ss rest bs) y
symbols_more y ss [] bs = omega arith
symbols_more y ss (s ∷ rest) bs =
    let a = place_more y s.place (units_in ss s) bs in
    let b = symbols_more y ss rest (place_grown s.place (units_in ss s) bs) in
    omega (arith, a, b)

pub tables_more : (y : List ℕ) (sss : List (List SymbolTree)) (bs : List Block) → size_in bs y ≤ size_in (tables_grown sss bs) y
tables_more y [] bs = omega arith
tables_more y (ss ∷ sss) bs =
    let a = symbols_more y ss ss bs in
    let b = tables_more y sss (symbols_grown ss ss bs) in
    omega (arith, a, b)

pub symbol_reach : (ss rest : List SymbolTree) (bs : List Block) (i : ℕ) (s : SymbolTree) (x : List ℕ) (o : ℕ) → slice_get rest i ≡ Some s → s.place ≡ place.Block x o → o + units_in ss s ≤ size_in (symbols_grown ss rest bs) x
symbol_reach ss [] bs i s x o e d = cc
symbol_reach ss (t ∷ rest) bs zero s x o e d =
    let same : t ≡ s = cc in
    let own : o + units_in ss s ≤ size_in (place_grown (place.Block x o) (units_in ss s) bs) x = grown_itself x (o + units_in ss s) bs in
    let here : o + units_in ss s ≤ size_in (place_grown t.place (units_in ss t) bs) x =
    subst (λ z. o + units_in ss s ≤ size_in (place_grown z.place (units_in ss z) bs) x) (sym same) (subst (λ p. o + units_in ss s ≤ size_in (place_grown p (units_in ss s) bs) x) (sym d) own) in
    let more = symbols_more x ss rest (place_grown t.place (units_in ss t) bs) in
    omega (arith, here, more)
symbol_reach ss (t ∷ rest) bs (suc i) s x o e d = symbol_reach ss rest (place_grown t.place (units_in ss t) bs) i s x o e d

pub table_reach : (ks : List Known) (bs : List Block) (i : ℕ) (k : Known) (n : ℕ) (s : SymbolTree) (x : List ℕ) (o : ℕ) → slice_get ks i ≡ Some k → slice_get k.symbols n ≡ Some s → s.place ≡ place.Block x o → o + units_in k.symbols s ≤ size_in (tables_grown (map (λ l. l.symbols) ks) bs) x
table_reach [] bs i k n s x o e h d = cc
table_reach (l ∷ ks) bs zero k n s x o e h d =
    let same : l ≡ k = cc in
    let here : o + units_in k.symbols s ≤ size_in (symbols_grown l.symbols l.symbols bs) x = subst (λ z. o + units_in k.symbols s ≤ size_in (symbols_grown z.symbols z.symbols bs) x) (sym same) (symbol_reach k.symbols k.symbols bs n s x o h d) in
    let more = tables_more x (map (λ z. z.symbols) ks) (symbols_grown l.symbols l.symbols bs) in
    omega (arith, here, more)
table_reach (l ∷ ks) bs (suc i) k n s x o e h d = table_reach ks (symbols_grown l.symbols l.symbols bs) i k n s x o e h d

pub blocks_reach : (ks : List Known) (g : Graph) → HasBlocks ks g → BlocksReach ks g
blocks_reach ks g has i l n s b o is e d =
    let sized = table_reach ks [] i l (n - 1) s b o is (numbered_place l.symbols n s e) d in
    subst (λ bs. o + units_in l.symbols s ≤ size_in bs b) (sym has) sized
