-- A scalar at whose unit its module has nothing else.
use Rattle.std.proofs.Common.{◌≡◌, ℕ, zero, suc, ◌+◌, ◌-◌, ◌<◌, ◌≤◌, Bool, true, false, List, [], ◌∷◌, Some, refl, sym, ap, ◌∙◌, arith}
use Rattle.std.specs.Prelude.{if◌then◌else◌, bytes_eq, nat_eq, nat_le, nat_lt, ◌||◌, slice_get}
use Rattle.std.specs.List.{list_any}
use Rattle.std.proofs.lemmas.Bool.{and_from, eq-eqb, le-leb, lt-ltb}
use Rattle.std.proofs.lemmas.Slice.Eq.{bytes_eq-Decides}
use Rattle.f77_ast.specs.Calls.{in_place}
use Rattle.f77_ast.specs.declared.symbol.Place.{Place}
use Rattle.f77_ast.specs.declared.symbol.Place.TheVariants as place
use Rattle.f77_ast.specs.Symbols.{SymbolTree, value_in}
use Rattle.f77_ast.specs.Units.{units_in, bounds_units}
use Rattle.f77_ast.specs.Shared.{symbol_at}
use Rattle.tracked_cells.specs.Standing.{place_has, stands_at, two_at, untracks_at, reaches as spans}
use Rattle.f77_meaning.specs.Areas.{Area}
use Rattle.f77_meaning.specs.Modules.{fixed}
use Rattle.f77_meaning.specs.Linked.{offset_in, numbering}
use Rattle.f77_meaning.specs.Laws.{area_of, CellsAreAlone}
use Rattle.f77_meaning.proofs.ModuleLaws.{offsets_fit, variables_occupy_their_storage, meet_at}
use Rattle.f77_ast.proofs.StorageLaws.{from_number as numbered_place}
use Rattle.fx_lists.proofs.Lookups.{any_at}

-- ---- two at a unit

both_at : (ss : List SymbolTree) (p : Place) (rest : List SymbolTree) (i j : ℕ) (s t : SymbolTree) → (i ≡ j → ⊥) → slice_get rest i ≡ Some s → slice_get rest j ≡ Some t → stands_at ss p s ≡ true → stands_at ss p t ≡ true → two_at ss p rest ≡ true
both_at ss p [] i j s t n e f h q = cc
both_at ss p (x ∷ rest) zero zero s t n e f h q = absurd (n refl)
both_at ss p (x ∷ rest) zero (suc j) s t n e f h q =
    let same : x ≡ s = cc in
    let one : stands_at ss p x ≡ true = ap (stands_at ss p) same ∙ h in
    ap (λ b. if b then list_any (stands_at ss p) rest else two_at ss p rest) one ∙ any_at (stands_at ss p) rest j t f q
both_at ss p (x ∷ rest) (suc i) zero s t n e f h q =
    let same : x ≡ t = cc in
    let one : stands_at ss p x ≡ true = ap (stands_at ss p) same ∙ q in
    ap (λ b. if b then list_any (stands_at ss p) rest else two_at ss p rest) one ∙ any_at (stands_at ss p) rest i s e h
both_at ss p (x ∷ rest) (suc i) (suc j) s t n e f h q = go (stands_at ss p x) (any_at (stands_at ss p) rest i s e h) (both_at ss p rest i j s t (λ m. n (ap suc m)) e f h q)
  where
    go : (b : Bool) → list_any (stands_at ss p) rest ≡ true → two_at ss p rest ≡ true → (if b then list_any (stands_at ss p) rest else two_at ss p rest) ≡ true
    go true a c = a
    go false a c = c

not_two : (b c : Bool) → (b || c) ≡ false → c ≡ true → ⊥
not_two true c e h = cc
not_two false c e h = cc

-- ---- one unit

spans_from : (o n d : ℕ) → o ≤ d → d < o + n → spans o n d ≡ true
spans_from o n d a b = and_from (nat_le o d) (nat_lt d (o + n)) (le-leb o d a) (lt-ltb d (o + n) b)

-- a variable that has, in the area of a place, the unit at which the place begins stands there
stands_by : (m : List ℕ) (p q : Place) (a : Area) (n : ℕ) → area_of m p ≡ Some a → area_of m q ≡ Some a → offset_in q ≤ offset_in p → offset_in p < offset_in q + n → place_has q n p ≡ true
stands_by m (place.Local i o) (place.Local j r) a n e f b c = let same : j ≡ i = cc in and_from (nat_eq j i) (spans r n o) (eq-eqb j i same) (spans_from r n o b c)
stands_by m (place.Local i o) (place.Dummy j) a n e f b c = cc
stands_by m (place.Local i o) (place.Block x r) a n e f b c = cc
stands_by m (place.Local i o) (place.Constant v) a n e f b c = cc
stands_by m (place.Dummy i) q a n e f b c = cc
stands_by m (place.Block x o) (place.Local j r) a n e f b c = cc
stands_by m (place.Block x o) (place.Dummy j) a n e f b c = cc
stands_by m (place.Block x o) (place.Block y r) a n e f b c = let same : y ≡ x = cc in and_from (bytes_eq y x) (spans r n o) ((bytes_eq-Decides y x).1 same) (spans_from r n o b c)
stands_by m (place.Block x o) (place.Constant v) a n e f b c = cc
stands_by m (place.Constant v) q a n e f b c = cc

pub one_each : (ss : List SymbolTree) (s : SymbolTree) → s.bounds ≡ [] → units_in ss s ≡ 1
one_each ss s e = ap (bounds_units (value_in ss)) e

index_apart : (m n : ℕ) (ss : List SymbolTree) (s t : SymbolTree) → symbol_at ss m ≡ Some s → symbol_at ss n ≡ Some t → (m ≡ n → ⊥) → m - 1 ≡ n - 1 → ⊥
index_apart zero n ss s t d f h e = cc
index_apart (suc m) zero ss s t d f h e = cc
index_apart (suc m) (suc n) ss s t d f h e = h (omega (arith, e))

pub cells_are_alone : CellsAreAlone
cells_are_alone ks g k m n s t a b names u d f apart ea eb ka kb scalar plain hs = go (in_place (fixed (numbering ks g) k n) u) refl
  where
    go : (c : Bool) → in_place (fixed (numbering ks g) k n) u ≡ c → c ≡ false
    go true ht =
        let x = variables_occupy_their_storage ks g k m s a u d ea hs in
        let y = variables_occupy_their_storage ks g k n t b u f eb ht in
        let fit = offsets_fit ks k n t f in
        let fits = offsets_fit ks k m s d in
        let same = meet_at (numbering ks g) a b (offset_in s.place) (offset_in t.place) (units_in k.symbols s) (units_in k.symbols t) u fits fit ka kb x y in
        let one = one_each k.symbols s scalar in
        let at : offset_in s.place ≡ x.distance = omega (arith, one, x.from, x.below) in
        let ss = stands_by k.read.name s.place s.place a (units_in k.symbols s) ea ea (omega arith) (omega (arith, one)) in
        let ts = stands_by k.read.name s.place t.place a (units_in k.symbols t) ea (eb ∙ ap Some (sym same.0)) (omega (arith, at, same.1, y.from)) (omega (arith, at, same.1, y.below)) in
        let two = both_at k.symbols s.place k.symbols (m - 1) (n - 1) s t (index_apart m n k.symbols s t d.is_symbol f.is_symbol apart) (numbered_place k.symbols m s d.is_symbol) (numbered_place k.symbols n t f.is_symbol) ss ts in
        absurd (not_two (list_any (untracks_at names k.symbols s.place) k.symbols) (two_at k.symbols s.place k.symbols) plain two)
    go false ht = refl
