-- Where the variables of modules lie, and which share a unit.
use Rattle.std.proofs.Common.{◌≡◌, ℕ, zero, suc, ◌+◌, ◌-◌, ◌*◌, ◌<◌, ◌≤◌, max, Bool, true, false, List, [], ◌∷◌, Some, None, refl, sym, ap, ◌∙◌, subst, arith}
use Rattle.std.specs.Prelude.{if◌then◌else◌, nat_eq, nat_le, nat_lt, slice_get}
use Rattle.std.proofs.lemmas.Bool.{and_parts, leb-true, ltb-true}
use Rattle.f77_ast.specs.Places.{Place as RunPlace}
use Rattle.f77_ast.specs.Calls.{in_place}
use Rattle.f77_ast.specs.declared.symbol.Place.{Place}
use Rattle.f77_ast.specs.declared.symbol.Place.TheVariants as place
use Rattle.f77_ast.specs.Symbols.{SymbolTree}
use Rattle.f77_ast.specs.Units.{units_in}
use Rattle.f77_ast.specs.Shared.{OneUnit, group_unit, block_unit, unit_after, symbol_at}
use Rattle.f77_ast.proofs.SharingLaws.{sharing_is_of_units}
use Rattle.f77_meaning.specs.Areas.{Area, block, group, own, Numbering, area_number, unit_at}
use Rattle.f77_meaning.specs.Modules.{Known, laid_at, fixed_place, fixed_maybe, fixed}
use Rattle.f77_meaning.specs.Linked.{offset_in, room_of, room_for, numbering}
use Rattle.f77_meaning.specs.Laws.{IsKnown, OffsetsFit, area_of, IsUnit, VariablesOccupyTheirStorage, NamesMeet, SharedByTable, OwnUnitsApart}
use Rattle.f77_meaning.proofs.UnitLaws.{units_differ}
use Rattle.f77_ast.proofs.StorageLaws.{from_number as numbered_place}

-- ---- the room

symbol_fits : (all ss : List SymbolTree) (i : ℕ) (s : SymbolTree) → slice_get ss i ≡ Some s → offset_in s.place + units_in all s ≤ room_of all ss
symbol_fits all [] i s e = cc
symbol_fits all (t ∷ ss) zero s e = let same : t ≡ s = cc in subst (λ x. offset_in x.place + units_in all x ≤ max (offset_in t.place + units_in all t) (room_of all ss)) same (omega arith)
symbol_fits all (t ∷ ss) (suc i) s e = let h = symbol_fits all ss i s e in omega (arith, h)

module_fits : (ks : List Known) (i : ℕ) (k : Known) → slice_get ks i ≡ Some k → room_of k.symbols k.symbols ≤ room_for ks
module_fits [] i k e = cc
module_fits (l ∷ ks) zero k e = let same : l ≡ k = cc in subst (λ x. room_of x.symbols x.symbols ≤ max (room_of l.symbols l.symbols) (room_for ks)) same (omega arith)
module_fits (l ∷ ks) (suc i) k e = let h = module_fits ks i k e in omega (arith, h)

pub offsets_fit : OffsetsFit
offsets_fit ks k n s d =
    let one = symbol_fits k.symbols k.symbols (n - 1) s (numbered_place k.symbols n s d.is_symbol) in
    let all = module_fits ks d.at k d.is_module in
    omega (arith, one, all)

-- ---- the units of a variable

pub in_laid : (p : RunPlace) (u : ℕ) → in_place p u ≡ true → (p.first ≤ u) × (u < p.first + p.extent)
in_laid p u h = let q = and_parts (nat_le p.first u) (nat_lt u (p.first + p.extent)) h in (leb-true p.first u q.0, ltb-true u (p.first + p.extent) q.1)

laid_unit : (g : Numbering) (a : Area) (o count u : ℕ) → unit_at g a o ≤ u → u < unit_at g a o + count → IsUnit g a o count u
laid_unit g a o count u h i = record { distance = u - area_number g a * g.room; unit = omega (arith, h); from = omega (arith, h); below = omega (arith, h, i) }

lies_by : (g : Numbering) (m : List ℕ) (ss : List SymbolTree) (s : SymbolTree) (p : Place) (a : Area) (u : ℕ) → area_of m p ≡ Some a → in_place (fixed_place g m ss s p) u ≡ true → IsUnit g a (offset_in p) (units_in ss s) u
lies_by g m ss s (place.Local n o) a u e h =
    let q = in_laid (laid_at (unit_at g (group m n) o) ss s) u h in
    let same : group m n ≡ a = cc in
    subst (λ b. IsUnit g b o (units_in ss s) u) same (laid_unit g (group m n) o (units_in ss s) u q.0 q.1)
lies_by g m ss s (place.Dummy k) a u e h = cc
lies_by g m ss s (place.Block b o) a u e h =
    let q = in_laid (laid_at (unit_at g (block b) o) ss s) u h in
    let same : block b ≡ a = cc in
    subst (λ b. IsUnit g b o (units_in ss s) u) same (laid_unit g (block b) o (units_in ss s) u q.0 q.1)
lies_by g m ss s (place.Constant v) a u e h = cc

pub variables_occupy_their_storage : VariablesOccupyTheirStorage
variables_occupy_their_storage ks g k n s a u d e h =
    lies_by (numbering ks g) k.read.name k.symbols s s.place a u e (subst (λ o. in_place (fixed_maybe (numbering ks g) k.read.name k.symbols o) u ≡ true) d.is_symbol h)

-- ---- two variables

pub meet_at : (g : Numbering) (a b : Area) (o p m n u : ℕ) → o + m ≤ g.room → p + n ≤ g.room → IsKnown g a → IsKnown g b → (x : IsUnit g a o m u) (y : IsUnit g b p n u) → (a ≡ b) × (x.distance ≡ y.distance)
meet_at g a b o p m n u f i ka kb x y =
    units_differ g a b x.distance y.distance ka kb (omega (arith, f, x.below)) (omega (arith, i, y.below)) (sym x.unit ∙ y.unit)

pub names_meet : NamesMeet
names_meet ks g k l m n s t a b u d f ea eb ka kb hs ht =
    (meet_at (numbering ks g) a b (offset_in s.place) (offset_in t.place) (units_in k.symbols s) (units_in l.symbols t) u (offsets_fit ks k m s d) (offsets_fit ks l n t f) ka kb (variables_occupy_their_storage ks g k m s a u d ea hs) (variables_occupy_their_storage ks g l n t b u f eb ht)).0

no_own : (m x : List ℕ) (call spot : ℕ) (p : Place) → area_of m p ≡ Some (own x call spot) → ⊥
no_own m x call spot (place.Local i o) h = cc
no_own m x call spot (place.Dummy i) h = cc
no_own m x call spot (place.Block b o) h = cc
no_own m x call spot (place.Constant i) h = cc

pub has_room : (ks : List Known) → 0 < room_for ks
has_room [] = omega arith
has_room (k ∷ ks) = let h = has_room ks in omega (arith, h)

pub own_units_apart : OwnUnitsApart
own_units_apart ks g k n s a x call spot d e ka kx = go (in_place (fixed (numbering ks g) k n) (unit_at (numbering ks g) (own x call spot) 0)) refl
  where
    go : (b : Bool) → in_place (fixed (numbering ks g) k n) (unit_at (numbering ks g) (own x call spot) 0) ≡ b → b ≡ false
    go true h =
        let y = variables_occupy_their_storage ks g k n s a (unit_at (numbering ks g) (own x call spot) 0) d e h in
        let fits = offsets_fit ks k n s d in
        let same = units_differ (numbering ks g) (own x call spot) a 0 y.distance kx ka (has_room ks) (omega (arith, fits, y.below)) y.unit in
        absurd (no_own k.read.name x call spot s.place (e ∙ ap Some (sym same.0)))
    go false h = refl

-- ---- sharing

-- a unit at a distance of two places in one area is one of both, by the table
module _ (m : List ℕ) (ss : List SymbolTree) (s t : SymbolTree) (d : ℕ) where
  one_unit : (a : Area) (p q : Place) → area_of m p ≡ Some a → area_of m q ≡ Some a → offset_in p ≤ d → d < offset_in p + units_in ss s → offset_in q ≤ d → d < offset_in q + units_in ss t →
      (u : OneUnit) × ((k : ℕ) × (k < units_in ss s) × (unit_after p k ≡ Some u)) × ((k : ℕ) × (k < units_in ss t) × (unit_after q k ≡ Some u))
  one_unit a (place.Local i o) (place.Local j r) e f b c x y =
      let same : i ≡ j = cc in
      let left : o + (d - o) ≡ d = omega (arith, b) in
      let right : r + (d - r) ≡ d = omega (arith, x) in
      (group_unit i d, (d - o, omega (arith, b, c), ap (λ z. Some (group_unit i z)) left), (d - r, omega (arith, x, y), ap (λ z. Some (group_unit j z)) right ∙ ap (λ z. Some (group_unit z d)) (sym same)))
  one_unit a (place.Local i o) (place.Dummy j) e f b c x y = cc
  one_unit a (place.Local i o) (place.Block v r) e f b c x y = cc
  one_unit a (place.Local i o) (place.Constant v) e f b c x y = cc
  one_unit a (place.Dummy i) q e f b c x y = cc
  one_unit a (place.Block v o) (place.Local j r) e f b c x y = cc
  one_unit a (place.Block v o) (place.Dummy j) e f b c x y = cc
  one_unit a (place.Block v o) (place.Block w r) e f b c x y =
      let same : v ≡ w = cc in
      let left : o + (d - o) ≡ d = omega (arith, b) in
      let right : r + (d - r) ≡ d = omega (arith, x) in
      (block_unit v d, (d - o, omega (arith, b, c), ap (λ z. Some (block_unit v z)) left), (d - r, omega (arith, x, y), ap (λ z. Some (block_unit w z)) right ∙ ap (λ z. Some (block_unit z d)) (sym same)))
  one_unit a (place.Block v o) (place.Constant w) e f b c x y = cc
  one_unit a (place.Constant v) q e f b c x y = cc

pub shared_by_table : SharedByTable
shared_by_table ks g k m n s t a b u d f ea eb ka kb hs ht =
    let x = variables_occupy_their_storage ks g k m s a u d ea hs in
    let y = variables_occupy_their_storage ks g k n t b u f eb ht in
    let same = meet_at (numbering ks g) a b (offset_in s.place) (offset_in t.place) (units_in k.symbols s) (units_in k.symbols t) u (offsets_fit ks k m s d) (offsets_fit ks k n t f) ka kb x y in
    let from : offset_in t.place ≤ x.distance = omega (arith, same.1, y.from) in
    let below : x.distance < offset_in t.place + units_in k.symbols t = omega (arith, same.1, y.below) in
    (sharing_is_of_units k.symbols s t).1 (one_unit k.read.name k.symbols s t x.distance a s.place t.place ea (eb ∙ ap Some (sym same.0)) x.from x.below from below)
