-- Tracked cells in COMMON, through all modules.
use Rattle.std.proofs.Common.{◌≡◌, ℕ, zero, suc, ◌+◌, Bool, true, false, not, List, [], ◌∷◌, Some, refl, sym, ap, ◌∙◌, subst, arith}
use Rattle.std.specs.Prelude.{if◌then◌else◌, nat_eq, nat_le, nat_lt, bytes_eq, ◌&&◌, ◌||◌, slice_get, is_none}
use Rattle.std.specs.List.{list_any}
use Rattle.std.specs.declared.cmp.Ordering.{Ordering}
use Rattle.std.specs.declared.cmp.Ordering.TheVariants.{Less, Equal, Greater}
use Rattle.std.specs.Ordering.{match_ordering, ordering_then, is_eq, nat_cmp}
use Rattle.std.proofs.lemmas.Bool.{and_parts, and_from, eqb-true, eq-eqb, leb-true, ltb-true, not-true, or_parts, or_left, or_right}
use Rattle.std.proofs.lemmas.Bool.Decides.{nat_tests}
use Rattle.std.proofs.lemmas.Map.Text.{is_eq-slice_cmp}
use Rattle.std.proofs.lemmas.Slice.Eq.{bytes_eq-Decides}
use Rattle.f77_ast.specs.DeclTrees.{ParsedTree}
use Rattle.f77_ast.specs.declared.symbol.Place.{Place}
use Rattle.f77_ast.specs.declared.symbol.Place.TheVariants as place
use Rattle.f77_ast.specs.declared.variable.Unit.{Unit as BlockUnit}
use Rattle.f77_ast.specs.Symbols.{SymbolTree, number_from, value_in}
use Rattle.f77_ast.specs.Units.{units_in, bounds_units}
use Rattle.tracked_cells.specs.Equivalences.{equivalenced_names}
use Rattle.tracked_cells.specs.Standing.{is_int, has_bounds, is_int_scalar, is_plain, reaches, place_has, stands_at, untracks, untracks_at, two_at}
use Rattle.tracked_cells.specs.Scalars.{name_cmp, unit_cmp, unit, unit_put, place_unit, with_scalar, with_scalars, all_scalars}
use Rattle.tracked_cells.specs.Untracked.{some_untracks, equivalenced_names_of_all, untracked_of}
use Rattle.tracked_cells.specs.Tracked.{is_unit, is_alone, is_tracked}
use Rattle.f77_meaning.specs.Laws.{CommonCellsAreAlone, CommonCellsAreCells}
use Rattle.tracked_cells.proofs.TrackedLaws.{trackable, none_of, left_out}
use Rattle.fx_lists.proofs.Booleans.{plain_from}
use Rattle.fx_lists.proofs.Orders.{same_numbers as same_offset, then_equal}

abbrev among : BlockUnit → List BlockUnit → Bool
among u us = list_any (is_unit u.block u.offset) us

-- ---- the units of scalars

is_itself : (u : BlockUnit) → is_unit u.block u.offset u ≡ true
is_itself u = and_from (bytes_eq u.block u.block) (nat_eq u.offset u.offset) ((bytes_eq-Decides u.block u.block).1 refl) (eq-eqb u.offset u.offset refl)

equal_unit : (u v : BlockUnit) → unit_cmp u v ≡ Equal → is_unit u.block u.offset v ≡ true
equal_unit u v e =
    let p = then_equal (name_cmp u.block v.block) (nat_cmp u.offset v.offset) e in
    and_from (bytes_eq u.block v.block) (nat_eq u.offset v.offset) (sym (is_eq-slice_cmp u.block v.block) ∙ ap is_eq p.0) (eq-eqb u.offset v.offset (same_offset u.offset v.offset p.1))

put_has : (u : BlockUnit) (us : List BlockUnit) → among u (unit_put u us) ≡ true
put_has u [] = or_left (is_unit u.block u.offset u) false (is_itself u)
put_has u (v ∷ us) = go (unit_cmp u v) refl (put_has u us)
  where
    go : (o : Ordering) → unit_cmp u v ≡ o → among u (unit_put u us) ≡ true → among u (match_ordering o (u ∷ v ∷ us) (v ∷ us) (v ∷ unit_put u us)) ≡ true
    go Less e ih = or_left (is_unit u.block u.offset u) (among u (v ∷ us)) (is_itself u)
    go Equal e ih = or_left (is_unit u.block u.offset v) (among u us) (equal_unit u v e)
    go Greater e ih = or_right (is_unit u.block u.offset v) (among u (unit_put u us)) ih

put_keeps : (w u : BlockUnit) (us : List BlockUnit) → among w us ≡ true → among w (unit_put u us) ≡ true
put_keeps w u [] h = cc
put_keeps w u (v ∷ us) h = go (unit_cmp u v) (is_unit w.block w.offset v) refl h (put_keeps w u us)
  where
    go : (o : Ordering) (c : Bool) → is_unit w.block w.offset v ≡ c → (c || among w us) ≡ true → (among w us ≡ true → among w (unit_put u us) ≡ true) → among w (match_ordering o (u ∷ v ∷ us) (v ∷ us) (v ∷ unit_put u us)) ≡ true
    go Less c e i ih = or_right (is_unit w.block w.offset u) (among w (v ∷ us)) (ap (λ d. d || among w us) e ∙ i)
    go Equal c e i ih = ap (λ d. d || among w us) e ∙ i
    go Greater true e i ih = or_left (is_unit w.block w.offset v) (among w (unit_put u us)) e
    go Greater false e i ih = or_right (is_unit w.block w.offset v) (among w (unit_put u us)) (ih i)

place_keeps : (w : BlockUnit) (p : Place) (us : List BlockUnit) → among w us ≡ true → among w (place_unit p us) ≡ true
place_keeps w (place.Local g o) us h = h
place_keeps w (place.Dummy m) us h = h
place_keeps w (place.Block x o) us h = put_keeps w (unit x o) us h
place_keeps w (place.Constant m) us h = h

scalar_keeps : (w : BlockUnit) (s : SymbolTree) (us : List BlockUnit) → among w us ≡ true → among w (with_scalar s us) ≡ true
scalar_keeps w s us h = go (is_int_scalar s)
  where
    go : (b : Bool) → among w (if b then place_unit s.place us else us) ≡ true
    go true = place_keeps w s.place us h
    go false = h

scalars_keep : (w : BlockUnit) (ss : List SymbolTree) (us : List BlockUnit) → among w us ≡ true → among w (with_scalars ss us) ≡ true
scalars_keep w [] us h = h
scalars_keep w (s ∷ ss) us h = scalars_keep w ss (with_scalar s us) (scalar_keeps w s us h)

all_keep : (w : BlockUnit) (sss : List (List SymbolTree)) (us : List BlockUnit) → among w us ≡ true → among w (all_scalars sss us) ≡ true
all_keep w [] us h = h
all_keep w (ss ∷ sss) us h = all_keep w sss (with_scalars ss us) (scalars_keep w ss us h)

module _ (s : SymbolTree) (x : List ℕ) (o : ℕ) (at : s.place ≡ place.Block x o) (int : is_int_scalar s ≡ true) where
  scalar_has : (us : List BlockUnit) → among (unit x o) (with_scalar s us) ≡ true
  scalar_has us = ap (λ b. among (unit x o) (if b then place_unit s.place us else us)) int ∙ ap (λ p. among (unit x o) (place_unit p us)) at ∙ put_has (unit x o) us

  scalars_have : (ss : List SymbolTree) (us : List BlockUnit) (n : ℕ) → slice_get ss n ≡ Some s → among (unit x o) (with_scalars ss us) ≡ true
  scalars_have [] us n e = cc
  scalars_have (t ∷ ss) us zero e =
      let same : s ≡ t = cc in
      scalars_keep (unit x o) ss (with_scalar t us) (subst (λ z. among (unit x o) (with_scalar z us) ≡ true) same (scalar_has us))
  scalars_have (t ∷ ss) us (suc n) e = scalars_have ss (with_scalar t us) n e

  all_have : (sss : List (List SymbolTree)) (us : List BlockUnit) (k n : ℕ) (ss : List SymbolTree) → slice_get sss k ≡ Some ss → slice_get ss n ≡ Some s → among (unit x o) (all_scalars sss us) ≡ true
  all_have [] us k n ss f e = cc
  all_have (ts ∷ sss) us zero n ss f e =
      let same : ss ≡ ts = cc in
      all_keep (unit x o) sss (with_scalars ts us) (scalars_have ts us n (subst (λ z. slice_get z n ≡ Some s) same e))
  all_have (ts ∷ sss) us (suc k) n ss f e = all_have sss (with_scalars ts us) k n ss f e

-- ---- what is not untracked

-- a tracked scalar of a block is an INTEGER scalar at a unit that is not untracked
tracked_parts : (names : List (List ℕ)) (ss : List SymbolTree) (us : List BlockUnit) (s : SymbolTree) (x : List ℕ) (o : ℕ) → s.place ≡ place.Block x o → is_tracked names ss us s ≡ true → (is_int_scalar s ≡ true) × (among (unit x o) us ≡ false)
tracked_parts names ss us s x o at h =
    let p = and_parts (is_plain names s) (is_alone names ss us s.place) h in
    ((and_parts (is_int_scalar s) (is_none (number_from 0 names s.name)) p.0).0, not-true (among (unit x o) us) (sym (ap (is_alone names ss us) at) ∙ p.1))

pub common_cells_are_alone : CommonCellsAreAlone
common_cells_are_alone ps sss k n names ss s x o has is at tracked j q ts a b =
    let p = tracked_parts names ss (untracked_of ps sss) s x o at tracked in
    let calm = left_out (λ v. some_untracks (equivalenced_names_of_all ps) sss v) (unit x o) (all_scalars sss []) (all_have s x o at p.0 sss [] k n ss has is) p.1 in
    trackable ps sss (place.Block x o) calm j q ts a b

-- ---- the cells of other modules

scalar_bounds : (s : SymbolTree) → is_int_scalar s ≡ true → s.bounds ≡ []
scalar_bounds s h = go s.bounds refl (not-true (has_bounds s.bounds) (and_parts (is_int s.scalar) (not (has_bounds s.bounds)) h).1)
  where
    go : (bs : List _) → s.bounds ≡ bs → has_bounds bs ≡ false → s.bounds ≡ []
    go [] e h = e
    go (b ∷ bs) e h = cc

-- a scalar that stands at the first unit of a place has just this one
pub stands_there : (x : List ℕ) (o : ℕ) (p : Place) → place_has p 1 (place.Block x o) ≡ true → p ≡ place.Block x o
stands_there x o (place.Local g r) h = cc
stands_there x o (place.Dummy m) h = cc
stands_there x o (place.Block y r) h =
    let p = and_parts (bytes_eq y x) (reaches r 1 o) h in
    let q = and_parts (nat_le r o) (nat_lt o (r + 1)) p.1 in
    let low = leb-true r o q.0 in
    let high = ltb-true o (r + 1) q.1 in
    let same : r ≡ o = omega (arith, low, high) in
    ap (λ z. place.Block z r) ((bytes_eq-Decides y x).0 p.0) ∙ ap (place.Block x) same
stands_there x o (place.Constant m) h = cc

pub common_cells_are_cells : CommonCellsAreCells
common_cells_are_cells ps sss k n names ss s x o has is at tracked j q ts a b m t e stands =
    let alone = common_cells_are_alone ps sss k n names ss s x o has is at tracked j q ts a b in
    let none = (or_parts (list_any (untracks_at (equivalenced_names q.module_read) ts (place.Block x o)) ts) (two_at ts (place.Block x o) ts) alone).0 in
    let plain = plain_from (stands_at ts (place.Block x o) t) (is_plain (equivalenced_names q.module_read) t) (none_of (untracks_at (equivalenced_names q.module_read) ts (place.Block x o)) ts none m t e) stands in
    let int = (and_parts (is_int_scalar t) (is_none (number_from 0 (equivalenced_names q.module_read) t.name)) plain).0 in
    let one : units_in ts t ≡ 1 = ap (bounds_units (value_in ts)) (scalar_bounds t int) in
    let there : t.place ≡ place.Block x o = stands_there x o t.place (sym (ap (λ z. place_has t.place z (place.Block x o)) one) ∙ stands) in
    let p = tracked_parts names ss (untracked_of ps sss) s x o at tracked in
    and_from (is_plain (equivalenced_names q.module_read) t) (is_alone (equivalenced_names q.module_read) ts (untracked_of ps sss) t.place) plain (ap (is_alone (equivalenced_names q.module_read) ts (untracked_of ps sss)) there ∙ ap not p.1)
