-- The equations for dummy arrays, and for variables of blocks, hold.
use Rattle.std.proofs.Common.{◌≡◌, ℕ, suc, ◌+◌, ◌*◌, ◌<◌, ◌≤◌, List, [], ◌∷◌, length, Option, Some, None, Bool, true, false, ◌&&◌, refl, sym, ap, ap₂, ◌∙◌, subst, arith, ℤ, pos, ◌+ℤ◌, ◌-ℤ◌, ◌*ℤ◌, ◌≤ℤ◌, nat_lt, nat_eq, true≢false}
use Rattle.std.specs.Prelude.{if◌then◌else◌, nat_le, ◌||◌}
use Rattle.std.proofs.lemmas.Int.{ints}
use Rattle.std.proofs.lemmas.Bool.Decides.{nat_tests}
use Rattle.affine_systems.specs.declared.row.Var.{Var}
use Rattle.affine_systems.specs.declared.row.Var.TheVariants.{Cell, Exit, Phi, Aux}
use Rattle.affine_systems.specs.declared.row.Row.{Row}
use Rattle.affine_systems.specs.Points.{Point, Holds, HoldsAll}
use Rattle.f77_ast.specs.Trees.{ExprTree, ExprTrees}
use Rattle.f77_ast.specs.Places.{Dim, Place, as_count, size_from, dim_size, total_size}
use Rattle.f77_ast.specs.Calls.{is_open}
use Rattle.f77_ast.specs.declared.variable.Variable.{Variable}
use Rattle.f77_ast.specs.declared.variable.Variable.TheVariants.{Own, Block as Whole}
use Rattle.f77_ast.specs.Symbols.{BoundTree}
use Rattle.affine_forms.specs.declared.affine.Affine.{Affine}
use Rattle.affine_forms.specs.Claims.{form_value}
use Rattle.call_translation.specs.transformer_algebra.Claims.{Scene, AtStart}
use Rattle.region_sets.specs.Claims.{HasSubscripts}
use Rattle.call_equations.specs.Sides.{SidesTree}
use Rattle.call_equations.specs.Forms.{offset, less, equation}
use Rattle.call_equations.specs.Cells.{named, named_form, maybe_form, actual_bound, dummy_bound}
use Rattle.call_equations.specs.Positions.{actual_extent, dummy_extent, same_extent, aligned_row, is_none_left, row_before, aligned_rows, whole_position, element_position, dummy_position, block_position}
use Rattle.call_equations.specs.Links.{link, by_position, actual_bounds, whole_by_position, aligned_or, bounds_unless_lines, by_unit}
use Rattle.region_translation.specs.Claims.{FormsMean, Matches, LinkHolds, elements_of, ConstantsFit, BoundMeans, EachDim, LastMayBeOpen, AtEntry, ActualStands, DummyStands, IsPart, IsElement}
use Rattle.region_translation.specs.Laws.{ArrayLinkHolds, RestLinkHolds, BlockLinkHolds}
use Rattle.region_translation.proofs.FormLaws.{Equation, equation_is, offset_value, less_value, named_value, zero_same, entry_point, caller_value}
use Rattle.region_translation.proofs.ArrayLaws.{lin, InDims, Leading, Filled, Within, place_in, placed, located, leading, within_total, filled_of, digits, digits_are}
use Rattle.region_translation.proofs.ElementLaws.{element_of, spot_is, phi_from, reads_from, reads_place, subscripted, in_extent, bounds_hold}
use Rattle.region_translation.proofs.PositionLaws.{dummy_value, whole_value, element_value, whole_sized, element_sized, leading_back, block_value}
use Rattle.fx_lists.proofs.Numbers.{nat_eq_same}
use Rattle.fx_lists.proofs.Options.{some_is, none_some}

-- ---- sums of the same subscripts

lin_upto : (ds : List Dim) (k : ℕ) (f g : ℕ → ℤ) → ((j : ℕ) → k ≤ j → j < k + length ds → f j ≡ g j) → lin ds k f ≡ lin ds k g
lin_upto [] k f g h = refl
lin_upto (d ∷ ds) k f g h =
    ap₂ (λ a z. (a -ℤ d.low) +ℤ (pos (dim_size d) *ℤ z)) (h k (omega arith) (omega arith)) (lin_upto ds (suc k) f g (λ j l u. h j (omega (arith, l)) (omega (arith, u))))

same_length : (P : BoundTree → Dim → Type 0) (bs : List BoundTree) (ds : List Dim) → EachDim P bs ds → length bs ≡ length ds
same_length P [] [] h = refl
same_length P [] (d ∷ ds) h = absurd h
same_length P (b ∷ bs) [] h = absurd h
same_length P (b ∷ bs) (d ∷ ds) h = ap suc (same_length P bs ds h.1)

own_subscript : (r j : ℕ) → 1 ≤ j → j < 1 + r → (false || (nat_lt 0 j && nat_le j r)) ≡ true
own_subscript r j l u = ap₂ (λ a b. false || (a && b)) (positive j l) (at_most j r (omega (arith, u)))
  where
    positive : (j : ℕ) → 1 ≤ j → nat_lt 0 j ≡ true
    positive j l = let h : 0 < j = omega (arith, l) in grind (arith, nat_tests)

    at_most : (j r : ℕ) → j ≤ r → nat_le j r ≡ true
    at_most j r h = grind (arith, nat_tests)

-- ---- by the places of elements

-- what is known of the form of the places of the caller's elements, which counts from so many on, and of rows
record Positioned (m : Scene) (x : ℕ → ℤ) (p : Place) (start : ℕ) (act : Option Affine) (more bounds : List Row) : Type 0 where
  total : (h : Affine) → act ≡ Some h → Filled p.dims → (q : Point) → AtStart m x q → form_value q h +ℤ pos start ≡ lin p.dims 1 (λ j. q (Phi j))
  more_hold : (q : Point) → InDims p.dims 1 (λ j. q (Phi j)) → HoldsAll q more
  more_back : (h : Affine) → act ≡ Some h → Filled p.dims → (q : Point) → HoldsAll q more → Leading p.dims 1 (λ j. q (Phi j))
  bounds_hold : (q : Point) → InDims p.dims 1 (λ j. q (Phi j)) → HoldsAll q bounds

module _ (c : SidesTree) (m e : Scene) (x y : ℕ → ℤ) (ds : List BoundTree) (p d : Place) (start : ℕ) (act : Option Affine) (more bounds : List Row)
    (last : LastMayBeOpen p.dims) (within : is_open p.dims ≡ false → p.extent ≤ total_size p.dims) (filled : 0 < p.extent → 0 < total_size p.dims)
    (dummy : DummyStands c e y ds d) (part : IsPart p d start) (act_is : Positioned m x p start act more bounds) where
  room : (n : ℕ) → n < d.extent → start + n < p.extent
  room n l = let r = part.room in omega (arith, l, r)

  some_room : (n : ℕ) → n < p.extent → Filled p.dims
  some_room n l = filled_of p.dims (filled (omega (arith, l)))

  dummy_filled : (n : ℕ) → n < d.extent → Filled d.dims
  dummy_filled n l = filled_of d.dims (dummy.stands.filled (omega (arith, l)))

  is_within : (n : ℕ) → n < p.extent → Within p.dims n
  is_within n l = within_total p.dims n last (λ o. let w = within o in omega (arith, l, w))

  abbrev to_of : (phi : ℕ → ℤ) (u : ℕ) → elements_of d phi ≡ Some u → ℕ → ℤ
  to_of phi u h = digits p.dims 1 (start + (element_of d phi u h).number)

  number_in_p : (phi : ℕ → ℤ) (u : ℕ) (h : elements_of d phi ≡ Some u) → place_in p.dims 1 (to_of phi u h) ≡ Some (start + (element_of d phi u h).number)
  number_in_p phi u h =
      let k = element_of d phi u h in
      let s = room k.number k.small in
      let w = is_within (start + k.number) s in
      let g = digits_are p.dims 1 (start + k.number) (some_room (start + k.number) s) w in
      located p.dims 1 (to_of phi u h) (start + k.number) last g.leads w g.sum

  units : (n u : ℕ) → d.first + n ≡ u → p.first + (start + n) ≡ u
  units n u k = let f = part.first in omega (arith, k, f)

  there_of : (phi : ℕ → ℤ) (u : ℕ) (h : elements_of d phi ≡ Some u) → elements_of p (to_of phi u h) ≡ Some u
  there_of phi u h = let k = element_of d phi u h in spot_is p (to_of phi u h) (start + k.number) u (number_in_p phi u h) (room k.number k.small) (units k.number u k.unit)

  in_bounds : (phi : ℕ → ℤ) (u : ℕ) (h : elements_of d phi ≡ Some u) (q : Point) → HasSubscripts (to_of phi u h) q → InDims p.dims 1 (λ j. q (Phi j))
  in_bounds phi u h q b = subst (λ (f : ℕ → ℤ). InDims p.dims 1 f) (λ i j. sym (b j) i) (placed p.dims 1 (to_of phi u h) (start + (element_of d phi u h).number) (number_in_p phi u h)).bounds

  -- the constant bounds alone
  loose_link : (v : Variable) (r : ℕ) → LinkHolds m e x y (elements_of p) (elements_of d) (link v r true bounds false)
  loose_link v r = record {
    to = to_of;
    there = there_of;
    stays = λ q phi u h k. absurd (true≢false q);
    holds = λ phi u h q a b g. act_is.bounds_hold q (in_bounds phi u h q b);
    back = λ ex. absurd (true≢false (sym ex));
  }

  -- with the equation of both places
  module _ (v : Variable) (row : Row) (is_row : equation act (dummy_position c (length ds) 1 ds) ≡ Some row) where
    eq : Equation act (dummy_position c (length ds) 1 ds) row
    eq = equation_is act (dummy_position c (length ds) 1 ds) row is_row

    forward_row : (phi : ℕ → ℤ) (u : ℕ) (h : elements_of d phi ≡ Some u) (q : Point) → Matches m e (length ds) x y q → HasSubscripts (to_of phi u h) q → ((j : ℕ) → 1 ≤ j → j < 1 + length d.dims → q (Aux j) ≡ phi j) → Holds q row
    forward_row phi u h q a b g =
        let k = element_of d phi u h in
        let s = room k.number k.small in
        let inner : lin d.dims 1 (λ j. q (Aux j)) ≡ pos k.number = lin_upto d.dims 1 (λ j. q (Aux j)) phi g ∙ (placed d.dims 1 phi k.number k.is).sum in
        let outer : lin p.dims 1 (λ j. q (Phi j)) ≡ pos (start + k.number) = subst (λ (f : ℕ → ℤ). lin p.dims 1 f ≡ pos (start + k.number)) (λ i j. sym (b j) i) (placed p.dims 1 (to_of phi u h) (start + k.number) (number_in_p phi u h)).sum in
        let one = act_is.total eq.first eq.is_first (some_room (start + k.number) s) q a.outside in
        let two = dummy_value c m e x y (length ds) q a 1 ds d.dims eq.second dummy.stands.constants dummy.bounds (dummy_filled k.number k.small) eq.is_second in
        eq.forward q (meet (form_value q eq.first) (form_value q eq.second) (lin p.dims 1 (λ j. q (Phi j))) (lin d.dims 1 (λ j. q (Aux j))) start k.number one outer two inner)
      where
        meet : (f g o i : ℤ) (s n : ℕ) → f +ℤ pos s ≡ o → o ≡ pos (s + n) → g ≡ i → i ≡ pos n → f ≡ g
        meet f g o i s n a b c d = omega (arith, ints)

    back_row : (q : Point) → Matches m e (length ds) x y q → HoldsAll q (row ∷ more) → (u : ℕ) → elements_of d (λ j. q (Aux j)) ≡ Some u → elements_of p (λ j. q (Phi j)) ≡ Some u
    back_row q a h u s =
        let k = element_of d (λ j. q (Aux j)) u s in
        let small = room k.number k.small in
        let full = some_room (start + k.number) small in
        let inner = (placed d.dims 1 (λ j. q (Aux j)) k.number k.is).sum in
        let one = act_is.total eq.first eq.is_first full q a.outside in
        let two = dummy_value c m e x y (length ds) q a 1 ds d.dims eq.second dummy.stands.constants dummy.bounds (dummy_filled k.number k.small) eq.is_second in
        let sum = total (form_value q eq.first) (form_value q eq.second) (lin p.dims 1 (λ j. q (Phi j))) (lin d.dims 1 (λ j. q (Aux j))) start k.number one (eq.backward q h.0) two inner in
        spot_is p (λ j. q (Phi j)) (start + k.number) u (located p.dims 1 (λ j. q (Phi j)) (start + k.number) last (act_is.more_back eq.first eq.is_first full q h.1) (is_within (start + k.number) small) sum) small (units k.number u k.unit)
      where
        total : (f g o i : ℤ) (s n : ℕ) → f +ℤ pos s ≡ o → f ≡ g → g ≡ i → i ≡ pos n → o ≡ pos (s + n)
        total f g o i s n a b c d = omega (arith, ints)

    equal_link : LinkHolds m e x y (elements_of p) (elements_of d) (link v (length ds) true (row ∷ more) true)
    equal_link = record {
      to = to_of;
      there = there_of;
      stays = λ q phi u h k. absurd (true≢false q);
      holds = λ phi u h q a b g. (forward_row phi u h q a b (λ j l t. g j (own_subscript (length ds) j l (subst (λ n. j < 1 + n) (sym (same_length (ConstantsFit c.callee.scalars.value) ds d.dims dummy.stands.constants)) t))), act_is.more_hold q (in_bounds phi u h q b));
      back = λ ex q a h u s. back_row q a h u s;
    }

  position_link : (n : ℕ) → LinkHolds m e x y (elements_of p) (elements_of d) (by_position n (length ds) (equation act (dummy_position c (length ds) 1 ds)) more bounds)
  position_link n = go (equation act (dummy_position c (length ds) 1 ds)) refl
    where
      go : (w : Option Row) → equation act (dummy_position c (length ds) 1 ds) ≡ w → LinkHolds m e x y (elements_of p) (elements_of d) (by_position n (length ds) w more bounds)
      go None q = loose_link (Own n) (length ds)
      go (Some row) q = equal_link (Own n) row q

-- ---- a whole array, and an element

whole_positioned : (c : SidesTree) (m : Scene) (x : ℕ → ℤ) (bs : List BoundTree) (p : Place) → ActualStands c m x bs p → Positioned m x p 0 (whole_position c 1 bs) (actual_bounds c bs) (actual_bounds c bs)
whole_positioned c m x bs p a = record {
  total = λ h g f q st. plus_0 (form_value q h) ∙ whole_value c m x q st 1 bs p.dims h a.stands.constants a.bounds f g;
  more_hold = λ q i. bounds_hold c.caller.scalars.value bs p.dims 1 q a.stands.constants i;
  more_back = λ h g f q k. leading_back c.caller.scalars.value bs p.dims 1 q a.stands.constants (whole_sized c 1 bs h g) f k;
  bounds_hold = λ q i. bounds_hold c.caller.scalars.value bs p.dims 1 q a.stands.constants i;
}
  where
    plus_0 : (z : ℤ) → z +ℤ pos 0 ≡ z
    plus_0 z = omega (arith, ints)

lines_hold : (c : SidesTree) (bs ds : List BoundTree) (q : Point) → HoldsAll q (actual_bounds c bs) → HoldsAll q (bounds_unless_lines (actual_bounds c bs) bs ds)
lines_hold c [] ds q h = h
lines_hold c (a ∷ []) [] q h = h
lines_hold c (a ∷ []) (d ∷ []) q h = tt
lines_hold c (a ∷ []) (d ∷ (f ∷ ds)) q h = h
lines_hold c (a ∷ (b ∷ bs)) ds q h = h

one_dimension : (P : BoundTree → Dim → Type 0) (a : BoundTree) (es : List Dim) (phi : ℕ → ℤ) → EachDim P (a ∷ []) es → Leading es 1 phi
one_dimension P a [] phi h = absurd h
one_dimension P a (d ∷ []) phi h = tt
one_dimension P a (d ∷ (f ∷ es)) phi h = absurd h.1

lines_back : (c : SidesTree) (bs ds : List BoundTree) (es : List Dim) (q : Point) → EachDim (ConstantsFit c.caller.scalars.value) bs es → (HoldsAll q (actual_bounds c bs) → Leading es 1 (λ j. q (Phi j))) → HoldsAll q (bounds_unless_lines (actual_bounds c bs) bs ds) → Leading es 1 (λ j. q (Phi j))
lines_back c [] ds es q f k h = k h
lines_back c (a ∷ []) [] es q f k h = k h
lines_back c (a ∷ []) (d ∷ []) es q f k h = one_dimension (ConstantsFit c.caller.scalars.value) a es (λ j. q (Phi j)) f
lines_back c (a ∷ []) (d ∷ (g ∷ ds)) es q f k h = k h
lines_back c (a ∷ (b ∷ bs)) ds es q f k h = k h

element_positioned : (c : SidesTree) (m : Scene) (x : ℕ → ℤ) (es : ExprTrees) (bs ds : List BoundTree) (p : Place) (k : ℕ) → ActualStands c m x bs p → IsElement c m x es p k → Positioned m x p k (element_position c 1 es bs) (bounds_unless_lines (actual_bounds c bs) bs ds) (actual_bounds c bs)
element_positioned c m x es bs ds p k a el =
    let ns = el.subscripts in
    let base = phi_from ns 1 in
    let found = in_extent p ns k el.there in
    let subs = subscripted c m x es ns bs p.dims k el.values a.stands.constants found.0 in
    let start = (placed p.dims 1 base k (reads_place p.dims ns 1 base k found.0 (reads_from 1 ns))).sum in
    record {
      total = λ h g f q st. ap (λ z. form_value q h +ℤ z) (sym start) ∙ element_value c m x q st 1 es ns bs p.dims h base subs (reads_from 1 ns) f g;
      more_hold = λ q i. lines_hold c bs ds q (bounds_hold c.caller.scalars.value bs p.dims 1 q a.stands.constants i);
      more_back = λ h g f q t. lines_back c bs ds p.dims q a.stands.constants (λ s. leading_back c.caller.scalars.value bs p.dims 1 q a.stands.constants (element_sized c 1 es bs h g) f s) t;
      bounds_hold = λ q i. bounds_hold c.caller.scalars.value bs p.dims 1 q a.stands.constants i;
    }

pub rest_link_holds : RestLinkHolds
rest_link_holds c m e x y es bs ds p d k n a el dummy part =
    position_link c m e x y ds p d k (element_position c 1 es bs) (bounds_unless_lines (actual_bounds c bs) bs ds) (actual_bounds c bs) a.stands.last a.stands.within a.stands.filled dummy part (element_positioned c m x es bs ds p k a el) n

-- ---- a block

block_positioned : (m : Scene) (x : ℕ → ℤ) (p : Place) (o : ℕ) → p.dims ≡ record { low = pos 1; high = Some (pos p.extent) } ∷ [] → Positioned m x p o (block_position o) [] []
block_positioned m x p o e = record {
  total = λ h g f q st. ap (λ z. z +ℤ pos o) (block_value q o h g) ∙ (sums (q (Phi 1)) o (size_from (pos 1) (Some (pos p.extent))) ∙ sym (ap (λ (ds : List Dim). lin ds 1 (λ j. q (Phi j))) e));
  more_hold = λ q i. tt;
  more_back = λ h g f q t. subst (λ (ds : List Dim). Leading ds 1 (λ j. q (Phi j))) (sym e) tt;
  bounds_hold = λ q i. tt;
}
  where
    times_0 : (n : ℕ) → pos n *ℤ pos 0 ≡ pos 0
    times_0 n = let z : pos n *ℤ pos 0 ≡ pos (n * 0) = refl in let w : n * 0 ≡ 0 = omega arith in z ∙ ap pos w

    sums : (z : ℤ) (o s : ℕ) → ((z -ℤ pos 1) -ℤ pos o) +ℤ pos o ≡ (z -ℤ pos 1) +ℤ (pos s *ℤ pos 0)
    sums z o s = less z o ∙ ap (λ w. (z -ℤ pos 1) +ℤ w) (sym (times_0 s))
      where
        less : (z : ℤ) (o : ℕ) → ((z -ℤ pos 1) -ℤ pos o) +ℤ pos o ≡ (z -ℤ pos 1) +ℤ pos 0
        less z o = omega (arith, ints)

pub block_link_holds : BlockLinkHolds
block_link_holds c m e x y b ds p d o ep dummy part = go (equation (block_position o) (dummy_position c (length ds) 1 ds)) refl
  where
    size_is : (n : ℕ) → size_from (pos 1) (Some (pos n)) * 1 ≡ n
    size_is n = one n ∙ self n
      where
        counted : (n : ℕ) → (pos n -ℤ pos 1) +ℤ pos 1 ≡ pos n
        counted n = omega (arith, ints)

        one : (n : ℕ) → as_count ((pos n -ℤ pos 1) +ℤ pos 1) * 1 ≡ n * 1
        one n = ap (λ z. as_count z * 1) (counted n)

        self : (n : ℕ) → n * 1 ≡ n
        self n = omega arith

    total_is : total_size p.dims ≡ p.extent
    total_is = ap total_size ep ∙ size_is p.extent

    last : LastMayBeOpen p.dims
    last = subst LastMayBeOpen (sym ep) tt

    within : is_open p.dims ≡ false → p.extent ≤ total_size p.dims
    within h = let t = total_is in omega (arith, t)

    filled : 0 < p.extent → 0 < total_size p.dims
    filled h = let t = total_is in omega (arith, t, h)

    go : (w : Option Row) → equation (block_position o) (dummy_position c (length ds) 1 ds) ≡ w → LinkHolds m e x y (elements_of p) (elements_of d) (by_unit b (length ds) w)
    go None q = loose_link c m e x y ds p d o (block_position o) [] [] last within filled dummy part (block_positioned m x p o ep) (Whole b) (length ds)
    go (Some row) q = equal_link c m e x y ds p d o (block_position o) [] [] last within filled dummy part (block_positioned m x p o ep) (Whole b) row q

-- ---- dimension by dimension

-- equal sizes in all dimensions but the last
abbrev Alike : List Dim → List Dim → Type 0
Alike [] [] = Unit {0}
Alike [] (d ∷ ds) = ⊥
Alike (a ∷ as') [] = ⊥
Alike (a ∷ []) (d ∷ []) = Unit {0}
Alike (a ∷ []) (d ∷ (f ∷ ds)) = ⊥
Alike (a ∷ (b ∷ bs)) (d ∷ []) = ⊥
Alike (a ∷ (b ∷ bs)) (d ∷ (f ∷ ds)) = (dim_size a ≡ dim_size d) × Alike (b ∷ bs) (f ∷ ds)

-- equally far from the low bounds
abbrev Offsets : List Dim → List Dim → ℕ → (ℕ → ℤ) → (ℕ → ℤ) → Type 0
Offsets [] ds k phi psi = Unit {0}
Offsets (a ∷ as') [] k phi psi = Unit {0}
Offsets (a ∷ as') (d ∷ ds) k phi psi = (phi k -ℤ a.low ≡ psi k -ℤ d.low) × Offsets as' ds (suc k) phi psi

same_sum : (as' ds : List Dim) (k : ℕ) (phi psi : ℕ → ℤ) → Alike as' ds → Offsets as' ds k phi psi → lin as' k phi ≡ lin ds k psi
same_sum [] [] k phi psi al o = refl
same_sum [] (d ∷ ds) k phi psi al o = absurd al
same_sum (a ∷ as') [] k phi psi al o = absurd al
same_sum (a ∷ []) (d ∷ []) k phi psi al o = ends (phi k -ℤ a.low) (psi k -ℤ d.low) (dim_size a) (dim_size d) o.0
  where
    times_0 : (n : ℕ) → pos n *ℤ pos 0 ≡ pos 0
    times_0 n = let z : pos n *ℤ pos 0 ≡ pos (n * 0) = refl in let w : n * 0 ≡ 0 = omega arith in z ∙ ap pos w

    ends : (a b : ℤ) (s t : ℕ) → a ≡ b → a +ℤ (pos s *ℤ pos 0) ≡ b +ℤ (pos t *ℤ pos 0)
    ends a b s t e = ap₂ (λ u v. u +ℤ v) e (times_0 s ∙ sym (times_0 t))
same_sum (a ∷ []) (d ∷ (f ∷ ds)) k phi psi al o = absurd al
same_sum (a ∷ (b ∷ bs)) (d ∷ []) k phi psi al o = absurd al
same_sum (a ∷ (b ∷ bs)) (d ∷ (f ∷ ds)) k phi psi al o = ap₂ (λ u v. u +ℤ v) o.0 (ap₂ (λ s z. pos s *ℤ z) al.0 (same_sum (b ∷ bs) (f ∷ ds) (suc k) phi psi al.1 o.1))

same_leading : (as' ds : List Dim) (k : ℕ) (phi psi : ℕ → ℤ) → Alike as' ds → Offsets as' ds k phi psi → Leading ds k psi → Leading as' k phi
same_leading [] ds k phi psi al o l = tt
same_leading (a ∷ []) ds k phi psi al o l = tt
same_leading (a ∷ (b ∷ bs)) [] k phi psi al o l = absurd al
same_leading (a ∷ (b ∷ bs)) (d ∷ []) k phi psi al o l = absurd al
same_leading (a ∷ (b ∷ bs)) (d ∷ (f ∷ ds)) k phi psi al o l =
    (moves (phi k) (psi k) a.low d.low (dim_size a) (dim_size d) o.0 al.0 l.0, same_leading (b ∷ bs) (f ∷ ds) (suc k) phi psi al.1 o.1 l.1)
  where
    moves : (p q l m : ℤ) (s t : ℕ) → (p -ℤ l) ≡ (q -ℤ m) → s ≡ t → (m ≤ℤ q) × (((q -ℤ m) +ℤ pos 1) ≤ℤ pos t) → (l ≤ℤ p) × (((p -ℤ l) +ℤ pos 1) ≤ℤ pos s)
    moves p q l m s t g h i = let i0 = i.0 in let i1 = i.1 in (omega (arith, ints), omega (arith, ints))

-- the subscripts that are as far from these low bounds as others from theirs
abbrev shifted : List Dim → List Dim → ℕ → (ℕ → ℤ) → ℕ → ℤ
shifted [] ds k psi j = psi j
shifted (a ∷ as') [] k psi j = psi j
shifted (a ∷ as') (d ∷ ds) k psi j = if nat_eq j k then (psi k -ℤ d.low) +ℤ a.low else shifted as' ds (suc k) psi j

offsets_same : (as' ds : List Dim) (k : ℕ) (f g psi : ℕ → ℤ) → ((j : ℕ) → k ≤ j → g j ≡ f j) → Offsets as' ds k f psi → Offsets as' ds k g psi
offsets_same [] ds k f g psi h o = tt
offsets_same (a ∷ as') [] k f g psi h o = tt
offsets_same (a ∷ as') (d ∷ ds) k f g psi h o = (ap (λ z. z -ℤ a.low) (h k (omega arith)) ∙ o.0, offsets_same as' ds (suc k) f g psi (λ j l. h j (omega (arith, l))) o.1)

shifted_offsets : (as' ds : List Dim) (k : ℕ) (psi : ℕ → ℤ) → Offsets as' ds k (shifted as' ds k psi) psi
shifted_offsets [] ds k psi = tt
shifted_offsets (a ∷ as') [] k psi = tt
shifted_offsets (a ∷ as') (d ∷ ds) k psi = (
  ap (λ (b : Bool). (if b then (psi k -ℤ d.low) +ℤ a.low else shifted as' ds (suc k) psi k) -ℤ a.low) (nat_eq_same k) ∙ back (psi k) a.low d.low,
  offsets_same as' ds (suc k) (shifted as' ds (suc k) psi) (shifted (a ∷ as') (d ∷ ds) k psi) psi later (shifted_offsets as' ds (suc k) psi),
)
  where
    back : (p a d : ℤ) → ((p -ℤ d) +ℤ a) -ℤ a ≡ p -ℤ d
    back p a d = omega (arith, ints)

    later : (j : ℕ) → suc k ≤ j → shifted (a ∷ as') (d ∷ ds) k psi j ≡ shifted as' ds (suc k) psi j
    later j l = go (nat_eq j k) refl
      where
        go : (b : Bool) → nat_eq j k ≡ b → (if b then (psi k -ℤ d.low) +ℤ a.low else shifted as' ds (suc k) psi j) ≡ shifted as' ds (suc k) psi j
        go true q = absurd (grind (arith, nat_tests))
        go false q = refl

offsets_inner : (as' ds : List Dim) (k : ℕ) (phi psi chi : ℕ → ℤ) → ((j : ℕ) → k ≤ j → j < k + length ds → chi j ≡ psi j) → Offsets as' ds k phi psi → Offsets as' ds k phi chi
offsets_inner [] ds k phi psi chi h o = tt
offsets_inner (a ∷ as') [] k phi psi chi h o = tt
offsets_inner (a ∷ as') (d ∷ ds) k phi psi chi h o =
    (o.0 ∙ ap (λ z. z -ℤ d.low) (sym (h k (omega arith) (omega arith))), offsets_inner as' ds (suc k) phi psi chi (λ j l u. h j (omega (arith, l)) (omega (arith, u))) o.1)

module _ (c : SidesTree) (m e : Scene) (x y : ℕ → ℤ) (forms : FormsMean c m e x y) (r : ℕ) where
  -- a point of the caller
  abbrev start_point : Var → ℤ
  start_point (Cell n) = x (m.unit n)
  start_point (Exit n) = pos 0
  start_point (Phi n) = pos 0
  start_point (Aux n) = pos 0

  starts : AtStart m x start_point
  starts n t = refl

  entry : AtEntry e y (entry_point c m e x y forms)
  entry n = refl

  extent_is : (a d : BoundTree) (ad dd : Dim) → BoundMeans (actual_bound c) (AtStart m x) a ad → BoundMeans (dummy_bound c) (AtEntry e y) d dd → same_extent c a d ≡ true → dim_size ad ≡ dim_size dd
  extent_is a d ad dd f g h =
      let s = zero_same start_point (actual_extent c a) (dummy_extent c d) h in
      let one = less_value start_point (maybe_form (actual_bound c) a.high) (actual_bound c a.low) s.first s.is_first in
      let own = caller_value c m e x y forms start_point starts (less (maybe_form (dummy_bound c) d.high) (dummy_bound c d.low)) s.second s.is_second in
      let two = less_value (entry_point c m e x y forms) (maybe_form (dummy_bound c) d.high) (dummy_bound c d.low) own.own own.is_own in
      let ah = high_of (actual_bound c) (AtStart m x) a ad start_point starts f one.first one.is_first in
      let dh = high_of (dummy_bound c) (AtEntry e y) d dd (entry_point c m e x y forms) entry g two.first two.is_first in
      let al = f.low one.second one.is_second start_point starts in
      let dl = g.low two.second two.is_second (entry_point c m e x y forms) entry in
      let same = differences (form_value start_point one.first) (form_value start_point one.second) (form_value (entry_point c m e x y forms) two.first) (form_value (entry_point c m e x y forms) two.second) ad.low dd.low (form_value start_point s.first) (form_value start_point s.second) (form_value (entry_point c m e x y forms) own.own) one.total s.same own.same two.total al dl in
      ap (size_from ad.low) ah ∙ (ap as_count same ∙ sym (ap (size_from dd.low) dh))
    where
      high_of : (form : ExprTree → Option Affine) (P : Point → Type 0) (b : BoundTree) (dim : Dim) (q : Point) → P q → BoundMeans form P b dim → (h : Affine) → maybe_form form b.high ≡ Some h → dim.high ≡ Some (form_value q h)
      high_of form P b dim q at f h k = go b.high refl k
        where
          go : (w : Option ExprTree) → b.high ≡ w → maybe_form form w ≡ Some h → dim.high ≡ Some (form_value q h)
          go None i j = none_some h j
          go (Some a) i j = f.high a h i j q at

      differences : (ah al dh dl l n f g o : ℤ) → f ≡ ah -ℤ al → f ≡ g → g ≡ o → o ≡ dh -ℤ dl → al ≡ l → dl ≡ n → (ah -ℤ l) +ℤ pos 1 ≡ (dh -ℤ n) +ℤ pos 1
      differences ah al dh dl l n f g o e1 e2 e3 e4 e5 e6 = omega (arith, ints)

  record RowsAligned (k : ℕ) (as' es : List Dim) (rs : List Row) : Type 0 where
    alike : Alike as' es
    forward : (q : Point) → Matches m e r x y q → Offsets as' es k (λ j. q (Phi j)) (λ j. q (Aux j)) → HoldsAll q rs
    backward : (q : Point) → Matches m e r x y q → HoldsAll q rs → Offsets as' es k (λ j. q (Phi j)) (λ j. q (Aux j))

  -- the row of a dimension
  record RowAligned (k : ℕ) (a d : Dim) (row : Row) : Type 0 where
    forward : (q : Point) → Matches m e r x y q → (q (Phi k) -ℤ a.low ≡ q (Aux k) -ℤ d.low) → Holds q row
    backward : (q : Point) → Matches m e r x y q → Holds q row → q (Phi k) -ℤ a.low ≡ q (Aux k) -ℤ d.low

  row_aligned : (k : ℕ) (a d : BoundTree) (ad dd : Dim) (row : Row) → BoundMeans (actual_bound c) (AtStart m x) a ad → BoundMeans (dummy_bound c) (AtEntry e y) d dd → aligned_row c r k a d ≡ Some row → RowAligned k ad dd row
  row_aligned k a d ad dd row f g h =
      let w = equation_is (offset (Phi k) (actual_bound c a.low)) (offset (Aux k) (named_form r (dummy_bound c d.low))) row h in
      record {
        forward = λ q t i. w.forward q (outer q t w.first w.is_first ∙ (i ∙ sym (inner q t w.second w.is_second)));
        backward = λ q t i. sym (outer q t w.first w.is_first) ∙ (w.backward q i ∙ inner q t w.second w.is_second);
      }
    where
      outer : (q : Point) → Matches m e r x y q → (z : Affine) → offset (Phi k) (actual_bound c a.low) ≡ Some z → form_value q z ≡ q (Phi k) -ℤ ad.low
      outer q t z i =
          let o = offset_value q (Phi k) (actual_bound c a.low) z i in
          o.total ∙ ap (λ u. q (Phi k) -ℤ u) (f.low o.base o.is_base q t.outside)

      inner : (q : Point) → Matches m e r x y q → (z : Affine) → offset (Aux k) (named_form r (dummy_bound c d.low)) ≡ Some z → form_value q z ≡ q (Aux k) -ℤ dd.low
      inner q t z i =
          let o = offset_value q (Aux k) (named_form r (dummy_bound c d.low)) z i in
          let n = named_value r q (dummy_bound c d.low) o.base o.is_base in
          o.total ∙ ap (λ u. q (Aux k) -ℤ u) (n.same ∙ g.low n.own n.is_own (λ v. q (named r v)) t.inside)

  alike_more : (a t : Dim) (bs : List BoundTree) (as' es : List Dim) → EachDim (BoundMeans (actual_bound c) (AtStart m x)) bs as' → Alike as' es → (is_none_left bs ≡ false → dim_size a ≡ dim_size t) → Alike (a ∷ as') (t ∷ es)
  alike_more a t [] [] [] i o s = tt
  alike_more a t [] [] (w ∷ es) i o s = absurd o
  alike_more a t [] (z ∷ as') es i o s = absurd i
  alike_more a t (b ∷ bs) [] es i o s = absurd i
  alike_more a t (b ∷ bs) (z ∷ as') [] i o s = absurd o
  alike_more a t (b ∷ bs) (z ∷ as') (w ∷ es) i o s = (s refl, o)

  rows_aligned : (k : ℕ) (bs ds : List BoundTree) (as' es : List Dim) (rs : List Row) → EachDim (BoundMeans (actual_bound c) (AtStart m x)) bs as' → EachDim (BoundMeans (dummy_bound c) (AtEntry e y)) ds es → aligned_rows c r k bs ds ≡ Some rs → RowsAligned k as' es rs
  rows_aligned k [] [] [] [] rs f g h = record { alike = tt; forward = λ q t o. subst (HoldsAll q) (some_is [] rs h) tt; backward = λ q t i. tt }
  rows_aligned k [] [] [] (d ∷ es) rs f g h = absurd g
  rows_aligned k [] [] (a ∷ as') es rs f g h = absurd f
  rows_aligned k [] (d ∷ ds) as' es rs f g h = none_some rs h
  rows_aligned k (b ∷ bs) [] as' es rs f g h = none_some rs h
  rows_aligned k (b ∷ bs) (d ∷ ds) [] es rs f g h = absurd f
  rows_aligned k (b ∷ bs) (d ∷ ds) (a ∷ as') [] rs f g h = absurd g
  rows_aligned k (b ∷ bs) (d ∷ ds) (a ∷ as') (t ∷ es) rs f g h = go (is_none_left bs || same_extent c b d) refl h (λ rest j. rows_aligned (suc k) bs ds as' es rest f.1 g.1 j)
    where
      size : (is_none_left bs || same_extent c b d) ≡ true → is_none_left bs ≡ false → dim_size a ≡ dim_size t
      size i j = extent_is b d a t f.0 g.0 (sym (ap (λ z. z || same_extent c b d) j) ∙ i)

      two : (is_none_left bs || same_extent c b d) ≡ true → (o : Option Row) → aligned_row c r k b d ≡ o → (w : Option (List Row)) → aligned_rows c r (suc k) bs ds ≡ w → row_before o w ≡ Some rs → ((rest : List Row) → aligned_rows c r (suc k) bs ds ≡ Some rest → RowsAligned (suc k) as' es rest) → RowsAligned k (a ∷ as') (t ∷ es) rs
      two i None p w j q ih = none_some rs q
      two i (Some row) p None j q ih = none_some rs q
      two i (Some row) p (Some rest) j q ih =
          let first = row_aligned k b d a t row f.0 g.0 p in
          let more = ih rest j in
          let same = some_is (row ∷ rest) rs q in
          record {
            alike = alike_more a t bs as' es f.1 more.alike (size i);
            forward = λ z n o. subst (HoldsAll z) same (first.forward z n o.0, more.forward z n o.1);
            backward = λ z n u. let parts = subst (HoldsAll z) (sym same) u in (first.backward z n parts.0, more.backward z n parts.1);
          }

      go : (w : Bool) → (is_none_left bs || same_extent c b d) ≡ w → row_before (if w then aligned_row c r k b d else None) (aligned_rows c r (suc k) bs ds) ≡ Some rs → ((rest : List Row) → aligned_rows c r (suc k) bs ds ≡ Some rest → RowsAligned (suc k) as' es rest) → RowsAligned k (a ∷ as') (t ∷ es) rs
      go false i j ih = none_some rs j
      go true i j ih = two i (aligned_row c r k b d) refl (aligned_rows c r (suc k) bs ds) refl j ih

-- an element of the one is that of the other as far from the low bounds
moved_to : (p d : Place) → LastMayBeOpen p.dims → (is_open p.dims ≡ false → p.extent ≤ total_size p.dims) → LastMayBeOpen d.dims → IsPart p d 0 → Alike p.dims d.dims → (phi psi : ℕ → ℤ) (u : ℕ) → Offsets p.dims d.dims 1 phi psi → elements_of d psi ≡ Some u → elements_of p phi ≡ Some u
moved_to p d last within dlast part alike phi psi u o h =
    let k = element_of d psi u h in
    let b = placed d.dims 1 psi k.number k.is in
    let small : k.number < p.extent = smaller k.number k.small in
    let w = within_total p.dims k.number last (λ z. fits k.number small (within z)) in
    spot_is p phi k.number u (located p.dims 1 phi k.number last (same_leading p.dims d.dims 1 phi psi alike o (leading d.dims 1 psi dlast b.bounds)) w (same_sum p.dims d.dims 1 phi psi alike o ∙ b.sum)) small (unit k.number u k.unit)
  where
    smaller : (n : ℕ) → n < d.extent → n < p.extent
    smaller n l = let r = part.room in omega (arith, l, r)

    fits : (n : ℕ) → n < p.extent → p.extent ≤ total_size p.dims → n < total_size p.dims
    fits n l g = omega (arith, l, g)

    unit : (n u : ℕ) → d.first + n ≡ u → p.first + n ≡ u
    unit n u q = let f = part.first in omega (arith, q, f)

pub array_link_holds : ArrayLinkHolds
array_link_holds c m e x y bs ds p d n forms a dummy part = go (aligned_rows c (length ds) 1 bs ds) refl
  where
    move : Alike p.dims d.dims → (phi psi : ℕ → ℤ) (u : ℕ) → Offsets p.dims d.dims 1 phi psi → elements_of d psi ≡ Some u → elements_of p phi ≡ Some u
    move al phi psi u o h = moved_to p d a.stands.last a.stands.within dummy.stands.last part al phi psi u o h

    upto : (j : ℕ) → j < 1 + length d.dims → j < 1 + length ds
    upto j t = subst (λ k. j < 1 + k) (sym (same_length (ConstantsFit c.callee.scalars.value) ds d.dims dummy.stands.constants)) t

    aligned : (rs : List Row) → aligned_rows c (length ds) 1 bs ds ≡ Some rs → LinkHolds m e x y (elements_of p) (elements_of d) (link (Own n) (length ds) true rs true)
    aligned rs q =
        let w = rows_aligned c m e x y forms (length ds) 1 bs ds p.dims d.dims rs a.bounds dummy.bounds q in
        record {
          to = λ phi u h. shifted p.dims d.dims 1 phi;
          there = λ phi u h. move w.alike (shifted p.dims d.dims 1 phi) phi u (shifted_offsets p.dims d.dims 1 phi) h;
          stays = λ k phi u h j. absurd (true≢false k);
          holds = λ phi u h z t b g. w.forward z t
              (offsets_inner p.dims d.dims 1 (λ j. z (Phi j)) phi (λ j. z (Aux j)) (λ j l k. g j (own_subscript (length ds) j l (upto j k)))
              (offsets_same p.dims d.dims 1 (shifted p.dims d.dims 1 phi) (λ j. z (Phi j)) phi (λ j l. b j) (shifted_offsets p.dims d.dims 1 phi)));
          back = λ ex z t h u s. move w.alike (λ j. z (Phi j)) (λ j. z (Aux j)) u (w.backward z t h) s;
        }

    go : (w : Option (List Row)) → aligned_rows c (length ds) 1 bs ds ≡ w → LinkHolds m e x y (elements_of p) (elements_of d) (aligned_or n (length ds) w (whole_by_position c n bs ds))
    go (Some rs) q = aligned rs q
    go None q = position_link c m e x y ds p d 0 (whole_position c 1 bs) (actual_bounds c bs) (actual_bounds c bs) a.stands.last a.stands.within a.stands.filled dummy part (whole_positioned c m x bs p a) n
