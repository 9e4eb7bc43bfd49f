-- The equation between the units of a block and the elements of a variable in it holds of both (ANSI X3.9-1978 §5.2.4, §8.3).
use Rattle.std.proofs.Common.{◌≡◌, ℕ, suc, ◌+◌, ◌*◌, ◌<◌, List, [], ◌∷◌, Option, Some, None, false, refl, sym, ap, ap₂, ◌∙◌, subst, arith, ℤ, pos, ◌+ℤ◌, ◌-ℤ◌, ◌*ℤ◌, true≢false}
use Rattle.std.proofs.lemmas.Int.{ints}
use Rattle.affine_systems.specs.declared.row.Row.{Row}
use Rattle.affine_systems.specs.declared.row.Var.TheVariants.{Phi, Aux}
use Rattle.affine_systems.specs.Points.{Point, HoldsAll}
use Rattle.f77_ast.specs.Places.{Dim, Place, size_from, dim_size, total_size}
use Rattle.f77_ast.specs.declared.constant.Constant.{Constant}
use Rattle.f77_ast.specs.declared.constant.Constant.TheVariants.{Int, Log}
use Rattle.f77_ast.specs.declared.constant.ConstantValue.{ConstantValue}
use Rattle.f77_ast.specs.declared.constant.ConstantValue.TheVariants.{Is, Faults, Varies}
use Rattle.f77_ast.specs.Constants.{const_value}
use Rattle.f77_ast.specs.declared.variable.Variable.{Variable}
use Rattle.f77_ast.specs.Symbols.{BoundTree}
use Rattle.affine_forms.specs.declared.affine.Affine.{Affine}
use Rattle.affine_forms.specs.Forms.{affine, limited}
use Rattle.affine_forms.specs.Claims.{form_value}
use Rattle.affine_forms.specs.Comparisons.{var_form}
use Rattle.preconditions.specs.transformer_algebra.Claims.{Scene}
use Rattle.in_out_regions.specs.region_sets.Claims.{HasSubscripts}
use Rattle.in_out_regions.specs.call_equations.Rows.{constant_form}
use Rattle.in_out_regions.specs.call_equations.Forms.{zero as zero_form, offset, equation}
use Rattle.in_out_regions.specs.call_equations.Positions.{number_in, high_number, size_between, size_of, sum_with}
use Rattle.in_out_regions.specs.region_translation.Claims.{elements_of, ConstantsFit, EachDim, LastMayBeOpen}
use Rattle.in_out_regions.proofs.RegionTranslation.FormLaws.{equation_is, sum_value, offset_value, number_value}
use Rattle.in_out_regions.proofs.RegionTranslation.ArrayLaws.{lin, Filled, Within, placed, located, within_total, filled_of, digits, digits_are}
use Rattle.in_out_regions.proofs.RegionTranslation.ElementLaws.{element_of, spot_is}
use Rattle.in_out_regions.specs.region_translation.Links.{by_row}
use Rattle.in_out_regions.specs.region_translation.Units.{element_place, unit_place}
use Rattle.in_out_regions.specs.region_translation.CalleeClaims.{MatchesBoth, HasOuter, HasUnit, LinkHolds}
use Rattle.in_out_regions.proofs.RegionTranslation.PositionLaws.{size_is, last_sum}
use Rattle.fx_lists.proofs.Numbers.{times_0}
use Rattle.fx_lists.proofs.Options.{some_is, none_some}
use Rattle.affine_forms.proofs.RowValues.{var_value}

-- ---- the place of an element, by constant bounds

module _ (value : List ℕ → Option Constant) (q : Point) where
  constant_value : (b : BoundTree) (d : Dim) (f : Affine) → ConstantsFit value b d → constant_form (const_value value b.low) ≡ Some f → form_value q f ≡ d.low
  constant_value b d f fit e = go (const_value value b.low) refl e
    where
      number : (n : ℤ) → form_value q (affine [] n) ≡ n
      number n = one n
        where
          one : (n : ℤ) → pos 0 +ℤ n ≡ n
          one n = omega (arith, ints)

      go : (w : ConstantValue) → const_value value b.low ≡ w → constant_form w ≡ Some f → form_value q f ≡ d.low
      go (Is (Int n)) g i = ap (form_value q) (sym (some_is (affine [] n) f i)) ∙ (number n ∙ sym (fit.low n (ap number_in g)))
      go (Is (Log v)) g i = none_some f i
      go Faults g i = none_some f i
      go Varies g i = none_some f i

  low_value : (k : ℕ) (b : BoundTree) (d : Dim) (h : Affine) → ConstantsFit value b d → offset (Phi k) (constant_form (const_value value b.low)) ≡ Some h → form_value q h ≡ q (Phi k) -ℤ d.low
  low_value k b d h fit g = (let o = offset_value q (Phi k) (constant_form (const_value value b.low)) h g in o.total ∙ ap (λ z. q (Phi k) -ℤ z) (constant_value b d o.base fit o.is_base))

  zero_value : (h : Affine) → Some zero_form ≡ Some h → form_value q h ≡ pos 0
  zero_value h e = sym (ap (form_value q) (some_is zero_form h e))

  place_value : (k : ℕ) (bs : List BoundTree) (ds : List Dim) (h : Affine) → EachDim (ConstantsFit value) bs ds → Filled ds → element_place value false k bs ≡ Some h → form_value q h ≡ lin ds k (λ j. q (Phi j))
  place_value k [] [] h s l g = zero_value h g
  place_value k [] (d ∷ ds) h s l g = absurd s
  place_value k (b ∷ bs) [] h s l g = absurd s
  place_value k (b ∷ []) (d ∷ []) h s l g = last_sum (form_value q h) (q (Phi k) -ℤ d.low) (dim_size d) (low_value k b d h s.0 g)
  place_value k (b ∷ []) (d ∷ (d2 ∷ ds)) h s l g = absurd s.1
  place_value k (b ∷ (b2 ∷ bs)) (d ∷ []) h s l g = absurd s.1
  place_value k (b ∷ (b2 ∷ bs)) (d ∷ (d2 ∷ ds)) h s l g = go (size_of value b) refl g (λ z i. place_value (suc k) (b2 ∷ bs) (d2 ∷ ds) z s.1 l.1 i)
    where
      go : (w : Option ℤ) → size_of value b ≡ w → sum_with (offset (Phi k) (constant_form (const_value value b.low))) w (element_place value false (suc k) (b2 ∷ bs)) ≡ Some h →
          ((z : Affine) → element_place value false (suc k) (b2 ∷ bs) ≡ Some z → form_value q z ≡ lin (d2 ∷ ds) (suc k) (λ j. q (Phi j))) → form_value q h ≡ lin (d ∷ (d2 ∷ ds)) k (λ j. q (Phi j))
      go None i j ih = none_some h j
      go (Some n) i j ih =
          let t = sum_value q (offset (Phi k) (constant_form (const_value value b.low))) n (element_place value false (suc k) (b2 ∷ bs)) h j in
          t.total ∙ ap₂ (λ a z. a +ℤ z) (low_value k b d t.first s.0 t.is_first)
          (ap₂ (λ a z. a *ℤ z) (size_is value b d n s.0 i l.0) (ih t.second t.is_second))

  -- the unit of the block, from 1
  unit_value : (o : ℕ) (bs : List BoundTree) (ds : List Dim) (h : Affine) → EachDim (ConstantsFit value) bs ds → Filled ds → unit_place value false o bs ≡ Some h → form_value q h ≡ pos (suc o) +ℤ lin ds 1 (λ j. q (Phi j))
  unit_value o bs ds h s l g =
      let t = sum_value q (limited (affine [] (pos (suc o)))) (pos 1) (element_place value false 1 bs) h g in
      both (form_value q h) (form_value q t.first) (form_value q t.second) (pos (suc o)) (lin ds 1 (λ j. q (Phi j))) t.total (number_value q (pos (suc o)) t.first t.is_first) (place_value 1 bs ds t.second s l t.is_second)
    where
      both : (h a b c d : ℤ) → h ≡ a +ℤ (pos 1 *ℤ b) → a ≡ c → b ≡ d → h ≡ c +ℤ d
      both h a b c d e f g = omega (arith, ints)

-- ---- elements by their numbers

-- of a variable with as many elements as units
pub number_there : (d : Place) (n u : ℕ) → LastMayBeOpen d.dims → d.extent ≡ total_size d.dims → n < d.extent → d.first + n ≡ u → HasUnit (elements_of d) u
number_there d n u last sizes l e =
    let full : 0 < total_size d.dims = omega (arith, sizes, l) in
    let w : Within d.dims n = within_total d.dims n last (λ o. omega (arith, sizes, l)) in
    let g = digits_are d.dims 1 n (filled_of d.dims full) w in
    record { subscripts = digits d.dims 1 n; there = spot_is d (digits d.dims 1 n) n u (located d.dims 1 (digits d.dims 1 n) n last g.leads w g.sum) l e }

-- ---- the equation

-- p is the block, d the variable, o units behind its first
pub common_link_holds : (m e : Scene) (x y : ℕ → ℤ) (value : List ℕ → Option Constant) (bs : List BoundTree) (p d : Place) (o : ℕ) (v : Variable) → p.dims ≡ record { low = pos 1; high = Some (pos p.extent) } ∷ [] → EachDim (ConstantsFit value) bs d.dims → d.extent ≡ total_size d.dims → d.first ≡ p.first + o →
    LinkHolds m e 1 x y (elements_of p) (elements_of d) (by_row v (equation (Some (var_form (Aux 1))) (unit_place value false o bs)))
common_link_holds m e x y value bs p d o v line fits sizes first = go (equation (Some (var_form (Aux 1))) (unit_place value false o bs)) refl
  where
    -- the number of a unit of the block
    outer_number : (phi : ℕ → ℤ) (n : ℕ) → lin p.dims 1 phi ≡ pos n → phi 1 ≡ pos (suc n)
    outer_number phi n s =
        let size = size_from (pos 1) (Some (pos p.extent)) in
        let flat : lin (record { low = pos 1; high = Some (pos p.extent) } ∷ []) 1 phi ≡ pos n = subst (λ (ds : List Dim). lin ds 1 phi ≡ pos n) line s in
        let zero' = times_0 size in
        back (phi 1) (pos size *ℤ pos 0) n flat zero'
      where
        back : (a z : ℤ) (n : ℕ) → (a -ℤ pos 1) +ℤ z ≡ pos n → z ≡ pos 0 → a ≡ pos (suc n)
        back a z n e f = omega (arith, ints)

    same_unit : (a b u : ℕ) → p.first + a ≡ u → d.first + b ≡ u → a ≡ o + b
    same_unit a b u f g = omega (arith, first, f, g)

    some_element : (n : ℕ) → n < d.extent → Filled d.dims
    some_element n l = filled_of d.dims (omega (arith, sizes, l))

    holds : (row : Row) → equation (Some (var_form (Aux 1))) (unit_place value false o bs) ≡ Some row → (phi : ℕ → ℤ) (u : ℕ) (h : elements_of p phi ≡ Some u) (w : HasUnit (elements_of d) u) (q : Point) → MatchesBoth m e 1 x y q → HasSubscripts w.subscripts q → HasOuter (by_row v (Some row)) 1 phi q → HoldsAll q (row ∷ [])
    holds row is phi u h w q both hs ho =
        let eq = equation_is (Some (var_form (Aux 1))) (unit_place value false o bs) row is in
        let a = element_of p phi u h in
        let c = element_of d w.subscripts u w.there in
        let outer = outer_number phi a.number (placed p.dims 1 phi a.number a.is).sum in
        let inner : lin d.dims 1 (λ j. q (Phi j)) ≡ pos c.number = subst (λ (f : ℕ → ℤ). lin d.dims 1 f ≡ pos c.number) (λ i j. sym (hs j) i) (placed d.dims 1 w.subscripts c.number c.is).sum in
        let one : form_value q eq.first ≡ q (Aux 1) = ap (form_value q) (sym (some_is (var_form (Aux 1)) eq.first eq.is_first)) ∙ var_value q (Aux 1) in
        let two = unit_value value q o bs d.dims eq.second fits (some_element c.number c.small) eq.is_second in
        (eq.forward q (meet (form_value q eq.first) (form_value q eq.second) (q (Aux 1)) (phi 1) (lin d.dims 1 (λ j. q (Phi j))) o a.number c.number one (ho 1 refl) outer two inner (same_unit a.number c.number u a.unit c.unit)), tt)
      where
        meet : (f g a b i : ℤ) (o n k : ℕ) → f ≡ a → a ≡ b → b ≡ pos (suc n) → g ≡ pos (suc o) +ℤ i → i ≡ pos k → n ≡ o + k → f ≡ g
        meet f g a b i o n k e1 e2 e3 e4 e5 e6 = omega (arith, ints)

    go : (w : Option Row) → equation (Some (var_form (Aux 1))) (unit_place value false o bs) ≡ w → LinkHolds m e 1 x y (elements_of p) (elements_of d) (by_row v w)
    go None is = record { to = λ phi u h w. w.subscripts; there = λ phi u h w. w.there; stays = λ k phi u h w i. absurd (true≢false k); holds = λ phi u h w q both hs ho. tt }
    go (Some row) is = record { to = λ phi u h w. w.subscripts; there = λ phi u h w. w.there; stays = λ k phi u h w i. absurd (true≢false k); holds = holds row is }
