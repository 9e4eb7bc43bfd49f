-- Elements by their numbers, links between variables that have the same elements, and an element for a scalar.
use Rattle.std.proofs.Common.{◌≡◌, ℕ, suc, ◌+◌, ◌<◌, ◌≤◌, List, [], ◌∷◌, Option, Some, None, Bool, true, false, refl, sym, ap, ◌∙◌, subst, arith, ℤ, pos, ◌≤ℤ◌, nat_lt, nat_eq, true≢false}
use Rattle.std.specs.Prelude.{if◌then◌else◌, option_map, is_some}
use Rattle.std.proofs.lemmas.Int.{ints}
use Rattle.std.proofs.lemmas.Bool.{and_parts}
use Rattle.std.proofs.lemmas.Bool.Decides.{nat_tests}
use Rattle.affine_systems.specs.declared.row.Var.TheVariants.{Phi, Aux}
use Rattle.affine_systems.specs.Points.{Point, HoldsAll}
use Rattle.affine_systems.proofs.CallLaws.{append_all}
use Rattle.f77_ast.specs.Trees.{ExprTree, ExprTrees}
use Rattle.f77_ast.specs.Trees as tree
use Rattle.f77_ast.specs.Places.{Dim, Place, dim_has, in_column, position, within, element_in}
use Rattle.f77_ast.specs.declared.constant.Constant.{Constant}
use Rattle.f77_ast.specs.declared.constant.Constant.TheVariants.{Int, Log}
use Rattle.f77_ast.specs.declared.constant.ConstantValue.{ConstantValue}
use Rattle.f77_ast.specs.declared.constant.ConstantValue.TheVariants.{Is, Faults, Varies}
use Rattle.f77_ast.specs.Constants.{const_value}
use Rattle.f77_ast.specs.Symbols.{BoundTree}
use Rattle.affine_forms.specs.declared.affine.Affine.{Affine}
use Rattle.affine_forms.specs.Forms.{affine, affine_of}
use Rattle.affine_forms.specs.Claims.{form_value}
use Rattle.affine_forms.specs.Comparisons.{var_form}
use Rattle.affine_forms.proofs.RowLaws.{at_most_holds, same_holds}
use Rattle.call_translation.specs.transformer_algebra.Claims.{Scene, AtStart, Means}
use Rattle.region_sets.specs.Claims.{HasSubscripts}
use Rattle.call_equations.specs.Sides.{SidesTree}
use Rattle.call_equations.specs.Rows.{constant_form, low_rows, high_rows, high_form, bound_rows, dimension_rows, subscript_rows, all_affine, bounds_rows}
use Rattle.call_equations.specs.Positions.{number_in, high_number}
use Rattle.region_translation.specs.Claims.{elements_of, ConstantsFit, EachDim, SubscriptsMean}
use Rattle.region_translation.specs.Laws.{SameElementsHold, ScalarLinkHolds, ElementLinkHolds}
use Rattle.region_translation.proofs.ArrayLaws.{none_some, in_dim, InDim, BelowHigh, InDims, place_in, unit_in, elements_are}
use Rattle.fx_lists.proofs.Numbers.{nat_eq_same}
use Rattle.fx_lists.proofs.Booleans.{clash as clashes}
use Rattle.affine_forms.proofs.RowValues.{same_back, var_value, constant_value}
use Rattle.fx_lists.proofs.Options.{some_is}

-- ---- elements by their numbers

pub record Element (p : Place) (phi : ℕ → ℤ) (u : ℕ) : Type 0 where
  pub number : ℕ
  pub small : number < p.extent
  pub is : place_in p.dims 1 phi ≡ Some number
  pub unit : p.first + number ≡ u

pub element_of : (p : Place) (phi : ℕ → ℤ) (u : ℕ) → elements_of p phi ≡ Some u → Element p phi u
element_of p phi u e = go (place_in p.dims 1 phi) refl (sym (elements_are p phi) ∙ e)
  where
    one : (n : ℕ) → place_in p.dims 1 phi ≡ Some n → (b : Bool) → nat_lt n p.extent ≡ b → option_map (λ j. p.first + j) (if b then Some n else None) ≡ Some u → Element p phi u
    one n f true g h = record { number = n; small = grind (arith, nat_tests); is = f; unit = some_is (p.first + n) u h }
    one n f false g h = absurd (none_some u h)

    go : (w : Option ℕ) → place_in p.dims 1 phi ≡ w → unit_in p w ≡ Some u → Element p phi u
    go None f h = absurd (none_some u h)
    go (Some n) f h = one n f (nat_lt n p.extent) refl h

pub spot_is : (p : Place) (phi : ℕ → ℤ) (n u : ℕ) → place_in p.dims 1 phi ≡ Some n → n < p.extent → p.first + n ≡ u → elements_of p phi ≡ Some u
spot_is p phi n u e l h =
    elements_are p phi ∙ (ap (unit_in p) e ∙ (ap (λ (b : Bool). option_map (λ j. p.first + j) (if b then Some n else None)) (lt n p.extent l) ∙ ap (λ (k : ℕ). Some k) h))
  where
    lt : (a b : ℕ) → a < b → nat_lt a b ≡ true
    lt a b l = grind (arith, nat_tests)

-- ---- the same elements

pub same_elements_hold : SameElementsHold
same_elements_hold m e x y outer inner f v = record {
  to = λ phi u h. phi;
  there = λ phi u h. f phi u h;
  stays = λ q phi u h k. refl;
  holds = λ phi u h q a b d. tt;
  back = λ ex q a h u s. f (λ k. q (Phi k)) u s;
}

-- ---- scalars

flat_place : (p : Place) (phi : ℕ → ℤ) → p.dims ≡ [] → place_in p.dims 1 phi ≡ Some 0
flat_place p phi e = ap (λ (ds : List Dim). place_in ds 1 phi) e

-- the one element of a scalar
flat_unit : (d : Place) (psi : ℕ → ℤ) (u : ℕ) → d.dims ≡ [] → elements_of d psi ≡ Some u → d.first ≡ u
flat_unit d psi u e h =
    let k = element_of d psi u h in
    let z : 0 ≡ k.number = some_is 0 k.number (sym (flat_place d psi e) ∙ k.is) in
    no_more d.first k.number u z k.unit
  where
    no_more : (a n u : ℕ) → 0 ≡ n → a + n ≡ u → a ≡ u
    no_more a n u z e = omega (arith, z, e)

pub scalar_link_holds : ScalarLinkHolds
scalar_link_holds m e x y p d ep ed solid first n = record {
  to = λ phi u h. phi;
  there = λ phi u h. there phi phi u h;
  stays = λ q phi u h k. refl;
  holds = λ phi u h q a b g. tt;
  back = λ ex q a h u s. there (λ k. q (Phi k)) (λ k. q (Aux k)) u s;
}
  where
    plus_0 : (a b u : ℕ) → b ≡ a → b ≡ u → a + 0 ≡ u
    plus_0 a b u e f = omega (arith, e, f)

    there : (phi psi : ℕ → ℤ) (u : ℕ) → elements_of d psi ≡ Some u → elements_of p phi ≡ Some u
    there phi psi u h = spot_is p phi 0 u (flat_place p phi ep) solid (plus_0 p.first d.first u first (flat_unit d psi u ed h))

-- ---- subscripts

-- the first of them is that of the j-th dimension
abbrev pub phi_from : List ℤ → ℕ → ℕ → ℤ
phi_from [] j i = pos 0
phi_from (n ∷ ns) j i = if nat_eq i j then n else phi_from ns (suc j) i

-- subscripts with these numbers, from the k-th on
abbrev pub Reads : ℕ → List ℤ → (ℕ → ℤ) → Type 0
Reads k [] phi = Unit {0}
Reads k (n ∷ ns) phi = (phi k ≡ n) × Reads (suc k) ns phi

reads_same : (k : ℕ) (ns : List ℤ) (f g : ℕ → ℤ) → ((j : ℕ) → k ≤ j → g j ≡ f j) → Reads k ns f → Reads k ns g
reads_same k [] f g h r = tt
reads_same k (n ∷ ns) f g h r = (h k (omega arith) ∙ r.0, reads_same (suc k) ns f g (λ j l. h j (omega (arith, l))) r.1)

pub reads_from : (k : ℕ) (ns : List ℤ) → Reads k ns (phi_from ns k)
reads_from k [] = tt
reads_from k (n ∷ ns) = (ap (λ (b : Bool). if b then n else phi_from ns (suc k) k) (nat_eq_same k), reads_same (suc k) ns (phi_from ns (suc k)) (phi_from (n ∷ ns) k) later (reads_from (suc k) ns))
  where
    later : (j : ℕ) → suc k ≤ j → phi_from (n ∷ ns) k j ≡ phi_from ns (suc k) j
    later j l = go (nat_eq j k) refl
      where
        go : (b : Bool) → nat_eq j k ≡ b → (if b then n else phi_from ns (suc k) j) ≡ phi_from ns (suc k) j
        go true q = absurd (grind (arith, nat_tests))
        go false q = refl

pub reads_place : (ds : List Dim) (ns : List ℤ) (k : ℕ) (phi : ℕ → ℤ) (w : ℕ) → position ds ns ≡ Some w → Reads k ns phi → place_in ds k phi ≡ Some w
reads_place [] [] k phi w e r = e
reads_place [] (n ∷ ns) k phi w e r = absurd (none_some w e)
reads_place (d ∷ ds) [] k phi w e r = absurd (none_some w e)
reads_place (d ∷ ds) (n ∷ ns) k phi w e r = go (dim_has d n) refl e (position ds ns) refl (λ j q. reads_place ds ns (suc k) phi j q r.1)
  where
    go : (b : Bool) → dim_has d n ≡ b → (if b then in_column d n (position ds ns) else None) ≡ Some w → (o : Option ℕ) → position ds ns ≡ o → ((j : ℕ) → position ds ns ≡ Some j → place_in ds (suc k) phi ≡ Some j) → place_in (d ∷ ds) k phi ≡ Some w
    go false f q o g ih = absurd (none_some w q)
    go true f q None g ih = absurd (none_some w (sym (ap (in_column d n) g) ∙ q))
    go true f q (Some j) g ih =
        ap (λ (z : ℤ). if dim_has d z then in_column d z (place_in ds (suc k) phi) else None) r.0
        ∙ (ap (λ (b : Bool). if b then in_column d n (place_in ds (suc k) phi) else None) f
        ∙ (ap (in_column d n) (ih j g) ∙ (sym (ap (in_column d n) g) ∙ q)))

-- subscripts of an element, with their forms, bounds and dimensions
pub data Subscripted (c : SidesTree) (m : Scene) (x : ℕ → ℤ) : ExprTrees → List ℤ → List BoundTree → List Dim → Type 0 where
  no_more : Subscripted c m x tree.no_exprs [] [] []
  one_more : {a : ExprTree} {n : ℤ} {b : BoundTree} {d : Dim} {es : ExprTrees} {ns : List ℤ} {bs : List BoundTree} {ds : List Dim} →
      Means m (affine_of c.caller.scalars a) x n → ConstantsFit c.caller.scalars.value b d → dim_has d n ≡ true →
      Subscripted c m x es ns bs ds → Subscripted c m x (tree.more_exprs a es) (n ∷ ns) (b ∷ bs) (d ∷ ds)

pub subscripted : (c : SidesTree) (m : Scene) (x : ℕ → ℤ) (es : ExprTrees) (ns : List ℤ) (bs : List BoundTree) (ds : List Dim) (w : ℕ) →
    SubscriptsMean c.caller.scalars m x es ns → EachDim (ConstantsFit c.caller.scalars.value) bs ds → position ds ns ≡ Some w → Subscripted c m x es ns bs ds
subscripted c m x tree.no_exprs [] [] [] w v f e = no_more
subscripted c m x tree.no_exprs [] [] (d ∷ ds) w v f e = absurd f
subscripted c m x tree.no_exprs [] (b ∷ bs) [] w v f e = absurd f
subscripted c m x tree.no_exprs [] (b ∷ bs) (d ∷ ds) w v f e = absurd (none_some w e)
subscripted c m x tree.no_exprs (n ∷ ns) bs ds w v f e = absurd v
subscripted c m x (tree.more_exprs a es) [] bs ds w v f e = absurd v
subscripted c m x (tree.more_exprs a es) (n ∷ ns) [] [] w v f e = absurd (none_some w e)
subscripted c m x (tree.more_exprs a es) (n ∷ ns) [] (d ∷ ds) w v f e = absurd f
subscripted c m x (tree.more_exprs a es) (n ∷ ns) (b ∷ bs) [] w v f e = absurd f
subscripted c m x (tree.more_exprs a es) (n ∷ ns) (b ∷ bs) (d ∷ ds) w v f e = go (dim_has d n) refl e (position ds ns) refl (λ j q. subscripted c m x es ns bs ds j v.1 f.1 q)
  where
    go : (g : Bool) → dim_has d n ≡ g → (if g then in_column d n (position ds ns) else None) ≡ Some w → (o : Option ℕ) → position ds ns ≡ o → ((j : ℕ) → position ds ns ≡ Some j → Subscripted c m x es ns bs ds) → Subscripted c m x (tree.more_exprs a es) (n ∷ ns) (b ∷ bs) (d ∷ ds)
    go false i q o k ih = absurd (none_some w q)
    go true i q None k ih = absurd (none_some w (sym (ap (in_column d n) k) ∙ q))
    go true i q (Some j) k ih = one_more v.0 f.0 i (ih j k)

-- ---- constant bounds

low_holds : (value : List ℕ → Option Constant) (b : BoundTree) (d : Dim) (k : ℕ) (q : Point) → ConstantsFit value b d → d.low ≤ℤ q (Phi k) → HoldsAll q (low_rows (constant_form (const_value value b.low)) k)
low_holds value b d k q f l = go (const_value value b.low) refl
  where
    go : (w : ConstantValue) → const_value value b.low ≡ w → HoldsAll q (low_rows (constant_form w) k)
    go (Is (Int n)) e = (at_most_holds (affine [] n) (var_form (Phi k)) q (below (form_value q (affine [] n)) n d.low (q (Phi k)) (form_value q (var_form (Phi k))) (constant_value q n) (f.low n (ap number_in e)) (var_value q (Phi k)) l), tt)
      where
        below : (a n d z w : ℤ) → a ≡ n → d ≡ n → w ≡ z → d ≤ℤ z → a ≤ℤ w
        below a n d z w e f g h = omega (arith, ints)
    go (Is (Log t)) e = tt
    go Faults e = tt
    go Varies e = tt

high_holds : (value : List ℕ → Option Constant) (b : BoundTree) (d : Dim) (k : ℕ) (q : Point) → ConstantsFit value b d → BelowHigh (q (Phi k)) d.high → HoldsAll q (high_rows (high_form value b.high) k)
high_holds value b d k q f l = go b.high refl
  where
    above : (a n z w : ℤ) → a ≡ n → w ≡ z → z ≤ℤ n → w ≤ℤ a
    above a n z w e f h = omega (arith, ints)

    one : (a : ExprTree) → b.high ≡ Some a → (w : ConstantValue) → const_value value a ≡ w → HoldsAll q (high_rows (constant_form w) k)
    one a g (Is (Int n)) e =
        let h : d.high ≡ Some n = f.high n (ap (high_number value) g ∙ ap number_in e) in
        let i : q (Phi k) ≤ℤ n = subst (BelowHigh (q (Phi k))) h l in
        (at_most_holds (var_form (Phi k)) (affine [] n) q (above (form_value q (affine [] n)) n (q (Phi k)) (form_value q (var_form (Phi k))) (constant_value q n) (var_value q (Phi k)) i), tt)
    one a g (Is (Log t)) e = tt
    one a g Faults e = tt
    one a g Varies e = tt

    go : (o : Option ExprTree) → b.high ≡ o → HoldsAll q (high_rows (high_form value o) k)
    go None g = tt
    go (Some a) g = one a g (const_value value a) refl

pub bound_holds : (value : List ℕ → Option Constant) (b : BoundTree) (d : Dim) (k : ℕ) (q : Point) → ConstantsFit value b d → InDim d (q (Phi k)) → HoldsAll q (bound_rows value b k)
bound_holds value b d k q f i = (append_all q (low_rows (constant_form (const_value value b.low)) k) (high_rows (high_form value b.high) k)).0 (low_holds value b d k q f i.0, high_holds value b d k q f i.1)

pub bounds_hold : (value : List ℕ → Option Constant) (bs : List BoundTree) (ds : List Dim) (k : ℕ) (q : Point) → EachDim (ConstantsFit value) bs ds → InDims ds k (λ j. q (Phi j)) → HoldsAll q (bounds_rows value k bs)
bounds_hold value [] [] k q f i = tt
bounds_hold value [] (d ∷ ds) k q f i = absurd f
bounds_hold value (b ∷ bs) [] k q f i = absurd f
bounds_hold value (b ∷ bs) (d ∷ ds) k q f i = (append_all q (bound_rows value b k) (bounds_rows value (suc k) bs)).0 (bound_holds value b d k q f.0 i.0, bounds_hold value bs ds (suc k) q f.1 i.1)

-- ---- an element for a scalar

module _ (c : SidesTree) (m : Scene) (x : ℕ → ℤ) where
  rows_hold : (es : ExprTrees) (ns : List ℤ) (bs : List BoundTree) (ds : List Dim) → Subscripted c m x es ns bs ds → (k : ℕ) (q : Point) → AtStart m x q → Reads k ns (λ j. q (Phi j)) → HoldsAll q (subscript_rows c.caller k es bs)
  rows_hold es ns bs ds no_more k q st r = tt
  rows_hold es ns bs ds (one_more {a = a} {n = n} {b = b} {d = d} {es = es'} {ns = ns'} {bs = bs'} {ds = ds'} v f h s) k q st r =
      (append_all q (dimension_rows c.caller.scalars.value (affine_of c.caller.scalars a) b k) (subscript_rows c.caller (suc k) es' bs')).0
      (one (affine_of c.caller.scalars a) v, rows_hold es' ns' bs' ds' s (suc k) q st r.1)
    where
      one : (o : Option Affine) → Means m o x n → HoldsAll q (dimension_rows c.caller.scalars.value o b k)
      one (Some g) w = (same_holds (var_form (Phi k)) g q (var_value q (Phi k) ∙ (r.0 ∙ sym (w q st))), tt)
      one None w = bound_holds c.caller.scalars.value b d k q f (subst (InDim d) (sym r.0) (in_dim d n h))

  rows_back : (es : ExprTrees) (ns : List ℤ) (bs : List BoundTree) (ds : List Dim) → Subscripted c m x es ns bs ds → (k : ℕ) (q : Point) → AtStart m x q → all_affine c.caller es bs ≡ true → HoldsAll q (subscript_rows c.caller k es bs) → Reads k ns (λ j. q (Phi j))
  rows_back es ns bs ds no_more k q st e h = tt
  rows_back es ns bs ds (one_more {a = a} {n = n} {b = b} {d = d} {es = es'} {ns = ns'} {bs = bs'} {ds = ds'} v f i s) k q st e h =
      let all = and_parts (is_some (affine_of c.caller.scalars a)) (all_affine c.caller es' bs') e in
      let parts = (append_all q (dimension_rows c.caller.scalars.value (affine_of c.caller.scalars a) b k) (subscript_rows c.caller (suc k) es' bs')).1 h in
      (one (affine_of c.caller.scalars a) v all.0 parts.0, rows_back es' ns' bs' ds' s (suc k) q st all.1 parts.1)
    where
      one : (o : Option Affine) → Means m o x n → is_some o ≡ true → HoldsAll q (dimension_rows c.caller.scalars.value o b k) → q (Phi k) ≡ n
      one (Some g) w t j = sym (var_value q (Phi k)) ∙ (same_back (var_form (Phi k)) g q j.0 ∙ w q st)
      one None w t j = clashes false t refl

pub in_extent : (p : Place) (ns : List ℤ) (k : ℕ) → element_in p ns ≡ Some k → (position p.dims ns ≡ Some k) × (k < p.extent)
in_extent p ns k e = go (position p.dims ns) refl e
  where
    one : (n : ℕ) → position p.dims ns ≡ Some n → (b : Bool) → nat_lt n p.extent ≡ b → (if b then Some n else None) ≡ Some k → (position p.dims ns ≡ Some k) × (k < p.extent)
    one n f true g h =
        let same = some_is n k h in
        let l : n < p.extent = grind (arith, nat_tests) in
        (f ∙ ap (λ (j : ℕ). Some j) same, subst (λ j. j < p.extent) same l)
    one n f false g h = absurd (none_some k h)

    go : (w : Option ℕ) → position p.dims ns ≡ w → within p w ≡ Some k → (position p.dims ns ≡ Some k) × (k < p.extent)
    go None f h = absurd (none_some k h)
    go (Some n) f h = one n f (nat_lt n p.extent) refl h

reads_at : (base : ℕ → ℤ) (q : Point) → HasSubscripts base q → (j : ℕ) (ms : List ℤ) → Reads j ms base → Reads j ms (λ i. q (Phi i))
reads_at base q b j [] r = tt
reads_at base q b j (z ∷ ms) r = (b j ∙ r.0, reads_at base q b (suc j) ms r.1)

pub element_link_holds : ElementLinkHolds
element_link_holds c m e x y es bs p d k n stands el ed first =
    let ns = el.subscripts in
    let base = phi_from ns 1 in
    let found = in_extent p ns k el.there in
    let subs = subscripted c m x es ns bs p.dims k el.values stands.stands.constants found.0 in
    record {
      to = λ phi u h. base;
      there = λ phi u h. spot_is p base k u (reads_place p.dims ns 1 base k found.0 (reads_from 1 ns)) found.1 (sym first ∙ flat_unit d phi u ed h);
      stays = λ q phi u h j. absurd (true≢false q);
      holds = λ phi u h q a b g. rows_hold c m x es ns bs p.dims subs 1 q a.outside (reads_at base q b 1 ns (reads_from 1 ns));
      back = λ ex q a h u s. spot_is p (λ j. q (Phi j)) k u (reads_place p.dims ns 1 (λ j. q (Phi j)) k found.0 (rows_back c m x es ns bs p.dims subs 1 q a.outside ex h)) found.1 (sym first ∙ flat_unit d (λ j. q (Aux j)) u ed s);
    }
