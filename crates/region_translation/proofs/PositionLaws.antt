-- The forms of the places of elements have the places as values.
use Rattle.std.proofs.Common.{◌≡◌, ℕ, suc, ◌*◌, ◌<◌, List, [], ◌∷◌, Option, Some, None, refl, sym, ap, ap₂, ◌∙◌, subst, arith, ℤ, pos, negsuc, ◌+ℤ◌, ◌-ℤ◌, ◌*ℤ◌, ◌≤ℤ◌}
use Rattle.std.proofs.lemmas.Int.{ints}
use Rattle.affine_systems.specs.declared.row.Var.TheVariants.{Phi, Aux}
use Rattle.affine_systems.specs.Points.{Point, value as value_of, HoldsAll}
use Rattle.affine_systems.proofs.Basics.{distributes}
use Rattle.affine_systems.proofs.CallLaws.{append_all}
use Rattle.affine_systems.proofs.ElimLaws.{value-combined}
use Rattle.f77_ast.specs.Trees.{ExprTree, ExprTrees}
use Rattle.f77_ast.specs.Trees as tree
use Rattle.f77_ast.specs.Places.{Dim, as_count, size_from, dim_size}
use Rattle.f77_ast.specs.declared.constant.Constant.{Constant}
use Rattle.f77_ast.specs.declared.constant.Constant.TheVariants.{Int, Log}
use Rattle.f77_ast.specs.declared.constant.ConstantValue.{ConstantValue}
use Rattle.f77_ast.specs.declared.constant.ConstantValue.TheVariants.{Is, Faults, Varies}
use Rattle.f77_ast.specs.Constants.{const_value}
use Rattle.f77_ast.specs.Symbols.{BoundTree}
use Rattle.affine_forms.specs.declared.affine.Affine.{Affine}
use Rattle.affine_forms.specs.Forms.{affine, affine_of, limited}
use Rattle.affine_forms.specs.Claims.{form_value}
use Rattle.affine_forms.specs.Comparisons.{var_form, difference, at_most_row}
use Rattle.call_translation.specs.transformer_algebra.Claims.{Scene, AtStart, Means}
use Rattle.call_equations.specs.Sides.{SidesTree}
use Rattle.call_equations.specs.Rows.{constant_form, low_rows, high_rows, high_form, bound_rows, bounds_rows}
use Rattle.call_equations.specs.Forms.{zero as zero_form, offset}
use Rattle.call_equations.specs.Cells.{named, named_form, actual_bound, dummy_bound}
use Rattle.call_equations.specs.Positions.{number_in, high_number, size_between, size_of, sum_with, whole_position, element_position, dummy_position, block_position}
use Rattle.region_translation.specs.Claims.{Matches, ConstantsFit, BoundMeans, EachDim, AtEntry}
use Rattle.region_translation.proofs.FormLaws.{sum_value, offset_value, named_value, number_value}
use Rattle.region_translation.proofs.ArrayLaws.{lin, InSize, Leading, Filled}
use Rattle.region_translation.proofs.ElementLaws.{Reads, Subscripted, no_more, one_more}
use Rattle.fx_lists.proofs.Numbers.{times_0}
use Rattle.fx_lists.proofs.Options.{some_is, none_some}
use Rattle.affine_forms.proofs.RowValues.{var_value}

-- ---- sizes

pub count_is : (w : ℤ) → 0 < as_count w → pos (as_count w) ≡ w
count_is (pos n) h = refl
count_is (negsuc n) h = absurd (omega (arith, h))

pub size_is : (value : List ℕ → Option Constant) (b : BoundTree) (d : Dim) (n : ℤ) → ConstantsFit value b d → size_of value b ≡ Some n → 0 < dim_size d → n ≡ pos (dim_size d)
size_is value b d n f e h = go (number_in (const_value value b.low)) refl (high_number value b.high) refl e
  where
    go : (l : Option ℤ) → number_in (const_value value b.low) ≡ l → (u : Option ℤ) → high_number value b.high ≡ u → size_between l u ≡ Some n → n ≡ pos (dim_size d)
    go None g u k q = none_some n q
    go (Some l) g None k q = none_some n q
    go (Some l) g (Some u) k q =
        let s : dim_size d ≡ as_count ((u -ℤ l) +ℤ pos 1) = ap₂ (λ (a : ℤ) (o : Option ℤ). size_from a o) (f.low l g) (f.high u k) in
        sym (some_is ((u -ℤ l) +ℤ pos 1) n q) ∙ (sym (count_is ((u -ℤ l) +ℤ pos 1) (subst (λ j. 0 < j) s h)) ∙ ap pos (sym s))

pub last_sum : (a b : ℤ) (n : ℕ) → a ≡ b → a ≡ b +ℤ (pos n *ℤ pos 0)
last_sum a b n e = e ∙ (plus b ∙ ap (λ z. b +ℤ z) (sym (times_0 n)))
  where
    plus : (b : ℤ) → b ≡ b +ℤ pos 0
    plus b = omega (arith, ints)

zero_value : (q : Point) (h : Affine) → Some zero_form ≡ Some h → form_value q h ≡ pos 0
zero_value q h e = sym (ap (form_value q) (some_is zero_form h e))

-- the leading dimensions have constant bounds
abbrev pub Sized : (List ℕ → Option Constant) → List BoundTree → Type 0
Sized value [] = Unit {0}
Sized value (b ∷ []) = Unit {0}
Sized value (b ∷ (a ∷ bs)) = ((n : ℤ) × (size_of value b ≡ Some n)) × Sized value (a ∷ bs)

-- ---- the callee's array

module _ (c : SidesTree) (m e : Scene) (x y : ℕ → ℤ) (r : ℕ) (q : Point) (both : Matches m e r x y q) where
  at_entry : AtEntry e y (λ v. q (named r v))
  at_entry n = both.inside n

  low_value : (k : ℕ) (b : BoundTree) (d : Dim) (h : Affine) → BoundMeans (dummy_bound c) (AtEntry e y) b d → offset (Aux k) (named_form r (dummy_bound c b.low)) ≡ Some h → form_value q h ≡ q (Aux k) -ℤ d.low
  low_value k b d h f g =
      let o = offset_value q (Aux k) (named_form r (dummy_bound c b.low)) h g in
      let n = named_value r q (dummy_bound c b.low) o.base o.is_base in
      o.total ∙ ap (λ z. q (Aux k) -ℤ z) (n.same ∙ f.low n.own n.is_own (λ v. q (named r v)) at_entry)

  pub dummy_value : (k : ℕ) (bs : List BoundTree) (ds : List Dim) (h : Affine) → EachDim (ConstantsFit c.callee.scalars.value) bs ds → EachDim (BoundMeans (dummy_bound c) (AtEntry e y)) bs ds → Filled ds → dummy_position c r k bs ≡ Some h → form_value q h ≡ lin ds k (λ j. q (Aux j))
  dummy_value k [] [] h s f l g = zero_value q h g
  dummy_value k [] (d ∷ ds) h s f l g = absurd s
  dummy_value k (b ∷ bs) [] h s f l g = absurd s
  dummy_value k (b ∷ []) (d ∷ []) h s f l g = last_sum (form_value q h) (q (Aux k) -ℤ d.low) (dim_size d) (low_value k b d h f.0 g)
  dummy_value k (b ∷ []) (d ∷ (d2 ∷ ds)) h s f l g = absurd s.1
  dummy_value k (b ∷ (b2 ∷ bs)) (d ∷ []) h s f l g = absurd s.1
  dummy_value k (b ∷ (b2 ∷ bs)) (d ∷ (d2 ∷ ds)) h s f l g = go (size_of c.callee.scalars.value b) refl g (λ z i. dummy_value (suc k) (b2 ∷ bs) (d2 ∷ ds) z s.1 f.1 l.1 i)
    where
      go : (w : Option ℤ) → size_of c.callee.scalars.value b ≡ w → sum_with (offset (Aux k) (named_form r (dummy_bound c b.low))) w (dummy_position c r (suc k) (b2 ∷ bs)) ≡ Some h →
          ((z : Affine) → dummy_position c r (suc k) (b2 ∷ bs) ≡ Some z → form_value q z ≡ lin (d2 ∷ ds) (suc k) (λ j. q (Aux j))) → form_value q h ≡ lin (d ∷ (d2 ∷ ds)) k (λ j. q (Aux j))
      go None i j ih = none_some h j
      go (Some n) i j ih =
          let t = sum_value q (offset (Aux k) (named_form r (dummy_bound c b.low))) n (dummy_position c r (suc k) (b2 ∷ bs)) h j in
          t.total ∙ ap₂ (λ a z. a +ℤ z) (low_value k b d t.first f.0 t.is_first)
          (ap₂ (λ a z. a *ℤ z) (size_is c.callee.scalars.value b d n s.0 i l.0) (ih t.second t.is_second))

-- ---- the caller's array

module _ (c : SidesTree) (m : Scene) (x : ℕ → ℤ) (q : Point) (st : AtStart m x q) where
  actual_low : (k : ℕ) (b : BoundTree) (d : Dim) (h : Affine) → BoundMeans (actual_bound c) (AtStart m x) b d → offset (Phi k) (actual_bound c b.low) ≡ Some h → form_value q h ≡ q (Phi k) -ℤ d.low
  actual_low k b d h f g =
      let o = offset_value q (Phi k) (actual_bound c b.low) h g in
      o.total ∙ ap (λ z. q (Phi k) -ℤ z) (f.low o.base o.is_base q st)

  pub whole_value : (k : ℕ) (bs : List BoundTree) (ds : List Dim) (h : Affine) → EachDim (ConstantsFit c.caller.scalars.value) bs ds → EachDim (BoundMeans (actual_bound c) (AtStart m x)) bs ds → Filled ds → whole_position c k bs ≡ Some h → form_value q h ≡ lin ds k (λ j. q (Phi j))
  whole_value k [] [] h s f l g = zero_value q h g
  whole_value k [] (d ∷ ds) h s f l g = absurd s
  whole_value k (b ∷ bs) [] h s f l g = absurd s
  whole_value k (b ∷ []) (d ∷ []) h s f l g = last_sum (form_value q h) (q (Phi k) -ℤ d.low) (dim_size d) (actual_low k b d h f.0 g)
  whole_value k (b ∷ []) (d ∷ (d2 ∷ ds)) h s f l g = absurd s.1
  whole_value k (b ∷ (b2 ∷ bs)) (d ∷ []) h s f l g = absurd s.1
  whole_value k (b ∷ (b2 ∷ bs)) (d ∷ (d2 ∷ ds)) h s f l g = go (size_of c.caller.scalars.value b) refl g (λ z i. whole_value (suc k) (b2 ∷ bs) (d2 ∷ ds) z s.1 f.1 l.1 i)
    where
      go : (w : Option ℤ) → size_of c.caller.scalars.value b ≡ w → sum_with (offset (Phi k) (actual_bound c b.low)) w (whole_position c (suc k) (b2 ∷ bs)) ≡ Some h →
          ((z : Affine) → whole_position c (suc k) (b2 ∷ bs) ≡ Some z → form_value q z ≡ lin (d2 ∷ ds) (suc k) (λ j. q (Phi j))) → form_value q h ≡ lin (d ∷ (d2 ∷ ds)) k (λ j. q (Phi j))
      go None i j ih = none_some h j
      go (Some n) i j ih =
          let t = sum_value q (offset (Phi k) (actual_bound c b.low)) n (whole_position c (suc k) (b2 ∷ bs)) h j in
          t.total ∙ ap₂ (λ a z. a +ℤ z) (actual_low k b d t.first f.0 t.is_first)
          (ap₂ (λ a z. a *ℤ z) (size_is c.caller.scalars.value b d n s.0 i l.0) (ih t.second t.is_second))

  -- from an element on, whose subscripts are those of base
  base_value : (k : ℕ) (a : ExprTree) (n : ℤ) (h : Affine) → Means m (affine_of c.caller.scalars a) x n → offset (Phi k) (affine_of c.caller.scalars a) ≡ Some h → form_value q h ≡ q (Phi k) -ℤ n
  base_value k a n h v g =
      let o = offset_value q (Phi k) (affine_of c.caller.scalars a) h g in
      o.total ∙ ap (λ z. q (Phi k) -ℤ z) (subst (λ (w : Option Affine). Means m w x n) o.is_base v q st)

  last_of : (a p b n l z : ℤ) → a ≡ p -ℤ n → b ≡ n → a +ℤ ((b -ℤ l) +ℤ z) ≡ (p -ℤ l) +ℤ z
  last_of a p b n l z e f = omega (arith, ints)

  pub element_value : (k : ℕ) (es : ExprTrees) (ns : List ℤ) (bs : List BoundTree) (ds : List Dim) (h : Affine) (base : ℕ → ℤ) → Subscripted c m x es ns bs ds → Reads k ns base → Filled ds → element_position c k es bs ≡ Some h → form_value q h +ℤ lin ds k base ≡ lin ds k (λ j. q (Phi j))
  element_value k es ns bs ds h base no_more r l g = ap (λ z. z +ℤ pos 0) (zero_value q h g)
  element_value k es ns bs ds h base (one_more {a = a} {n = n} {b = b} {d = d} v f i no_more) r l g = last_of (form_value q h) (q (Phi k)) (base k) n d.low (pos (dim_size d) *ℤ pos 0) (base_value k a n h v g) r.0
  element_value k es ns bs ds h base (one_more {a = a} {n = n} {b = b} {d = d} v f i (one_more {a = a2} {n = n2} {b = b2} {d = d2} {es = es2} {ns = ns2} {bs = bs2} {ds = ds2} v2 f2 i2 s2)) r l g =
      go (size_of c.caller.scalars.value b) refl g (λ w j. element_value (suc k) (tree.more_exprs a2 es2) (n2 ∷ ns2) (b2 ∷ bs2) (d2 ∷ ds2) w base (one_more v2 f2 i2 s2) r.1 l.1 j)
    where
      together : (a p b n l z u w s t : ℤ) → a ≡ p -ℤ n → b ≡ n → s ≡ u +ℤ w → t ≡ a +ℤ u → t +ℤ ((b -ℤ l) +ℤ w) ≡ (p -ℤ l) +ℤ s
      together a p b n l z u w s t e f g i = omega (arith, ints)

      go : (w : Option ℤ) → size_of c.caller.scalars.value b ≡ w → sum_with (offset (Phi k) (affine_of c.caller.scalars a)) w (element_position c (suc k) (tree.more_exprs a2 es2) (b2 ∷ bs2)) ≡ Some h →
          ((w : Affine) → element_position c (suc k) (tree.more_exprs a2 es2) (b2 ∷ bs2) ≡ Some w → form_value q w +ℤ lin (d2 ∷ ds2) (suc k) base ≡ lin (d2 ∷ ds2) (suc k) (λ j. q (Phi j))) →
          form_value q h +ℤ lin (d ∷ (d2 ∷ ds2)) k base ≡ lin (d ∷ (d2 ∷ ds2)) k (λ j. q (Phi j))
      go None p j rec = none_some h j
      go (Some z) p j rec =
          let t = sum_value q (offset (Phi k) (affine_of c.caller.scalars a)) z (element_position c (suc k) (tree.more_exprs a2 es2) (b2 ∷ bs2)) h j in
          let ih = rec t.second t.is_second in
          let size = size_is c.caller.scalars.value b d z f p l.0 in
          let rest = distributes (pos (dim_size d)) (form_value q t.second) (lin (d2 ∷ ds2) (suc k) base) in
          let s : pos (dim_size d) *ℤ lin (d2 ∷ ds2) (suc k) (λ i. q (Phi i)) ≡ (pos (dim_size d) *ℤ form_value q t.second) +ℤ (pos (dim_size d) *ℤ lin (d2 ∷ ds2) (suc k) base) = ap (λ w. pos (dim_size d) *ℤ w) (sym ih) ∙ rest in
          together (form_value q t.first) (q (Phi k)) (base k) n d.low z (pos (dim_size d) *ℤ form_value q t.second) (pos (dim_size d) *ℤ lin (d2 ∷ ds2) (suc k) base) (pos (dim_size d) *ℤ lin (d2 ∷ ds2) (suc k) (λ i. q (Phi i))) (form_value q h)
          (base_value k a n t.first v t.is_first) r.0 s (t.total ∙ ap (λ w. form_value q t.first +ℤ (w *ℤ form_value q t.second)) size)

-- ---- constant bounds of the leading dimensions

pub whole_sized : (c : SidesTree) (k : ℕ) (bs : List BoundTree) (h : Affine) → whole_position c k bs ≡ Some h → Sized c.caller.scalars.value bs
whole_sized c k [] h g = tt
whole_sized c k (b ∷ []) h g = tt
whole_sized c k (b ∷ (b2 ∷ bs)) h g = go (size_of c.caller.scalars.value b) refl g (λ z i. whole_sized c (suc k) (b2 ∷ bs) z i)
  where
    pt : Point
    pt v = pos 0

    go : (w : Option ℤ) → size_of c.caller.scalars.value b ≡ w → sum_with (offset (Phi k) (actual_bound c b.low)) w (whole_position c (suc k) (b2 ∷ bs)) ≡ Some h →
        ((z : Affine) → whole_position c (suc k) (b2 ∷ bs) ≡ Some z → Sized c.caller.scalars.value (b2 ∷ bs)) → ((n : ℤ) × (size_of c.caller.scalars.value b ≡ Some n)) × Sized c.caller.scalars.value (b2 ∷ bs)
    go None i j ih = none_some h j
    go (Some n) i j ih =
        let t = sum_value pt (offset (Phi k) (actual_bound c b.low)) n (whole_position c (suc k) (b2 ∷ bs)) h j in
        ((n, i), ih t.second t.is_second)

pub element_sized : (c : SidesTree) (k : ℕ) (es : ExprTrees) (bs : List BoundTree) (h : Affine) → element_position c k es bs ≡ Some h → Sized c.caller.scalars.value bs
element_sized c k es [] h g = tt
element_sized c k es (b ∷ []) h g = tt
element_sized c k tree.no_exprs (b ∷ (b2 ∷ bs)) h g = none_some h g
element_sized c k (tree.more_exprs a es) (b ∷ (b2 ∷ bs)) h g = go (size_of c.caller.scalars.value b) refl g (λ z i. element_sized c (suc k) es (b2 ∷ bs) z i)
  where
    pt : Point
    pt v = pos 0

    go : (w : Option ℤ) → size_of c.caller.scalars.value b ≡ w → sum_with (offset (Phi k) (affine_of c.caller.scalars a)) w (element_position c (suc k) es (b2 ∷ bs)) ≡ Some h →
        ((z : Affine) → element_position c (suc k) es (b2 ∷ bs) ≡ Some z → Sized c.caller.scalars.value (b2 ∷ bs)) → ((n : ℤ) × (size_of c.caller.scalars.value b ≡ Some n)) × Sized c.caller.scalars.value (b2 ∷ bs)
    go None i j ih = none_some h j
    go (Some n) i j ih =
        let t = sum_value pt (offset (Phi k) (affine_of c.caller.scalars a)) n (element_position c (suc k) es (b2 ∷ bs)) h j in
        ((n, i), ih t.second t.is_second)

-- a row of a constant bound, read back
at_most_back : (f g : Affine) (q : Point) → HoldsAll q (at_most_row f g ∷ []) → form_value q f ≤ℤ form_value q g
at_most_back f g q h = sums (value_of q f.terms) f.constant (value_of q g.terms) g.constant (value_of q (difference f g)) (value-combined q (pos 1) f.terms (negsuc 0) g.terms) h.0
  where
    sums : (a b x y d : ℤ) → d ≡ (pos 1 *ℤ a) +ℤ (negsuc 0 *ℤ x) → d ≤ℤ (y -ℤ b) → (a +ℤ b) ≤ℤ (x +ℤ y)
    sums a b x y d e k = omega (arith, ints)

bound_back : (value : List ℕ → Option Constant) (b : BoundTree) (d : Dim) (n : ℤ) (k : ℕ) (q : Point) → ConstantsFit value b d → size_of value b ≡ Some n → 0 < dim_size d → HoldsAll q (bound_rows value b k) → InSize d (q (Phi k))
bound_back value b d n k q f e z h = go (const_value value b.low) refl b.high refl parts.0 parts.1 e
  where
    parts : HoldsAll q (low_rows (constant_form (const_value value b.low)) k) × HoldsAll q (high_rows (high_form value b.high) k)
    parts = (append_all q (low_rows (constant_form (const_value value b.low)) k) (high_rows (high_form value b.high) k)).1 h

    within : (l u : ℤ) → d.low ≡ l → d.high ≡ Some u → l ≤ℤ q (Phi k) → q (Phi k) ≤ℤ u → InSize d (q (Phi k))
    within l u e g a t =
        let s : pos (dim_size d) ≡ (u -ℤ l) +ℤ pos 1 = ap pos (ap₂ (λ (i : ℤ) (o : Option ℤ). size_from i o) e g) ∙ count_is ((u -ℤ l) +ℤ pos 1) (subst (λ j. 0 < j) (ap₂ (λ (i : ℤ) (o : Option ℤ). size_from i o) e g) z) in
        (first d.low l (q (Phi k)) e a, second d.low l u (q (Phi k)) (pos (dim_size d)) e s t)
      where
        first : (a l p : ℤ) → a ≡ l → l ≤ℤ p → a ≤ℤ p
        first a l p e h = omega (arith, ints)

        second : (a l u p s : ℤ) → a ≡ l → s ≡ (u -ℤ l) +ℤ pos 1 → p ≤ℤ u → ((p -ℤ a) +ℤ pos 1) ≤ℤ s
        second a l u p s e f h = omega (arith, ints)

    number : (n : ℤ) → form_value q (affine [] n) ≡ n
    number n = one n
      where
        one : (n : ℤ) → pos 0 +ℤ n ≡ n
        one n = omega (arith, ints)

    low_back : (l : ℤ) → HoldsAll q (at_most_row (affine [] l) (var_form (Phi k)) ∷ []) → l ≤ℤ q (Phi k)
    low_back l g = le (form_value q (affine [] l)) l (form_value q (var_form (Phi k))) (q (Phi k)) (number l) (var_value q (Phi k)) (at_most_back (affine [] l) (var_form (Phi k)) q g)
      where
        le : (a l w p : ℤ) → a ≡ l → w ≡ p → a ≤ℤ w → l ≤ℤ p
        le a l w p e f h = omega (arith, ints)

    high_back : (u : ℤ) → HoldsAll q (at_most_row (var_form (Phi k)) (affine [] u) ∷ []) → q (Phi k) ≤ℤ u
    high_back u g = le (form_value q (affine [] u)) u (form_value q (var_form (Phi k))) (q (Phi k)) (number u) (var_value q (Phi k)) (at_most_back (var_form (Phi k)) (affine [] u) q g)
      where
        le : (a l w p : ℤ) → a ≡ l → w ≡ p → w ≤ℤ a → p ≤ℤ l
        le a l w p e f h = omega (arith, ints)

    high_of : (l : ℤ) → d.low ≡ l → l ≤ℤ q (Phi k) → (a : ExprTree) → b.high ≡ Some a → (w : ConstantValue) → const_value value a ≡ w → HoldsAll q (high_rows (constant_form w) k) → size_between (Some l) (number_in w) ≡ Some n → InSize d (q (Phi k))
    high_of l e a t g (Is (Int u)) i j s = within l u e (f.high u (ap (high_number value) g ∙ ap number_in i)) a (high_back u j)
    high_of l e a t g (Is (Log v)) i j s = none_some n s
    high_of l e a t g Faults i j s = none_some n s
    high_of l e a t g Varies i j s = none_some n s

    go : (w : ConstantValue) → const_value value b.low ≡ w → (o : Option ExprTree) → b.high ≡ o → HoldsAll q (low_rows (constant_form w) k) → HoldsAll q (high_rows (high_form value o) k) → size_between (number_in w) (high_number value o) ≡ Some n → InSize d (q (Phi k))
    go (Is (Int l)) i None g lo hi s = none_some n s
    go (Is (Int l)) i (Some a) g lo hi s = high_of l (f.low l (ap number_in i)) (low_back l lo) a g (const_value value a) refl hi s
    go (Is (Log v)) i o g lo hi s = none_some n s
    go Faults i o g lo hi s = none_some n s
    go Varies i o g lo hi s = none_some n s

pub leading_back : (value : List ℕ → Option Constant) (bs : List BoundTree) (ds : List Dim) (k : ℕ) (q : Point) → EachDim (ConstantsFit value) bs ds → Sized value bs → Filled ds → HoldsAll q (bounds_rows value k bs) → Leading ds k (λ j. q (Phi j))
leading_back value [] [] k q f s l h = tt
leading_back value [] (d ∷ ds) k q f s l h = absurd f
leading_back value (b ∷ bs) [] k q f s l h = absurd f
leading_back value (b ∷ []) (d ∷ []) k q f s l h = tt
leading_back value (b ∷ []) (d ∷ (d2 ∷ ds)) k q f s l h = absurd f.1
leading_back value (b ∷ (b2 ∷ bs)) (d ∷ []) k q f s l h = absurd f.1
leading_back value (b ∷ (b2 ∷ bs)) (d ∷ (d2 ∷ ds)) k q f s l h =
    let parts = (append_all q (bound_rows value b k) (bounds_rows value (suc k) (b2 ∷ bs))).1 h in
    (bound_back value b d s.0.0 k q f.0 s.0.1 l.0 parts.0, leading_back value (b2 ∷ bs) (d2 ∷ ds) (suc k) q f.1 s.1 l.1 parts.1)

-- ---- the units of a block

pub block_value : (q : Point) (o : ℕ) (h : Affine) → block_position o ≡ Some h → form_value q h ≡ (q (Phi 1) -ℤ pos 1) -ℤ pos o
block_value q o h g =
    let t = offset_value q (Phi 1) (limited (affine [] (pos (suc o)))) h g in
    t.total ∙ (ap (λ z. q (Phi 1) -ℤ z) (number_value q (pos (suc o)) t.base t.is_base) ∙ less (q (Phi 1)) o)
  where
    less : (p : ℤ) (o : ℕ) → p -ℤ pos (suc o) ≡ (p -ℤ pos 1) -ℤ pos o
    less p o = omega (arith, ints)
