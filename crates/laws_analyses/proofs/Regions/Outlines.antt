-- Arrays of both modules of a CALL, as the laws of the translation of regions ask.
use Rattle.std.proofs.Common.{◌≡◌, ℕ, zero, suc, ◌+◌, ◌<◌, ◌≤◌, ℤ, pos, ◌+ℤ◌, ◌*ℤ◌, List, [], ◌∷◌, map, Option, Some, None, Bool, true, false, ◌&&◌, refl, sym, ap, ◌∙◌, subst, arith, nat_eq, nat_lt}
use Rattle.std.specs.Prelude.{if◌then◌else◌, not, is_some, option_map}
use Rattle.std.proofs.lemmas.Bool.{and_parts, not-true}
use Rattle.std.proofs.lemmas.Bool.Decides.{nat_tests}
use Rattle.std.proofs.lemmas.Int.{ints}
use Rattle.affine_systems.specs.declared.row.Var.{Var}
use Rattle.affine_systems.specs.declared.row.Var.TheVariants.{Cell, Exit, Phi, Aux}
use Rattle.affine_systems.specs.declared.row.Term.{Term}
use Rattle.affine_systems.specs.Points.{Point, value}
use Rattle.f77_ast.specs.Trees.{ExprTree}
use Rattle.f77_ast.specs.Places.{Dim, Place, total_size, within, position}
use Rattle.f77_ast.specs.Calls.{is_open}
use Rattle.f77_ast.specs.declared.constant.Constant.{Constant}
use Rattle.f77_ast.specs.declared.constant.Constant.TheVariants.{Int, Log}
use Rattle.f77_ast.specs.declared.constant.ConstantValue.{ConstantValue}
use Rattle.f77_ast.specs.declared.constant.ConstantValue.TheVariants.{Is, Faults, Varies}
use Rattle.f77_ast.specs.Constants.{const_value}
use Rattle.f77_ast.specs.Symbols.{BoundTree}
use Rattle.f77_meaning.specs.Modules.{bound_of}
use Rattle.affine_forms.specs.declared.affine.Affine.{Affine}
use Rattle.affine_systems.specs.Normal.{is_small, are_small}
use Rattle.affine_forms.specs.Forms.{affine_of, number_form, limited, affine}
use Rattle.affine_forms.specs.Scalars.{Scalars}
use Rattle.affine_forms.specs.Claims.{form_value, AtStart, Means}
use Rattle.affine_forms.proofs.FormSteps.{affine_constant}
use Rattle.preconditions.specs.transformer_algebra.Claims.{Scene}
use Rattle.preconditions.specs.transformer_algebra.Cells.{has}
use Rattle.in_out_regions.specs.call_equations.Sides.{SidesTree}
use Rattle.in_out_regions.specs.call_equations.Cells.{actual_bound, dummy_bound}
use Rattle.in_out_regions.specs.call_equations.Forms.{is_among, lack, unless_among}
use Rattle.in_out_regions.specs.call_equations.Positions.{number_in, high_number}
use Rattle.in_out_regions.specs.region_translation.Claims.{ConstantsFit, BoundMeans, EachDim, IsClosed, LastMayBeOpen, AtEntry}
use Rattle.in_out_regions.specs.region_translation.Claims as translation
use Rattle.laws_analyses.specs.Regions.Claims.{listed_from, listed, elements_of}
use Rattle.laws_analyses.specs.Regions.Settings.{DimsFit}
use Rattle.laws_analyses.specs.Regions.Programs.{OpenLast, ConstantsAre}
use Rattle.laws_analyses.proofs.Regions.Arrays.{ArrayIs, HighMeans, BoundsMean}

-- ---- elements

listed_same : (k n : ℕ) (phi : ℕ → ℤ) → listed_from k n phi ≡ translation.listed_from k n phi
listed_same k zero phi = refl
listed_same k (suc n) phi = ap (λ ns. phi k ∷ ns) (listed_same (suc k) n phi)

pub elements_are : (p : Place) (phi : ℕ → ℤ) → elements_of p phi ≡ translation.elements_of p phi
elements_are p phi = ap (λ ns. option_map (λ k. p.first + k) (within p (position p.dims ns))) (listed_same 1 _ phi)

within_some : (p : Place) (o : Option ℕ) (u : ℕ) → option_map (λ k. p.first + k) (within p o) ≡ Some u → (j : ℕ) × (j < p.extent) × (p.first + j ≡ u)
within_some p None u e = cc
within_some p (Some k) u e = go (nat_lt k p.extent) refl e
  where
    go : (b : Bool) → nat_lt k p.extent ≡ b → option_map (λ j. p.first + j) (if b then Some k else None) ≡ Some u → (j : ℕ) × (j < p.extent) × (p.first + j ≡ u)
    go true q h = (k, grind (arith, nat_tests), (let s : p.first + k ≡ u = cc in s))
    go false q h = cc

-- the unit of an element lies in the place
pub element_inside : (p : Place) (phi : ℕ → ℤ) (u : ℕ) → elements_of p phi ≡ Some u → (j : ℕ) × (j < p.extent) × (p.first + j ≡ u)
element_inside p phi u e = within_some p (position p.dims (listed _ phi)) u e

-- ---- constant bounds

number_is : (w : ConstantValue) (n : ℤ) → number_in w ≡ Some n → w ≡ Is (Int n)
number_is (Is (Int m)) n e = let same : m ≡ n = cc in ap (λ z. Is (Int z)) same
number_is (Is (Log b)) n e = cc
number_is Faults n e = cc
number_is Varies n e = cc

module _ (value_of : List ℕ → Option Constant) where
  high_is : (o : Option ExprTree) (n : ℤ) (z : Option ℤ) → ((e : ExprTree) (m : ℤ) → o ≡ Some e → const_value value_of e ≡ Is (Int m) → z ≡ Some m) → high_number value_of o ≡ Some n → z ≡ Some n
  high_is None n z h e = cc
  high_is (Some a) n z h e = h a n refl (number_is (const_value value_of a) n e)

  pub constants_fit : (bs : List BoundTree) (ds : List Dim) → DimsFit value_of bs ds → EachDim (ConstantsFit value_of) bs ds
  constants_fit [] [] h = tt
  constants_fit [] (d ∷ ds) h = absurd h
  constants_fit (b ∷ bs) [] h = absurd h
  constants_fit (b ∷ bs) (d ∷ ds) h = (record { low = λ n e. h.0.low n (number_is (const_value value_of b.low) n e); high = λ n e. high_is b.high n d.high h.0.high e }, constants_fit bs ds h.1)

-- ---- the last bound alone may be `*`

abbrev pub Closes : BoundTree → Dim → Type 0
Closes b d = is_some b.high ≡ true → IsClosed d.high

pub last_of : (bs : List BoundTree) (ds : List Dim) → OpenLast bs → EachDim Closes bs ds → LastMayBeOpen ds
last_of [] [] o h = tt
last_of [] (d ∷ ds) o h = absurd h
last_of (b ∷ bs) [] o h = absurd h
last_of (b ∷ []) (d ∷ []) o h = tt
last_of (b ∷ []) (d ∷ (f ∷ ds)) o h = absurd h.1
last_of (b ∷ (c ∷ bs)) (d ∷ []) o h = absurd h.1
last_of (b ∷ (c ∷ bs)) (d ∷ (f ∷ ds)) o h = (h.0 o.0, last_of (c ∷ bs) (f ∷ ds) o.1 h.1)

-- ---- sizes

-- of an array that takes an offer
pub array_within : (p q : Place) → ArrayIs p q → is_open q.dims ≡ false → q.extent ≤ total_size q.dims
array_within p q a o = let e = (a.closed o).0 in omega (arith, e)

pub array_room : (p q : Place) → ArrayIs p q → q.extent ≤ p.extent
array_room p q a = go (is_open q.dims) refl
  where
    zero_or : (b : Bool) (n : ℕ) → (if b then 0 else n) ≤ n
    zero_or true n = omega arith
    zero_or false n = omega arith

    go : (b : Bool) → is_open q.dims ≡ b → q.extent ≤ p.extent
    go true o = subst (λ n. n ≤ p.extent) (sym (a.opened o)) (zero_or (nat_eq (total_size q.dims) 0) p.extent)
    go false o = (a.closed o).1

pub array_filled : (p q : Place) → ArrayIs p q → 0 < q.extent → 0 < total_size q.dims
array_filled p q a h = go (is_open q.dims) refl
  where
    by_size : (b : Bool) → nat_eq (total_size q.dims) 0 ≡ b → 0 < (if b then 0 else p.extent) → 0 < total_size q.dims
    by_size true e l = absurd (omega (arith, l))
    by_size false e l = grind (arith, nat_tests)

    go : (b : Bool) → is_open q.dims ≡ b → 0 < total_size q.dims
    go true o = by_size (nat_eq (total_size q.dims) 0) refl (subst (λ n. 0 < n) (a.opened o) h)
    go false o = subst (λ n. 0 < n) (a.closed o).0 h

-- ---- forms of bounds: of what is called

module _ (k : Scalars) (tracked : ℕ → Bool) (first : ℕ → ℕ) (numbers : ℕ → ℤ) where
  pub high_means : (o : Option ExprTree) (z : Option ℤ) → HighMeans k tracked first numbers o z → (a : ExprTree) (f : Affine) → o ≡ Some a → affine_of k a ≡ Some f → (p : Point) → AtStart tracked first numbers p → z ≡ Some (form_value p f)
  high_means None z h a f e q p st = cc
  high_means (Some x) None h a f e q p st = absurd h
  high_means (Some x) (Some n) h a f e q p st =
      let same : x ≡ a = cc in
      let there : Means tracked first (Some f) numbers n = subst (λ (o : Option Affine). Means tracked first o numbers n) (ap (affine_of k) same ∙ q) h in
      ap Some (sym (there p st))

  pub low_means : (e : ExprTree) (n : ℤ) → Means tracked first (affine_of k e) numbers n → (f : Affine) → affine_of k e ≡ Some f → (p : Point) → AtStart tracked first numbers p → form_value p f ≡ n
  low_means e n h f q p st =
      let there : Means tracked first (Some f) numbers n = subst (λ (o : Option Affine). Means tracked first o numbers n) q h in
      there p st

  pub means_close : (bs : List BoundTree) (ds : List Dim) → BoundsMean k tracked first numbers (map bound_of bs) ds → EachDim Closes bs ds
  means_close [] [] h = tt
  means_close [] (d ∷ ds) h = absurd h
  means_close (b ∷ bs) [] h = absurd h
  means_close (b ∷ bs) (d ∷ ds) h = (closed b.high d.high h.0.high_means, means_close bs ds h.1)
    where
      closed : (o : Option ExprTree) (z : Option ℤ) → HighMeans k tracked first numbers o z → is_some o ≡ true → IsClosed z
      closed None z g e = cc
      closed (Some x) None g e = absurd g
      closed (Some x) (Some n) g e = tt

pub dummy_bounds_mean : (c : SidesTree) (tracked : ℕ → Bool) (e : Scene) (y : ℕ → ℤ) (bs : List BoundTree) (ds : List Dim) → BoundsMean c.callee.scalars tracked e.unit y (map bound_of bs) ds → EachDim (BoundMeans (dummy_bound c) (AtEntry e y)) bs ds
dummy_bounds_mean c tracked e y [] [] h = tt
dummy_bounds_mean c tracked e y [] (d ∷ ds) h = absurd h
dummy_bounds_mean c tracked e y (b ∷ bs) [] h = absurd h
dummy_bounds_mean c tracked e y (b ∷ bs) (d ∷ ds) h = (
  record {
    low = λ f q p st. low_means c.callee.scalars tracked e.unit y b.low d.low h.0.low_means f q p (λ n t. st n);
    high = λ a f i q p st. high_means c.callee.scalars tracked e.unit y b.high d.high h.0.high_means a f i q p (λ n t. st n);
  },
  dummy_bounds_mean c tracked e y bs ds h.1,
)

-- ---- forms of bounds: of the caller, with the numbers at its entry of cells that no statement changes

pub unless_some : (cs : List ℕ) (o : Option Affine) (f : Affine) → unless_among cs o ≡ Some f → (o ≡ Some f) × (lack cs f.terms ≡ true)
unless_some cs None f e = cc
unless_some cs (Some g) f e = go (lack cs g.terms) refl e
  where
    go : (b : Bool) → lack cs g.terms ≡ b → (if b then Some g else None) ≡ Some f → (Some g ≡ Some f) × (lack cs f.terms ≡ true)
    go true q h = (h, (let same : g ≡ f = cc in ap (λ (z : Affine). lack cs z.terms) (sym same) ∙ q))
    go false q h = cc

module _ (c : SidesTree) (m : Scene) (x began : ℕ → ℤ) (steady : (n : ℕ) → m.tracked n ≡ true → has c.changed n ≡ false → x (m.unit n) ≡ began (m.unit n)) where
  -- a point, with those numbers
  abbrev back_to : Point → Point
  back_to q (Cell n) = if has c.changed n then began (m.unit n) else q (Cell n)
  back_to q (Exit n) = q (Exit n)
  back_to q (Phi n) = q (Phi n)
  back_to q (Aux n) = q (Aux n)

  begins : (q : Point) → AtStart m.tracked m.unit x q → AtStart m.tracked m.unit began (back_to q)
  begins q st n t = go (has c.changed n) refl
    where
      go : (b : Bool) → has c.changed n ≡ b → (if b then began (m.unit n) else q (Cell n)) ≡ began (m.unit n)
      go true e = refl
      go false e = st n t ∙ steady n t e

  var_same : (q : Point) (v : Var) → is_among c.changed v ≡ false → back_to q v ≡ q v
  var_same q (Cell n) e = ap (λ b. if b then began (m.unit n) else q (Cell n)) e
  var_same q (Exit n) e = refl
  var_same q (Phi n) e = refl
  var_same q (Aux n) e = refl

  value_same : (q : Point) (ts : List Term) → lack c.changed ts ≡ true → value (back_to q) ts ≡ value q ts
  value_same q [] h = refl
  value_same q (t ∷ ts) h =
      let p = and_parts (not (is_among c.changed t.var)) (lack c.changed ts) h in
      let one = var_same q t.var (not-true (is_among c.changed t.var) p.0) in
      let rest = value_same q ts p.1 in
      λ i. (t.factor *ℤ one i) +ℤ rest i

  form_same : (q : Point) (f : Affine) → lack c.changed f.terms ≡ true → form_value (back_to q) f ≡ form_value q f
  form_same q f h = ap (λ z. z +ℤ f.constant) (value_same q f.terms h)

  pub actual_bounds_mean : (bs : List BoundTree) (ds : List Dim) → BoundsMean c.caller.scalars m.tracked m.unit began (map bound_of bs) ds → EachDim (BoundMeans (actual_bound c) (AtStart m.tracked m.unit x)) bs ds
  actual_bounds_mean [] [] h = tt
  actual_bounds_mean [] (d ∷ ds) h = absurd h
  actual_bounds_mean (b ∷ bs) [] h = absurd h
  actual_bounds_mean (b ∷ bs) (d ∷ ds) h = (
    record {
      low = λ f q p st.
          (let u = unless_some c.changed (affine_of c.caller.scalars b.low) f q in
          sym (form_same p f u.1) ∙ low_means c.caller.scalars m.tracked m.unit began b.low d.low h.0.low_means f u.0 (back_to p) (begins p st));
      high = λ a f i q p st.
          (let u = unless_some c.changed (affine_of c.caller.scalars a) f q in
          high_means c.caller.scalars m.tracked m.unit began b.high d.high h.0.high_means a f i u.0 (back_to p) (begins p st) ∙ ap Some (form_same p f u.1));
    },
    actual_bounds_mean bs ds h.1,
  )

-- ---- constant bounds have constant forms

constant_value : (n : ℤ) (f : Affine) → number_form n ≡ Some f → (p : Point) → form_value p f ≡ n
constant_value n f e p = let same : affine [] n ≡ f = limited_is (affine [] n) f e in sym (ap (form_value p) same) ∙ zero_more n
  where
    limited_is : (g f : Affine) → limited g ≡ Some f → g ≡ f
    limited_is g f h = go (is_small g.constant && are_small g.terms) h
      where
        go : (b : Bool) → (if b then Some g else None) ≡ Some f → g ≡ f
        go true e = cc
        go false e = cc

    zero_more : (n : ℤ) → (pos 0 +ℤ n) ≡ n
    zero_more n = omega (arith, ints)

module _ (k : Scalars) where
  constant_low : (e : ExprTree) (n : ℤ) → const_value k.value e ≡ Is (Int n) → (f : Affine) → affine_of k e ≡ Some f → (p : Point) → form_value p f ≡ n
  constant_low e n w f q p = constant_value n f (sym (affine_constant k e n w) ∙ q) p

  pub constants_mean : (form : ExprTree → Option Affine) → ((e : ExprTree) (f : Affine) → form e ≡ Some f → affine_of k e ≡ Some f) → (P : Point → Type 0) (bs : List BoundTree) (ds : List Dim) → ConstantsAre k.value bs ds → EachDim (BoundMeans form P) bs ds
  constants_mean form of P [] [] h = tt
  constants_mean form of P [] (d ∷ ds) h = absurd h
  constants_mean form of P (b ∷ bs) [] h = absurd h
  constants_mean form of P (b ∷ bs) (d ∷ ds) h = (
    record {
      low = λ f q p st. constant_low b.low d.low h.0.low f (of b.low f q) p;
      high = λ a f i q p st.
          (let same : h.0.high ≡ a = some_same h.0.high a (sym h.0.is_high ∙ i) in
          h.0.number ∙ ap Some (sym (constant_low a h.0.last (ap (const_value k.value) (sym same) ∙ h.0.last_const_value) f (of a f q) p)));
    },
    constants_mean form of P bs ds h.1,
  )
    where
      some_same : (x y : ExprTree) → Some x ≡ Some y → x ≡ y
      some_same x y e = cc

pub actual_form : (c : SidesTree) (e : ExprTree) (f : Affine) → actual_bound c e ≡ Some f → affine_of c.caller.scalars e ≡ Some f
actual_form c e f q = (unless_some c.changed (affine_of c.caller.scalars e) f q).0

pub constants_close : (value_of : List ℕ → Option Constant) (bs : List BoundTree) (ds : List Dim) → ConstantsAre value_of bs ds → EachDim Closes bs ds
constants_close value_of [] [] h = tt
constants_close value_of [] (d ∷ ds) h = absurd h
constants_close value_of (b ∷ bs) [] h = absurd h
constants_close value_of (b ∷ bs) (d ∷ ds) h = ((λ e. subst IsClosed (sym h.0.number) tt), constants_close value_of bs ds h.1)

pub constants_so : (value_of : List ℕ → Option Constant) (bs : List BoundTree) (ds : List Dim) → ConstantsAre value_of bs ds → EachDim (ConstantsFit value_of) bs ds
constants_so value_of [] [] h = tt
constants_so value_of [] (d ∷ ds) h = absurd h
constants_so value_of (b ∷ bs) [] h = absurd h
constants_so value_of (b ∷ bs) (d ∷ ds) h = (record { low = λ n e. low_is n e; high = λ n e. high_so n e }, constants_so value_of bs ds h.1)
  where
    low_is : (n : ℤ) → number_in (const_value value_of b.low) ≡ Some n → d.low ≡ n
    low_is n e = (let same : Some d.low ≡ Some n = sym (ap number_in h.0.low) ∙ e in cc)

    high_so : (n : ℤ) → high_number value_of b.high ≡ Some n → d.high ≡ Some n
    high_so n e = h.0.number ∙ (sym (ap number_in h.0.last_const_value) ∙ (sym (ap (high_number value_of) h.0.is_high) ∙ e))
