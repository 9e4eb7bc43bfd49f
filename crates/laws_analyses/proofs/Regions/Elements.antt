-- The unit of a scalar, or of an element with subscripts, lies in the region that is made of it, and that says no more.
use Rattle.std.proofs.Common.{◌≡◌, ◌⊎◌, ⊎_elim, ℕ, zero, suc, ◌+◌, ◌<◌, ◌≤◌, ℤ, pos, negsuc, ◌≤ℤ◌, List, [], ◌∷◌, length, Option, Some, None, Bool, true, false, refl, sym, ap, ap₂, ◌∙◌, arith, nat_eq, nat_lt, true≢false}
use Rattle.std.specs.Prelude.{if◌then◌else◌, not, is_some, option_map, int_le}
use Rattle.std.proofs.lemmas.Int.{ints}
use Rattle.std.proofs.lemmas.Bool.{and_parts, not-true}
use Rattle.std.proofs.lemmas.Bool.Decides.{nat_tests}
use Rattle.affine_systems.specs.declared.row.Var.{Var}
use Rattle.affine_systems.specs.declared.row.Var.TheVariants.{Phi}
use Rattle.affine_systems.specs.Points.{Point, Holds, HoldsAll}
use Rattle.affine_systems.specs.Rows.{system}
use Rattle.affine_systems.proofs.CallLaws.{append_all}
use Rattle.affine_systems.proofs.ElimLaws.{value-combined}
use Rattle.affine_systems.proofs.TidyLaws.{tidy_back}
use Rattle.preconditions.specs.transformer_algebra.Renaming.{of_rows}
use Rattle.preconditions.proofs.TransformerAlgebra.KeepLaws.{of_rows_holds}
use Rattle.f77_ast.specs.Trees.{ExprTree, ExprTrees}
use Rattle.f77_ast.specs.Trees as tree
use Rattle.f77_ast.specs.Store.{Store}
use Rattle.f77_ast.specs.Places.{Dim, Place, at_most, dim_has, in_column, position, within, element_in}
use Rattle.f77_ast.specs.declared.constant.Constant.TheVariants.{Int, Log}
use Rattle.f77_ast.specs.declared.constant.ConstantValue.{ConstantValue}
use Rattle.f77_ast.specs.declared.constant.ConstantValue.TheVariants.{Is, Faults, Varies}
use Rattle.f77_ast.specs.Constants.{const_value}
use Rattle.f77_ast.specs.declared.variable.Variable.TheVariants.{Own}
use Rattle.f77_ast.specs.Symbols.{BoundTree}
use Rattle.f77_ast.specs.Shared.{symbol_at}
use Rattle.affine_forms.specs.declared.affine.Affine.{Affine}
use Rattle.affine_forms.specs.Forms.{affine, affine_of}
use Rattle.affine_forms.specs.Comparisons.{var_form, same_row}
use Rattle.affine_forms.specs.Claims.{numbers_of}
use Rattle.affine_forms.proofs.RowLaws.{at_most_holds, same_holds}
use Rattle.preconditions.specs.transformer_algebra.Claims.{AtStart, Means}
use Rattle.in_out_regions.specs.region_sets.declared.region.Access.{Access}
use Rattle.in_out_regions.specs.region_sets.Claims.{LiesIn, IsSharp}
use Rattle.in_out_regions.proofs.RegionSets.DescribedLaws.{by_only}
use Rattle.in_out_regions.specs.array_regions.Rows.{constant_form, low_rows, high_form, high_rows, dimension_rows, subscript_rows, all_affine}
use Rattle.in_out_regions.specs.array_regions.References.{scalar, array_at}
use Rattle.laws_analyses.specs.Regions.Claims.{listed_from, listed, elements_of}
use Rattle.laws_analyses.specs.Regions.Settings.{Setting, scene, is_stored, elements_if, elements_at, DimFits, DimsFit, HasSymbol}
use Rattle.preconditions.proofs.TransformerAlgebra.LoopLaws.{var_value}
use Rattle.in_out_regions.proofs.RegionTranslation.ElementLaws.{phi_from}
use Rattle.fx_lists.proofs.Numbers.{nat_eq_same}
use Rattle.affine_forms.proofs.RowValues.{same_back, constant_value}
use Rattle.fx_lists.proofs.Lists.{same_head, same_tail}

-- ---- scalars

scalar_found : (p : Place) (ds : List Dim) (phi : ℕ → ℤ) → ds ≡ [] → 0 < p.extent → option_map (λ j. p.first + j) (within p (position ds (listed (length ds) phi))) ≡ Some p.first
scalar_found p [] phi e h = go (nat_lt 0 p.extent) refl
  where
    zero_off : p.first + 0 ≡ p.first
    zero_off = omega arith

    go : (b : Bool) → nat_lt 0 p.extent ≡ b → option_map (λ j. p.first + j) (if b then Some 0 else None) ≡ Some p.first
    go true q = ap Some zero_off
    go false q = absurd (grind (arith, nat_tests))
scalar_found p (d ∷ ds) phi e h = cc

pub scalar_there : (p : Place) (phi : ℕ → ℤ) → p.dims ≡ [] → 0 < p.extent → elements_of p phi ≡ Some p.first
scalar_there p phi e h = scalar_found p p.dims phi e h

pub stored_by : (k : Setting) (x : List ℕ) (v : ℕ) → HasSymbol k x v → is_stored (symbol_at k.m.symbols v) ≡ true
stored_by k x v h = ap is_stored h.is_symbol ∙ ap not h.stored

-- of a variable that is stored
pub stored_there : (k : Setting) (v : ℕ) → is_stored (symbol_at k.m.symbols v) ≡ true → (phi : ℕ → ℤ) (u : ℕ) → elements_of (k.at v) phi ≡ Some u → elements_at k (Own v) phi ≡ Some u
stored_there k v h phi u e = ap (λ b. elements_if b (k.at v) phi) h ∙ e

module _ (k : Setting) (v : ℕ) (stored : is_stored (symbol_at k.m.symbols v) ≡ true) (flat : (k.at v).dims ≡ []) (solid : 0 < (k.at v).extent) where
  pub scalar_lies : (a : Access) (x : ℕ → ℤ) → LiesIn (scene k) (elements_at k (Own v)) (scalar a v) x (k.at v).first
  scalar_lies a x = record { phi = λ i. pos 0; there = stored_there k v stored (λ i. pos 0) (k.at v).first (scalar_there (k.at v) (λ i. pos 0) flat solid); described = by_only (scene k) x (λ i. pos 0) (system [] false) (λ p st ph. tt) }

  pub scalar_sharp : (a : Access) (x : ℕ → ℤ) (c : ℕ → Bool) → c (k.at v).first ≡ true → IsSharp (scene k) (elements_at k (Own v)) (scalar a v) x c
  scalar_sharp a x c h e p st g = record { unit = (k.at v).first; there = stored_there k v stored (λ i. p (Phi i)) (k.at v).first (scalar_there (k.at v) (λ i. p (Phi i)) flat solid); is_so = h }

-- ---- subscripts by their numbers

listed_same : (j n : ℕ) (f g : ℕ → ℤ) → ((i : ℕ) → j ≤ i → f i ≡ g i) → listed_from j n f ≡ listed_from j n g
listed_same j zero f g h = refl
listed_same j (suc n) f g h = ap₂ (λ x xs. x ∷ xs) (h j (omega arith)) (listed_same (suc j) n f g (λ i l. h i (omega (arith, l))))

listed_phi : (ns : List ℤ) (j : ℕ) → listed_from j (length ns) (phi_from ns j) ≡ ns
listed_phi [] j = refl
listed_phi (n ∷ ns) j = ap₂ (λ x xs. x ∷ xs) (ap (λ b. if b then n else phi_from ns (suc j) j) (nat_eq_same j)) (listed_same (suc j) (length ns) (phi_from (n ∷ ns) j) (phi_from ns (suc j)) later ∙ listed_phi ns (suc j))
  where
    later : (i : ℕ) → suc j ≤ i → phi_from (n ∷ ns) j i ≡ phi_from ns (suc j) i
    later i l = go (nat_eq i j) refl
      where
        go : (b : Bool) → nat_eq i j ≡ b → (if b then n else phi_from ns (suc j) i) ≡ phi_from ns (suc j) i
        go true q = absurd (grind (arith, nat_tests))
        go false q = refl

-- the subscripts of a point are these
abbrev Subscripts : ℕ → List ℤ → Point → Type 0
Subscripts j [] p = Unit {0}
Subscripts j (n ∷ ns) p = (p (Phi j) ≡ n) × Subscripts (suc j) ns p

subscripts_of : (ns : List ℤ) (j : ℕ) (p : Point) → listed_from j (length ns) (λ i. p (Phi i)) ≡ ns → Subscripts j ns p
subscripts_of [] j p e = tt
subscripts_of (n ∷ ns) j p e = (same_head (p (Phi j)) n (listed_from (suc j) (length ns) (λ i. p (Phi i))) ns e, subscripts_of ns (suc j) p (same_tail (p (Phi j)) n (listed_from (suc j) (length ns) (λ i. p (Phi i))) ns e))

listed_of : (ns : List ℤ) (j : ℕ) (p : Point) → Subscripts j ns p → listed_from j (length ns) (λ i. p (Phi i)) ≡ ns
listed_of [] j p h = refl
listed_of (n ∷ ns) j p h = ap₂ (λ x xs. x ∷ xs) h.0 (listed_of ns (suc j) p h.1)

-- ---- dimensions

-- each subscript is within its bounds
abbrev InDims : List Dim → List ℤ → Type 0
InDims [] [] = Unit {0}
InDims [] (n ∷ ns) = ⊥
InDims (d ∷ ds) [] = ⊥
InDims (d ∷ ds) (n ∷ ns) = (dim_has d n ≡ true) × InDims ds ns

position_in : (ds : List Dim) (ns : List ℤ) (o : ℕ) → position ds ns ≡ Some o → InDims ds ns
position_in [] [] o e = tt
position_in [] (n ∷ ns) o e = cc
position_in (d ∷ ds) [] o e = cc
position_in (d ∷ ds) (n ∷ ns) o e = go (dim_has d n) refl e (λ r f. position_in ds ns r f)
  where
    rest : (q : Option ℕ) → position ds ns ≡ q → in_column d n q ≡ Some o → ((r : ℕ) → position ds ns ≡ Some r → InDims ds ns) → InDims ds ns
    rest None f g ih = cc
    rest (Some r) f g ih = ih r f

    go : (b : Bool) → dim_has d n ≡ b → (if b then in_column d n (position ds ns) else None) ≡ Some o → ((r : ℕ) → position ds ns ≡ Some r → InDims ds ns) → (dim_has d n ≡ true) × InDims ds ns
    go true q h ih = (q, rest (position ds ns) refl h ih)
    go false q h ih = cc

within_some : (p : Place) (q : Option ℕ) (o : ℕ) → within p q ≡ Some o → q ≡ Some o
within_some p None o e = cc
within_some p (Some r) o e = go (nat_lt r p.extent) e
  where
    go : (b : Bool) → (if b then Some r else None) ≡ Some o → Some r ≡ Some o
    go true h = h
    go false h = cc

in_length : (ds : List Dim) (ns : List ℤ) → InDims ds ns → length ds ≡ length ns
in_length [] [] h = refl
in_length [] (n ∷ ns) h = absurd h
in_length (d ∷ ds) [] h = absurd h
in_length (d ∷ ds) (n ∷ ns) h = ap suc (in_length ds ns h.1)

-- ---- rows

module _ (k : Setting) (s : Store) where
  -- the values of subscripts are those of their forms
  abbrev pub MeanEach : ExprTrees → List ℤ → Type 0
  MeanEach tree.no_exprs [] = Unit {0}
  MeanEach tree.no_exprs (n ∷ ns) = ⊥
  MeanEach (tree.more_exprs e es) [] = ⊥
  MeanEach (tree.more_exprs e es) (n ∷ ns) = Means (scene k) (affine_of k.m.scalars e) (numbers_of s) n × MeanEach es ns

  low_holds : (p : Point) (j : ℕ) (n : ℤ) (d : Dim) (w : ConstantValue) → ((c : ℤ) → w ≡ Is (Int c) → d.low ≡ c) → p (Phi j) ≡ n → int_le d.low n ≡ true → HoldsAll p (low_rows (constant_form w) j)
  low_holds p j n d (Is (Int c)) f e h =
      let low : d.low ≡ c = f c refl in
      let l : d.low ≤ℤ n = grind (arith, ints) in
      let a = constant_value p c in
      let b = var_value (Phi j) p n e in
      (at_most_holds (affine [] c) (var_form (Phi j)) p (omega (arith, ints, low, l, a, b)), tt)
  low_holds p j n d (Is (Log b)) f e h = tt
  low_holds p j n d Faults f e h = tt
  low_holds p j n d Varies f e h = tt

  high_holds : (p : Point) (j : ℕ) (n : ℤ) (d : Dim) (o : Option ExprTree) → ((e : ExprTree) (c : ℤ) → o ≡ Some e → const_value k.m.scalars.value e ≡ Is (Int c) → d.high ≡ Some c) → p (Phi j) ≡ n → at_most n d.high ≡ true → HoldsAll p (high_rows (high_form k.m.scalars.value o) j)
  high_holds p j n d None f e h = tt
  high_holds p j n d (Some b) f e h = go (const_value k.m.scalars.value b) refl
    where
      go : (w : ConstantValue) → const_value k.m.scalars.value b ≡ w → HoldsAll p (high_rows (constant_form w) j)
      go (Is (Int c)) q =
          let high : at_most n (Some c) ≡ true = ap (at_most n) (sym (f b c refl q)) ∙ h in
          let l : n ≤ℤ c = grind (arith, ints) in
          let a = constant_value p c in
          let z = var_value (Phi j) p n e in
          (at_most_holds (var_form (Phi j)) (affine [] c) p (omega (arith, ints, l, a, z)), tt)
      go (Is (Log t)) q = tt
      go Faults q = tt
      go Varies q = tt

  dimension_holds : (p : Point) (j : ℕ) (n : ℤ) (b : BoundTree) (d : Dim) (f : Option Affine) → AtStart (scene k) (numbers_of s) p → DimFits k.m.scalars.value b d → Means (scene k) f (numbers_of s) n → p (Phi j) ≡ n → dim_has d n ≡ true → HoldsAll p (dimension_rows k.m.scalars.value f b j)
  dimension_holds p j n b d (Some f) st fit m e h = (same_holds (var_form (Phi j)) f p (var_value (Phi j) p n e ∙ sym (m p st)), tt)
  dimension_holds p j n b d None st fit m e h =
      let both = and_parts (int_le d.low n) (at_most n d.high) h in
      (append_all p (low_rows (constant_form (const_value k.m.scalars.value b.low)) j) (high_rows (high_form k.m.scalars.value b.high) j)).0
      (low_holds p j n d (const_value k.m.scalars.value b.low) fit.low e both.0, high_holds p j n d b.high fit.high e both.1)

  rows_hold : (es : ExprTrees) (bs : List BoundTree) (ds : List Dim) (ns : List ℤ) (p : Point) (j : ℕ) → AtStart (scene k) (numbers_of s) p → DimsFit k.m.scalars.value bs ds → MeanEach es ns → InDims ds ns → Subscripts j ns p → HoldsAll p (subscript_rows k.m j es bs)
  rows_hold tree.no_exprs bs ds ns p j st fit m i h = tt
  rows_hold (tree.more_exprs e es) [] ds ns p j st fit m i h = tt
  rows_hold (tree.more_exprs e es) (b ∷ bs) [] ns p j st fit m i h = absurd fit
  rows_hold (tree.more_exprs e es) (b ∷ bs) (d ∷ ds) [] p j st fit m i h = absurd i
  rows_hold (tree.more_exprs e es) (b ∷ bs) (d ∷ ds) (n ∷ ns) p j st fit m i h =
      (append_all p (dimension_rows k.m.scalars.value (affine_of k.m.scalars e) b j) (subscript_rows k.m (suc j) es bs)).0
      (dimension_holds p j n b d (affine_of k.m.scalars e) st fit.0 m.0 h.0 i.0, rows_hold es bs ds ns p (suc j) st fit.1 m.1 i.1 h.1)

  -- where each subscript has a form, the rows give it
  form_back : (p : Point) (j : ℕ) (n : ℤ) (b : BoundTree) (f : Option Affine) → is_some f ≡ true → AtStart (scene k) (numbers_of s) p → Means (scene k) f (numbers_of s) n → HoldsAll p (dimension_rows k.m.scalars.value f b j) → p (Phi j) ≡ n
  form_back p j n b None a st m h = absurd (true≢false (sym a))
  form_back p j n b (Some f) a st m h =
      let q = same_back (var_form (Phi j)) f p h.0 in
      let z = var_value (Phi j) p (p (Phi j)) refl in
      sym z ∙ q ∙ m p st

  rows_back : (es : ExprTrees) (bs : List BoundTree) (ds : List Dim) (ns : List ℤ) (p : Point) (j : ℕ) → AtStart (scene k) (numbers_of s) p → DimsFit k.m.scalars.value bs ds → MeanEach es ns → InDims ds ns → all_affine k.m es bs ≡ true → HoldsAll p (subscript_rows k.m j es bs) → Subscripts j ns p
  rows_back tree.no_exprs bs ds [] p j st fit m i a h = tt
  rows_back tree.no_exprs bs ds (n ∷ ns) p j st fit m i a h = absurd m
  rows_back (tree.more_exprs e es) bs ds [] p j st fit m i a h = tt
  rows_back (tree.more_exprs e es) [] [] (n ∷ ns) p j st fit m i a h = absurd i
  rows_back (tree.more_exprs e es) [] (d ∷ ds) (n ∷ ns) p j st fit m i a h = absurd fit
  rows_back (tree.more_exprs e es) (b ∷ bs) [] (n ∷ ns) p j st fit m i a h = absurd fit
  rows_back (tree.more_exprs e es) (b ∷ bs) (d ∷ ds) (n ∷ ns) p j st fit m i a h =
      let q = (append_all p (dimension_rows k.m.scalars.value (affine_of k.m.scalars e) b j) (subscript_rows k.m (suc j) es bs)).1 h in
      let r = and_parts (is_some (affine_of k.m.scalars e)) (all_affine k.m es bs) a in
      (form_back p j n b (affine_of k.m.scalars e) r.0 st m.0 q.0, rows_back es bs ds ns p (suc j) st fit.1 m.1 i.1 r.1 q.1)

  -- ---- elements

  module _ (v : ℕ) (es : ExprTrees) (bs : List BoundTree) (ns : List ℤ) (o : ℕ) (fit : DimsFit k.m.scalars.value bs (k.at v).dims) (means : MeanEach es ns) (found : element_in (k.at v) ns ≡ Some o) (stored : is_stored (symbol_at k.m.symbols v) ≡ true) where
    in_dims : InDims (k.at v).dims ns
    in_dims = position_in (k.at v).dims ns o (within_some (k.at v) (position (k.at v).dims ns) o found)

    many : length (k.at v).dims ≡ length ns
    many = in_length (k.at v).dims ns in_dims

    at_listed : (phi : ℕ → ℤ) → listed (length ns) phi ≡ ns → elements_of (k.at v) phi ≡ Some ((k.at v).first + o)
    at_listed phi e = ap (λ l. option_map (λ j. (k.at v).first + j) (element_in (k.at v) (listed l phi))) many ∙ (ap (λ l. option_map (λ j. (k.at v).first + j) (element_in (k.at v) l)) e ∙ ap (option_map (λ j. (k.at v).first + j)) found)

    pub element_lies : (a : Access) → LiesIn (scene k) (elements_at k (Own v)) (array_at k.m a v es bs) (numbers_of s) ((k.at v).first + o)
    element_lies a = record {
      phi = phi_from ns 1;
      there = stored_there k v stored (phi_from ns 1) ((k.at v).first + o) (at_listed (phi_from ns 1) (listed_phi ns 1));
      described = by_only (scene k) (numbers_of s) (phi_from ns 1) (of_rows (subscript_rows k.m 1 es bs))
          (λ p st ph. of_rows_holds (subscript_rows k.m 1 es bs) p (rows_hold es bs (k.at v).dims ns p 1 st fit means in_dims (subscripts_of ns 1 p (ap (λ (phi : ℕ → ℤ). listed (length ns) phi) (λ i j. ph j i) ∙ listed_phi ns 1))));
    }

    pub element_sharp : (a : Access) (c : ℕ → Bool) → c ((k.at v).first + o) ≡ true → IsSharp (scene k) (elements_at k (Own v)) (array_at k.m a v es bs) (numbers_of s) c
    element_sharp a c h e p st g =
        let q = and_parts (all_affine k.m es bs) (not (of_rows (subscript_rows k.m 1 es bs)).weak) e in
        let rows = tidy_back p (system (subscript_rows k.m 1 es bs) false) (not-true (of_rows (subscript_rows k.m 1 es bs)).weak q.1) (only_one g) in
        let subs = rows_back es bs (k.at v).dims ns p 1 st fit means in_dims q.0 rows in
        record { unit = (k.at v).first + o; there = stored_there k v stored (λ i. p (Phi i)) ((k.at v).first + o) (at_listed (λ i. p (Phi i)) (listed_of ns 1 p subs)); is_so = h }
      where
        only_one : {A : Type 0} → (A ⊎ ⊥) → A
        only_one g = ⊎_elim (λ x. x) (λ x. absurd x) g
