-- Where a module runs, elements have units of their own.
use Rattle.std.proofs.Common.{◌≡◌, ◌⊎◌, inl, inr, ⊎_elim, ℕ, zero, suc, ◌+◌, ◌-◌, ◌<◌, ◌≤◌, List, [], ◌∷◌, length, Option, Some, None, Bool, true, false, refl, sym, ap, ◌∙◌, subst, arith, ℤ, nat_lt, nat_eq, true≢false}
use Rattle.std.specs.Prelude.{if◌then◌else◌, not, slice_get, option_map, nat_le, map, is_some}
use Rattle.std.proofs.lemmas.Bool.{and_parts}
use Rattle.std.proofs.lemmas.Bool.Decides.{nat_tests}
use Rattle.f77_ast.specs.Trees.{ExprTree}
use Rattle.f77_ast.specs.Faults.{Fault, Shared}
use Rattle.f77_ast.specs.Store.{Store}
use Rattle.f77_ast.specs.Places.{Dim, Place, Places, position, within}
use Rattle.f77_ast.specs.Writes.{Locks, first_lock}
use Rattle.f77_ast.specs.Calls.{Dummy, Meaning, in_place, doubly_reached, lock_doubly}
use Rattle.f77_ast.specs.declared.variable.Variable.{Variable as Named}
use Rattle.f77_ast.specs.declared.variable.Variable.TheVariants.{Own, Block, Saved}
use Rattle.f77_ast.specs.Symbols.{BoundTree as Bounds, SymbolTree}
use Rattle.f77_ast.specs.Shared.{symbol_at, overlap}
use Rattle.f77_ast.specs.declared.constant.Constant.{Constant}
use Rattle.call_graph.specs.declared.graph.Graph.{Graph}
use Rattle.f77_meaning.specs.Areas.{is_own_unit}
use Rattle.f77_meaning.specs.Claims.{block_place, saved_place}
use Rattle.f77_meaning.specs.Linked.{numbering}
use Rattle.f77_meaning.specs.Modules.{Known, bound_of}
use Rattle.affine_forms.specs.Scalars.{Scalars, is_cell}
use Rattle.affine_forms.specs.Claims.{unit_in, numbers_of}
use Rattle.preconditions.specs.transformers.Given.{Callees}
use Rattle.in_out_regions.specs.array_regions.References.{is_constant}
use Rattle.in_out_regions.specs.array_regions.Calls.{Called}
use Rattle.laws_analyses.specs.Calls.Parts.{Blocks, Part, DummyOf, NoDummy, nth, in_bound, places_in, Sane}
use Rattle.laws_analyses.specs.Calls.Sites.{Entered}
use Rattle.laws_analyses.proofs.Calls.Bound.{AsArray, Made, bound_at, scalars_fixed, scalars_dummy}
use Rattle.laws_analyses.proofs.Calls.Enter.{find_dummy, doubly_two as with_other, doubly_common as with_common}
use Rattle.laws_analyses.specs.Regions.Claims.{listed_from, listed, elements_of}
use Rattle.laws_analyses.specs.Regions.Settings.{is_stored, elements_if, is_told, elements_at, Sound}
use Rattle.laws_analyses.specs.Regions.Entries.{IsLost}
use Rattle.laws_analyses.specs.Regions.Programs.{Regular, Joins, ConstantsAre, OpenLast as OpenBounds}
use Rattle.laws_analyses.proofs.Regions.Arrays.{HighMeans, BoundsMean}
use Rattle.laws_analyses.proofs.Regions.Bounds.{setting}
use Rattle.laws_analyses.proofs.Regions.CalledShown.{Bound}
use Rattle.laws_analyses.proofs.Regions.Entering.{Inside, inside_of}
use Rattle.laws_marks.specs.InDims.{OpenLast}
use Rattle.laws_marks.specs.InFrames.{Frame, bounds_count, rank}
use Rattle.laws_marks.specs.InLaid.{IsFixed, fixed_place, HasUnit, Laid}
use Rattle.laws_marks.specs.InUnits.{UnitsFit}
use Rattle.laws_marks.proofs.InFramed.{element_named, element_of}
use Rattle.laws_marks.proofs.InFirsts.{not_so}
use Rattle.laws_marks.proofs.InPositions.{position_once}
use Rattle.laws_marks.proofs.InRunning.{frame}
use Rattle.laws_analyses.proofs.SiteLaws.{no_bounds_back as none_bound}
use Rattle.fx_lists.proofs.Booleans.{and_from as and_both}
use Rattle.fx_lists.proofs.Options.{none_some_2 as none_some}
use Rattle.fx_lists.proofs.Numbers.{same_is as nat_same, nat_eq_same}
use Rattle.fx_lists.proofs.Lists.{same_head, same_tail}

-- ---- subscripts

listed_same : (n k : ℕ) (phi psi : ℕ → ℤ) → listed_from k n phi ≡ listed_from k n psi → (i : ℕ) → k ≤ i → i < k + n → phi i ≡ psi i
listed_same zero k phi psi e i l h = absurd (omega (arith, l, h))
listed_same (suc n) k phi psi e i l h = go (nat_lt k i) refl l (λ m. listed_same n (suc k) phi psi (same_tail (phi k) (psi k) (listed_from (suc k) n phi) (listed_from (suc k) n psi) e) i m (omega (arith, h)))
  where
    go : (b : Bool) → nat_lt k i ≡ b → k ≤ i → (suc k ≤ i → phi i ≡ psi i) → phi i ≡ psi i
    go true q w ih = ih (grind (arith, nat_tests, q))
    go false q w ih = let same : k ≡ i = grind (arith, nat_tests, q, w) in subst (λ j. phi j ≡ psi j) same (same_head (phi k) (psi k) (listed_from (suc k) n phi) (listed_from (suc k) n psi) e)

record At (p : Place) (phi : ℕ → ℤ) (u : ℕ) : Type 0 where
  offset : ℕ
  is_there : p.first + offset ≡ u
  is_it : position p.dims (listed (length p.dims) phi) ≡ Some offset

at_of : (p : Place) (phi : ℕ → ℤ) (u : ℕ) → elements_of p phi ≡ Some u → At p phi u
at_of p phi u e = by (position p.dims (listed (length p.dims) phi)) refl e
  where
    by : (o : Option ℕ) → position p.dims (listed (length p.dims) phi) ≡ o → option_map (λ j. p.first + j) (within p o) ≡ Some u → At p phi u
    by None q h = cc
    by (Some r) q h = go (nat_lt r p.extent) h
      where
        go : (b : Bool) → option_map (λ j. p.first + j) (if b then Some r else None) ≡ Some u → At p phi u
        go true f = (let same : p.first + r ≡ u = cc in record { offset = r; is_there = same; is_it = q })
        go false f = cc

place_once : (p : Place) (phi psi : ℕ → ℤ) (u : ℕ) → OpenLast p.dims → elements_of p phi ≡ Some u → elements_of p psi ≡ Some u → (i : ℕ) → 0 < i → i ≤ length p.dims → phi i ≡ psi i
place_once p phi psi u o e f i l h =
    let a = at_of p phi u e in
    let b = at_of p psi u f in
    let there = a.is_there in
    let here = b.is_there in
    let same : b.offset ≡ a.offset = omega (arith, there, here) in
    listed_same (length p.dims) 1 phi psi (position_once p.dims (listed (length p.dims) phi) (listed (length p.dims) psi) a.offset o a.is_it (b.is_it ∙ ap Some same)) i (omega (arith, l)) (omega (arith, h))

-- ---- dimensions

pub constants_count : (value : List ℕ → Option Constant) (bs : List Bounds) (ds : List Dim) → ConstantsAre value bs ds → length bs ≡ length ds
constants_count value [] [] h = refl
constants_count value [] (d ∷ ds) h = absurd h
constants_count value (b ∷ bs) [] h = absurd h
constants_count value (b ∷ bs) (d ∷ ds) h = ap suc (constants_count value bs ds h.1)

means_count : (k : Scalars) (tracked : ℕ → Bool) (first0 : ℕ → ℕ) (numbers : ℕ → ℤ) (bs : List Bounds) (ds : List Dim) → BoundsMean k tracked first0 numbers (map bound_of bs) ds → length bs ≡ length ds
means_count k tracked first0 numbers [] [] h = refl
means_count k tracked first0 numbers [] (d ∷ ds) h = absurd h
means_count k tracked first0 numbers (b ∷ bs) [] h = absurd h
means_count k tracked first0 numbers (b ∷ bs) (d ∷ ds) h = ap suc (means_count k tracked first0 numbers bs ds h.1)

-- constant bounds close each dimension
pub open_constants : (value : List ℕ → Option Constant) (bs : List Bounds) (ds : List Dim) → ConstantsAre value bs ds → OpenLast ds
open_constants value [] [] h = tt
open_constants value [] (d ∷ ds) h = absurd h
open_constants value (b ∷ bs) [] h = absurd h
open_constants value (b ∷ bs) (d ∷ []) h = tt
open_constants value (b ∷ bs) (d ∷ (f ∷ ds)) h = ((h.0.last, h.0.number), open_constants value bs (f ∷ ds) h.1)

high_closed : (k : Scalars) (tracked : ℕ → Bool) (first0 : ℕ → ℕ) (numbers : ℕ → ℤ) (o : Option ExprTree) (n : Option ℤ) → HighMeans k tracked first0 numbers o n → is_some o ≡ true → (m : ℤ) × (n ≡ Some m)
high_closed k tracked first0 numbers None n h e = absurd (true≢false (sym e))
high_closed k tracked first0 numbers (Some f) None h e = absurd h
high_closed k tracked first0 numbers (Some f) (Some n) h e = (n, refl)

-- only the last dimension is open where only the last bound is
open_means : (k : Scalars) (tracked : ℕ → Bool) (first0 : ℕ → ℕ) (numbers : ℕ → ℤ) (bs : List Bounds) (ds : List Dim) → BoundsMean k tracked first0 numbers (map bound_of bs) ds → OpenBounds bs → OpenLast ds
open_means k tracked first0 numbers [] [] h o = tt
open_means k tracked first0 numbers [] (d ∷ ds) h o = absurd h
open_means k tracked first0 numbers (b ∷ bs) [] h o = absurd h
open_means k tracked first0 numbers (b ∷ []) (d ∷ []) h o = tt
open_means k tracked first0 numbers (b ∷ []) (d ∷ (f ∷ ds)) h o = absurd h.1
open_means k tracked first0 numbers (b ∷ (c ∷ bs)) (d ∷ []) h o = tt
open_means k tracked first0 numbers (b ∷ (c ∷ bs)) (d ∷ (f ∷ ds)) h o = (high_closed k tracked first0 numbers b.high d.high h.0.high_means o.0, open_means k tracked first0 numbers (c ∷ bs) (f ∷ ds) h.1 o.1)

-- ---- dummies

locks : (locked : Locks) (ds : List Dummy) (at : Places) (common : ℕ → Bool) (u : ℕ) → doubly_reached ds at common u ≡ true → lock_doubly locked ds at common u ≡ None → ⊥
locks locked ds at common u h e = go (locked u) (sym (ap (λ b. if b then first_lock (locked u) Shared else locked u) h) ∙ e)
  where
    go : (o : Option Fault) → first_lock o Shared ≡ None → ⊥
    go None q = cc
    go (Some f) q = cc

inside_in : (p : Place) (u : ℕ) → Inside p u → in_place p u ≡ true
inside_in p u h =
    let there = h.is_there in
    let less = h.less in
    let low : p.first ≤ u = omega (arith, there) in
    let high : u < p.first + p.extent = omega (arith, there, less) in
    and_both (nat_le p.first u) (nat_lt u (p.first + p.extent)) (grind (arith, nat_tests, low)) (grind (arith, nat_tests, high))

pub unlocked_before : (locked : Locks) (ds : List Dummy) (at : Places) (common : ℕ → Bool) (u : ℕ) → lock_doubly locked ds at common u ≡ None → locked u ≡ None
unlocked_before locked ds at common u e = go (doubly_reached ds at common u) (locked u) refl e
  where
    go : (c : Bool) (o : Option Fault) → locked u ≡ o → (if c then first_lock o Shared else locked u) ≡ None → locked u ≡ None
    go c None q i = q
    go true (Some f) q i = cc
    go false (Some f) q i = i

pub in_inside : (p : Place) (u : ℕ) → in_place p u ≡ true → Inside p u
in_inside p u h =
    let q = and_parts (nat_le p.first u) (nat_lt u (p.first + p.extent)) h in
    let low : p.first ≤ u = (let a = q.0 in grind (arith, nat_tests, a)) in
    let high : u < p.first + p.extent = (let a = q.1 in grind (arith, nat_tests, a)) in
    record { offset = u - p.first; is_there = omega (arith, low); less = omega (arith, low, high) }

has_if : (c : Bool) (p : Place) (phi : ℕ → ℤ) (u : ℕ) → elements_if c p phi ≡ Some u → HasUnit p u
has_if true p phi u e = (let r = inside_of p phi u e in record { offset = r.offset; less = r.less; is_there = r.is_there })
has_if false p phi u e = absurd (none_some u e)

-- ---- variables of a module that runs

-- the units of expressions that a module is offered are locked
abbrev pub OffersLocked : List Known → Graph → Part → List Place → Locks → Type 0
OffersLocked ks g k ps locked = (u : ℕ) → in_bound k.routine.dummies ps u ≡ true → is_own_unit (numbering ks g) u ≡ true → locked u ≡ None → ⊥

module _ (ks : List Known) (g : Graph) (b : Blocks) (k : Part) (sane : Sane b k) (regular : Regular k) (joins : Joins ks g k) (may_name : Named → Bool) (laid : Laid ks g k may_name) (ps : List Place) (locked : Locks) (ent : Entered k ps locked) (offers : OffersLocked ks g k ps locked) (at : Places) (made : Made k.routine.dummies ps (places_in k ps) at) where
  fixed_at : (v : ℕ) → NoDummy k.routine.dummies v → at v ≡ k.routine.fixed v
  fixed_at v n = made.other v n ∙ scalars_fixed k.routine.dummies ps k.routine.fixed v n

  abbrev lock_in : Locks
  lock_in = lock_doubly locked k.routine.dummies at k.routine.common

  -- a unit of a dummy is offered to it
  pub offered : (o : ℕ) (d : Dummy) (u : ℕ) → slice_get k.routine.dummies o ≡ Some d → Inside (at d.symbol) u → in_bound k.routine.dummies ps u ≡ true
  offered o d u e h = bound_at k.routine.dummies ps o d u e (⊎_elim (λ a. scalar a.0 a.1) (λ a. array a.1) (made.dummy o d e))
    where
      scalar : d.bounds ≡ [] → at d.symbol ≡ places_in k ps d.symbol → in_place (nth ps o) u ≡ true
      scalar q s =
          let p : at d.symbol ≡ _ = s ∙ scalars_dummy k.routine.dummies ps k.routine.fixed o d sane.distinct e in
          let there : (nth ps o).first + h.offset ≡ u = ap (λ (y : Place). y.first + h.offset) (sym p) ∙ h.is_there in
          let one : (at d.symbol).extent ≡ 1 = ap (λ (y : Place). y.extent) p in
          let solid = ent.solid o d e q in
          let less = h.less in
          inside_in (nth ps o) u (record { offset = h.offset; is_there = there; less = omega (arith, one, solid, less) })

      array : AsArray (nth ps o) (at d.symbol) → in_place (nth ps o) u ≡ true
      array a =
          let less = h.less in
          let extent = a.extent in
          inside_in (nth ps o) u (record { offset = h.offset; is_there = ap (λ n. n + h.offset) (sym a.first) ∙ h.is_there; less = omega (arith, less, extent) })

  -- where a unit of a variable lies
  data Lies (v : Named) (u : ℕ) : Type 0 where
    of_dummy : (n : ℕ) → v ≡ Own n → (o : DummyOf k.routine.dummies n) → Inside (at n) u → Lies v u
    of_fixed : IsFixed k v → HasUnit (fixed_place ks g k v) u → Lies v u

  dummy_offered : (n : ℕ) (o : DummyOf k.routine.dummies n) (u : ℕ) → Inside (at n) u → in_bound k.routine.dummies ps u ≡ true
  dummy_offered n o u h = offered o.at o.dummy u o.is_dummy (subst (λ y. Inside (at y) u) (sym o.symbol) h)

  own_lies : (v : ℕ) (s : SymbolTree) → symbol_at k.scope.symbols v ≡ Some s → is_constant s.place ≡ false → (u : ℕ) → Inside (at v) u → Lies (Own v) u
  own_lies v s e c u h = ⊎_elim (λ o. of_dummy v refl o h) (λ n. of_fixed ((s, e, c), n) (let r : Inside (k.routine.fixed v) u = subst (λ (p : Place). Inside p u) (fixed_at v n) h in record { offset = r.offset; less = r.less; is_there = r.is_there })) (find_dummy k.routine.dummies v)

  -- a unit of a variable that is no dummy is in COMMON, or one of the module's own or below
  outer : (v : Named) → may_name v ≡ true → IsFixed k v → (u : ℕ) → HasUnit (fixed_place ks g k v) u → (k.routine.common u ≡ true) ⊎ (k.owns u ≡ true)
  outer (Own v) m f u h = laid.lies v u f h
  outer (Block c) m f u h = inl (laid.block c u m h)
  outer (Saved n x) m f u h = inr (sane.below_owned u (laid.saved n x u m h))

  -- a dummy and a variable that is none
  mixed : (n : ℕ) (o : DummyOf k.routine.dummies n) (w : Named) → may_name w ≡ true → IsFixed k w → (u : ℕ) → Inside (at n) u → HasUnit (fixed_place ks g k w) u → lock_in u ≡ None → ⊥
  mixed n o w m f u a h free =
      let d : Inside (at o.dummy.symbol) u = subst (λ y. Inside (at y) u) (sym o.symbol) a in
      ⊎_elim
      (λ q. locks locked k.routine.dummies at k.routine.common u (with_common k.routine.dummies at k.routine.common o.at o.dummy u o.is_dummy (inside_in (at o.dummy.symbol) u d) q) free)
      (λ q. true≢false (sym q ∙ ent.places u (dummy_offered n o u a)))
      (outer w m f u h)

  two : (n m : ℕ) (o : DummyOf k.routine.dummies n) (p : DummyOf k.routine.dummies m) (u : ℕ) → Inside (at n) u → Inside (at m) u → lock_in u ≡ None → (b : Bool) → nat_eq n m ≡ b → n ≡ m
  two n m o p u a z free true i = nat_same n m i
  two n m o p u a z free false i =
      absurd (locks locked k.routine.dummies at k.routine.common u
      (with_other k.routine.dummies at k.routine.common o.at p.at o.dummy p.dummy u o.is_dummy p.is_dummy
      (λ l. true≢false (sym (nat_eq_same n) ∙ (ap (nat_eq n) (sym o.symbol ∙ (l ∙ p.symbol)) ∙ i)))
      (inside_in (at o.dummy.symbol) u (subst (λ y. Inside (at y) u) (sym o.symbol) a)) (inside_in (at p.dummy.symbol) u (subst (λ y. Inside (at y) u) (sym p.symbol) z))) free)

  lies_apart : (v w : Named) → may_name v ≡ true → may_name w ≡ true → (u : ℕ) → Lies v u → Lies w u → lock_in u ≡ None → (v ≡ w) ⊎ (overlap k.scope.symbols w v ≡ true)
  lies_apart v w mv mw u (of_dummy n e o a) (of_dummy m f p z) free = inl (e ∙ (ap Own (two n m o p u a z free (nat_eq n m) refl) ∙ sym f))
  lies_apart v w mv mw u (of_dummy n e o a) (of_fixed f h) free = absurd (mixed n o w mw f u a h free)
  lies_apart v w mv mw u (of_fixed f h) (of_dummy m e p z) free = absurd (mixed m p v mv f u z h free)
  lies_apart v w mv mw u (of_fixed f h) (of_fixed f' h') free = laid.share v w mv mw f f' u h h'

  lies_no_actual : (v : Named) → may_name v ≡ true → (u : ℕ) → Lies v u → lock_in u ≡ None → is_own_unit (numbering ks g) u ≡ false
  lies_no_actual v m u (of_dummy n e o a) free = not_so (is_own_unit (numbering ks g) u) (λ q. offers u (dummy_offered n o u a) q (unlocked_before locked k.routine.dummies at k.routine.common u free))
  lies_no_actual v m u (of_fixed f h) free = laid.no_actual v m f u h

  below_owns : (u : ℕ) → k.below u ≡ true → k.owns u ≡ false → ⊥
  below_owns u b f = true≢false (sym (sane.below_owned u b) ∙ f)

  fixed_not_lost : (v : Named) → may_name v ≡ true → IsFixed k v → (u : ℕ) → HasUnit (fixed_place ks g k v) u → k.below u ≡ true → (m : List ℕ) → IsLost ks g m u → ⊥
  fixed_not_lost (Own v) m f u h l n i = true≢false (sym l ∙ laid.above v u f h)
  fixed_not_lost (Block c) m f u h l n i = true≢false (sym (laid.block c u m h) ∙ sane.private u (sane.below_owned u l))
  fixed_not_lost (Saved y x) m f u h l n i = laid.not_lost y x u m h n i

  lies_not_lost : (v : Named) → may_name v ≡ true → (u : ℕ) → Lies v u → k.below u ≡ true → (m : List ℕ) → IsLost ks g m u → ⊥
  lies_not_lost v m u (of_dummy n e o a) l x i = below_owns u l (ent.places u (dummy_offered n o u a))
  lies_not_lost v m u (of_fixed f h) l x i = fixed_not_lost v m f u h l x i

  -- ---- dimensions

  module _ (began : Store) (bound : Bound g b k sane ps began at) where
    -- a dummy without bounds is one unit, and those of others mean its dimensions
    data Shaped (v : ℕ) (s : SymbolTree) : Type 0 where
      flat : s.bounds ≡ [] → (at v).dims ≡ [] → Shaped v s
      closed : ConstantsAre k.scope.scalars.value s.bounds (at v).dims → Shaped v s
      meant : BoundsMean k.scope.scalars (is_cell k.scope.tracked) (unit_in (places_in k ps)) (numbers_of began) (map bound_of s.bounds) (at v).dims → Shaped v s

    shaped : (v : ℕ) (s : SymbolTree) → symbol_at k.scope.symbols v ≡ Some s → is_constant s.place ≡ false → Shaped v s
    shaped v s e c = ⊎_elim dummy (λ n. closed (subst (λ (p : Place). ConstantsAre k.scope.scalars.value s.bounds p.dims) (sym (fixed_at v n)) (joins.fixed v s e c n).constants)) (find_dummy k.routine.dummies v)
      where
        dummy : DummyOf k.routine.dummies v → Shaped v s
        dummy o =
            let same : o.dummy.bounds ≡ map bound_of s.bounds = joins.bounds o.at o.dummy s o.is_dummy (ap (symbol_at k.scope.symbols) o.symbol ∙ e) in
            ⊎_elim
            (λ a. flat (none_bound s.bounds (sym same ∙ a.0)) (ap (λ n. (at n).dims) (sym o.symbol) ∙ ap (λ (p : Place). p.dims) (a.1 ∙ scalars_dummy k.routine.dummies ps k.routine.fixed o.at o.dummy sane.distinct o.is_dummy)))
            (λ a. meant
            (subst (λ n. BoundsMean k.scope.scalars (is_cell k.scope.tracked) (unit_in (places_in k ps)) (numbers_of began) (map bound_of s.bounds) (at n).dims) o.symbol
            (subst (λ bs. BoundsMean k.scope.scalars (is_cell k.scope.tracked) (unit_in (places_in k ps)) (numbers_of began) bs (at o.dummy.symbol).dims) same (bound.arrays o.at o.dummy o.is_dummy a.0).1)))
            (made.dummy o.at o.dummy o.is_dummy)

    open_own : (v : ℕ) (s : SymbolTree) → symbol_at k.scope.symbols v ≡ Some s → is_constant s.place ≡ false → OpenLast (at v).dims
    open_own v s e c = go (shaped v s e c)
      where
        go : Shaped v s → OpenLast (at v).dims
        go (flat n d) = subst (λ ds. OpenLast ds) (sym d) tt
        go (closed h) = open_constants k.scope.scalars.value s.bounds (at v).dims h
        go (meant h) = open_means k.scope.scalars (is_cell k.scope.tracked) (unit_in (places_in k ps)) (numbers_of began) s.bounds (at v).dims h (joins.open_last v s e)

    count_is : (v : ℕ) (s : SymbolTree) → symbol_at k.scope.symbols v ≡ Some s → is_constant s.place ≡ false → bounds_count (symbol_at k.scope.symbols v) ≡ length (at v).dims
    count_is v s e c = ap bounds_count e ∙ go (shaped v s e c)
      where
        go : Shaped v s → length s.bounds ≡ length (at v).dims
        go (flat n d) = ap length n ∙ sym (ap length d)
        go (closed h) = constants_count k.scope.scalars.value s.bounds (at v).dims h
        go (meant h) = means_count k.scope.scalars (is_cell k.scope.tracked) (unit_in (places_in k ps)) (numbers_of began) s.bounds (at v).dims h

    module _ (calls : Called) (cs : Callees) (turns : ℕ) (callee : List ℕ → Meaning) (sound : Sound (setting ks g calls b cs k sane regular turns callee ps at)) where
      abbrev here : Frame
      here = frame ks g calls b cs k sane regular turns callee ps may_name laid at

      -- of a variable of the module, with the symbol that it has
      by_symbol : (A : Type 0) (v : ℕ) (phi : ℕ → ℤ) (u : ℕ) → elements_at here.base (Own v) phi ≡ Some u → ((s : SymbolTree) → symbol_at k.scope.symbols v ≡ Some s → is_constant s.place ≡ false → elements_of (at v) phi ≡ Some u → A) → A
      by_symbol A v phi u e f = go (symbol_at k.scope.symbols v) refl e
        where
          by_place : (s : SymbolTree) → symbol_at k.scope.symbols v ≡ Some s → (c : Bool) → is_constant s.place ≡ c → elements_if (not c) (at v) phi ≡ Some u → A
          by_place s q true r a = absurd (none_some u a)
          by_place s q false r a = f s q r a

          go : (o : Option SymbolTree) → symbol_at k.scope.symbols v ≡ o → elements_if (is_stored o) (at v) phi ≡ Some u → A
          go None q a = absurd (none_some u a)
          go (Some s) q a = by_place s q (is_constant s.place) refl a

      element_lies : (v : Named) (phi : ℕ → ℤ) (u : ℕ) → elements_at here.base v phi ≡ Some u → Lies v u
      element_lies (Own v) phi u e = by_symbol (Lies (Own v) u) v phi u e (λ s q c a. own_lies v s q c u (inside_of (at v) phi u a))
      element_lies (Block c) phi u e = of_fixed tt (has_if (is_told (Block c)) (block_place ks g c) phi u e)
      element_lies (Saved m x) phi u e = of_fixed tt (has_if (is_told (Saved m x)) (saved_place ks g ks m x) phi u e)

      if_once : (c : Bool) (p : Place) (phi psi : ℕ → ℤ) (u : ℕ) → OpenLast p.dims → elements_if c p phi ≡ Some u → elements_if c p psi ≡ Some u → (i : ℕ) → 0 < i → i ≤ length p.dims → phi i ≡ psi i
      if_once true p phi psi u o e f i l h = place_once p phi psi u o e f i l h
      if_once false p phi psi u o e f i l h = cc

      units_once : (v : Named) → may_name v ≡ true → (phi psi : ℕ → ℤ) (u : ℕ) → elements_at here.base v phi ≡ Some u → elements_at here.base v psi ≡ Some u → (i : ℕ) → 0 < i → i ≤ rank ks g k.scope.symbols v → phi i ≡ psi i
      units_once (Own v) m phi psi u e f i l h =
          by_symbol (phi i ≡ psi i) v phi u e (λ s q c a. by_symbol (phi i ≡ psi i) v psi u f (λ s' q' c' a'. place_once (at v) phi psi u (open_own v s q c) a a' i l (subst (λ n. i ≤ n) (count_is v s q c) h)))
      units_once (Block c) m phi psi u e f i l h = if_once (is_told (Block c)) (block_place ks g c) phi psi u tt e f i l h
      units_once (Saved n x) m phi psi u e f i l h = if_once (is_told (Saved n x)) (saved_place ks g ks n x) phi psi u (laid.open_saved n x m) e f i l h

      pub units_fit : UnitsFit here (lock_doubly locked k.routine.dummies at k.routine.common)
      units_fit = record {
        once = λ v phi psi u e f i l h. units_once v (element_named here v phi u e) phi psi u (element_of here v phi u e) (element_of here v psi u f) i l h;
        apart = λ v w phi psi u e f free. lies_apart v w (element_named here v phi u e) (element_named here w psi u f) u (element_lies v phi u (element_of here v phi u e)) (element_lies w psi u (element_of here w psi u f)) free;
        no_actual = λ v phi u e free. lies_no_actual v (element_named here v phi u e) u (element_lies v phi u (element_of here v phi u e)) free;
        no_actuals = λ x v e u h free. (let y = regular.variables x v e in lies_no_actual (Own v) (laid.own v) u (own_lies v y.symbol y.is_symbol y.stored u (in_inside (at v) u h)) free);
        not_lost = λ v phi u e l m i. lies_not_lost v (element_named here v phi u e) u (element_lies v phi u (element_of here v phi u e)) l m i;
      }
