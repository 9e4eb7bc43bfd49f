-- A CALL on units and numbers: where what is called is entered, and what it may have reached.
use Rattle.std.proofs.Common.{◌≡◌, ℕ, suc, ◌+◌, ◌-◌, ◌<◌, List, [], inl, ◌||◌, ◌&&◌, not, Option, Some, None, Bool, true, false, refl, sym, ap, ◌∙◌, subst, arith, nat_eq, true≢false, ⊎_elim}
use Rattle.std.specs.Prelude.{slice_get}
use Rattle.std.proofs.lemmas.Bool.Decides.{nat_tests}
use Rattle.std.proofs.lemmas.Bool.{not-true, or_left, or_right, and_parts}
use Rattle.affine_systems.specs.declared.row.System.{System}
use Rattle.f77_ast.specs.Trees.{ExprTree, ExprTrees}
use Rattle.f77_ast.specs.Trees as tree
use Rattle.f77_ast.specs.Store.{Store}
use Rattle.f77_ast.specs.Places.{Variable, Place, Places}
use Rattle.f77_ast.specs.Writes.{Locks}
use Rattle.f77_ast.specs.Calls.{Dummy, Actual, passed_by_reference, places_of, own_units, lock_own, in_place}
use Rattle.f77_ast.specs.declared.variable.Unit.{Unit as BlockUnit}
use Rattle.tracked_cells.specs.Scalars.{unit}
use Rattle.affine_forms.specs.Scalars.{is_cell}
use Rattle.affine_forms.specs.Claims.{unit_in, numbers_of}
use Rattle.preconditions.specs.transformer_algebra.Claims.{Scene, HoldsAt}
use Rattle.preconditions.specs.call_translation.Common.{declares}
use Rattle.preconditions.specs.call_translation.Actuals.{named_cell, actual_at}
use Rattle.preconditions.specs.call_translation.Call.{CallTree}
use Rattle.preconditions.specs.call_translation.Sites.{HoldingSite}
use Rattle.preconditions.specs.transformers.Given.{Callees}
use Rattle.laws_analyses.specs.Statements.Activation.{is_locked, Still}
use Rattle.laws_analyses.specs.Calls.Scenes.{IsInBlock, IsSceneOf, outside}
use Rattle.laws_analyses.specs.Calls.Bindings.{Binds, Begins, Reached, passed_to, shared_with, passed_by, untouched, FarReached, far_shared_with, far_passed_by, Runs}
use Rattle.laws_analyses.proofs.Calls.AllLaws.{entry_rules_hold}
use Rattle.laws_analyses.specs.Calls.Actuals.{Activation, Fits as ActualsFit, AreOffered}
use Rattle.laws_analyses.specs.Calls.ActualLaws.{AreBound}
use Rattle.laws_analyses.proofs.Calls.BeginLaws.{begin_dummies}
use Rattle.laws_analyses.specs.Calls.Parts.{Blocks, Part, DummyOf, NoDummy, nth, in_bound, places_in, far_in, scene_in, reach, still_in, Sane}
use Rattle.laws_analyses.specs.Calls.Sites.{Site, Entered}
use Rattle.laws_analyses.proofs.Calls.Bound.{scalars_fixed, scalars_dummy, Made, Offered, offered_to}
use Rattle.laws_analyses.proofs.Calls.Enter.{or_cases, find_dummy, Fits}
use Rattle.laws_analyses.proofs.Calls.Actuals.{Stands, as_name, as_part, as_value, StandFor, StandsAt, stands_at, stands_back, nth_place, own_more, own_less, OwnUnit, own_unit_of}
use Rattle.fx_lists.proofs.Numbers.{same_is as nat_same}
use Rattle.fx_lists.proofs.Booleans.{clash as clashes, bool_cases}

-- a module that runs is a scene of its table
pub scene_of : (b : Blocks) (k : Part) → Sane b k → (ps : List Place) (at : Places) → Made k.routine.dummies ps (places_in k ps) at → IsSceneOf k.scope (scene_in b k ps at)
scene_of b k sane ps at made = record {
  tracked = λ c. refl;
  blocks = λ c x o t i. (let q = sane.in_block c x o t i in ap (λ p. p.first) (made.other c q.0 ∙ scalars_fixed k.routine.dummies ps k.routine.fixed c q.0) ∙ q.1);
  apart = λ c d x o t r i j. sane.one_each c d x o t r i j;
  hidden = λ u f. not-true (declares k.scope u.block u.offset) (and_parts (not (declares k.scope u.block u.offset)) (not (in_bound k.routine.dummies ps (b.place u))) (and_parts (b.track u) (not (declares k.scope u.block u.offset) && not (in_bound k.routine.dummies ps (b.place u))) f).1).0;
}

-- nothing is made of the places yet
pub made_same : (k : Part) (ps : List Place) → ((i : ℕ) (d : Dummy) → slice_get k.routine.dummies i ≡ Some d → d.bounds ≡ []) → Made k.routine.dummies ps (places_in k ps) (places_in k ps)
made_same k ps flat = record { other = λ v n. refl; dummy = λ i d e. inl (flat i d e, refl) }

-- the same without the arrays
pub scene_begun : (b : Blocks) (k : Part) → Sane b k → (ps : List Place) → IsSceneOf k.scope (scene_in b k ps (places_in k ps))
scene_begun b k sane ps = record {
  tracked = λ c. refl;
  blocks = λ c x o t i. (let q = sane.in_block c x o t i in ap (λ p. p.first) (scalars_fixed k.routine.dummies ps k.routine.fixed c q.0) ∙ q.1);
  apart = λ c d x o t r i j. sane.one_each c d x o t r i j;
  hidden = λ u f. not-true (declares k.scope u.block u.offset) (and_parts (not (declares k.scope u.block u.offset)) (not (in_bound k.routine.dummies ps (b.place u))) (and_parts (b.track u) (not (declares k.scope u.block u.offset) && not (in_bound k.routine.dummies ps (b.place u))) f).1).0;
}

offset_in : (p : Place) (u : ℕ) → in_place p u ≡ true → (n : ℕ) × (n < p.extent) × (p.first + n ≡ u)
offset_in p u h = (u - p.first, grind (arith, nat_tests), grind (arith, nat_tests))

module _ (b : Blocks) (cs : Callees) (sites : List ℕ → List HoldingSite) (h : Part) (sane_h : Sane b h) (psm : List Place) (at : Places) (made : Made h.routine.dummies psm (places_in h psm) at) (k : Part) (sane_k : Sane b k) (x : List ℕ) (es : ExprTrees) (P : System) (site : Site b cs sites h k x es P) (n : ℕ) (locked : Locks) (still : ℕ → Bool) (fits : Fits b h psm at locked still) (z : Store) (hp : HoldsAt (scene_in b h psm at) P (numbers_of z)) where
  abbrev own : ℕ → ℕ
  own = h.routine.own_unit n

  abbrev eh : Scene
  eh = scene_in b h psm at

  abbrev pub activation : Activation
  activation = record { names = h.routine.names; table = h.scope; at = at; tracked = is_cell h.scope.tracked; far = far_in b h psm; place = b.place; own = h.routine.own_unit n }

  zero_off : (c : ℕ) → unit_in at c + 0 ≡ unit_in at c
  zero_off c = omega arith

  cell_low : (c : ℕ) → is_cell h.scope.tracked c ≡ true → h.below (unit_in at c) ≡ false
  cell_low c t = fits.low_cells c t

  pub actuals_fit : ActualsFit activation
  actuals_fit = record {
    agrees = sane_h.names_fit.agrees;
    apart = λ i j e. site.own_each n i j e;
    cells = λ i c t e. true≢false (sym (site.own_below n i) ∙ (ap h.below e ∙ cell_low c t));
    far = λ i u f e. sane_h.no_block (own i) (sane_h.below_owned (own i) (site.own_below n i)) u (and_parts (b.track u) _ f).0 (sym e);
  }

  not_owned : (u : ℕ) → h.below u ≡ false → k.owns u ≡ false
  not_owned u e = bool_cases (k.owns u) (k.owns u ≡ false) (λ o. clashes (h.below u) (site.owned u o) e) (λ o. o)

  -- a unit of a name
  in_name : (y : List ℕ) (v u : ℕ) → h.routine.names y ≡ Variable v → in_place (at v) u ≡ true → (m : ℕ) × (m < (at v).extent) × ((at v).first + m ≡ u)
  in_name y v u e i = offset_in (at v) u i

  name_low : (y : List ℕ) (v u : ℕ) → h.routine.names y ≡ Variable v → in_place (at v) u ≡ true → h.below u ≡ false
  name_low y v u e i = let o = in_name y v u e i in ap h.below (sym o.2) ∙ fits.low y v o.0 e o.1

  name_stays : (y : List ℕ) (v u : ℕ) → h.routine.names y ≡ Variable v → in_place (at v) u ≡ true → still u ≡ true → is_locked locked u ≡ true
  name_stays y v u e i s = let o = in_name y v u e i in subst (λ w. is_locked locked w ≡ true) o.2 (fits.base.stays y v o.0 e o.1 (subst (λ w. still w ≡ true) (sym o.2) s))

  -- the unit of an expression
  single : (p : Place) (u : ℕ) → p.extent ≡ 1 → in_place p u ≡ true → p.first ≡ u
  single p u e i = grind (arith, nat_tests)

  -- where the actuals are evaluated
  module _ (s : Store) (xs : List Actual) (off : AreOffered activation es 0 z s xs) (st : StandFor h.routine.names at own es 0 xs) where
    abbrev pub ps : List Place
    ps = places_of xs

    abbrev pub passed : Locks
    passed = lock_own locked (own_units xs)

    abbrev ek : Scene
    ek = scene_in b k ps (places_in k ps)

    abbrev ds : List Dummy
    ds = k.routine.dummies

    -- what is offered to a dummy
    offer : (i : ℕ) (d : Dummy) → slice_get ds i ≡ Some d → (e : ExprTree) × (actual_at es i ≡ Some e) × StandsAt h.routine.names at own xs e i (0 + i)
    offer i d e = let a = site.actual i d e in (a.0, a.1, stands_at h.routine.names at own es 0 xs i a.0 st a.1)

    plain : (i : ℕ) → 0 + i ≡ i
    plain i = omega arith

    -- a unit that is offered is one of a name, or of an expression
    offered_cases : (u : ℕ) (X : Type 0) → in_bound ds ps u ≡ true → ((i : ℕ) (d : Dummy) (y : List ℕ) (v : ℕ) → slice_get ds i ≡ Some d → actual_at es i ≡ Some (tree.name y) → h.routine.names y ≡ Variable v → in_place (at v) u ≡ true → X) → ((y : List ℕ) (v : ℕ) → h.routine.names y ≡ Variable v → ((at v).dims ≡ [] → ⊥) → in_place (at v) u ≡ true → X) → ((i : ℕ) → own i ≡ u → X) → X
    offered_cases u X o f g w = go (offered_to ds ps u o)
      where
        go : Offered ds ps u → X
        go r = by (offer r.at r.dummy r.is_dummy)
          where
            by : (e : ExprTree) × (actual_at es r.at ≡ Some e) × StandsAt h.routine.names at own xs e r.at (0 + r.at) → X
            by q = kind q.2.stands
              where
                there : in_place q.2.actual.place u ≡ true
                there = ap (λ p. in_place p u) (sym (nth_place xs r.at q.2.actual q.2.is_actual_at)) ∙ r.inside

                kind : Stands h.routine.names at own q.0 (0 + r.at) q.2.actual → X
                kind (as_name y v a c d) = f r.at r.dummy y v r.is_dummy (q.1 ∙ ap Some a) c (ap (λ t. in_place t.place u) (sym d) ∙ there)
                kind (as_part y v a c d e l) = g y v a c (d u there)
                kind (as_value a c d) = w (0 + r.at) (sym a ∙ single q.2.actual.place u c there)

    -- ---- where what is called is entered

    place_owned : (u : ℕ) → in_bound ds ps u ≡ true → k.owns u ≡ false
    place_owned u o =
        offered_cases u (k.owns u ≡ false) o
        (λ i d y v e a c t. not_owned u (name_low y v u c t))
        (λ y v c d t. not_owned u (name_low y v u c t))
        (λ i q. ap k.owns (sym q) ∙ site.own_apart n i)

    lock_owned : (u : ℕ) → is_locked passed u ≡ true → k.owns u ≡ false
    lock_owned u l =
        own_less locked (own_units xs) (k.owns u ≡ false) u l
        (λ q. not_owned u (fits.free u q))
        (λ i q. by (own_unit_of xs i u q))
      where
        by : OwnUnit xs u → k.owns u ≡ false
        by r = kind (stands_back h.routine.names at own es 0 xs r.at r.actual st r.is_there)
          where
            kind : (e : ExprTree) × Stands h.routine.names at own e (0 + r.at) r.actual → k.owns u ≡ false
            kind q = go q.1
              where
                go : Stands h.routine.names at own q.0 (0 + r.at) r.actual → k.owns u ≡ false
                go (as_name y v a c d) = absurd (true≢false (sym r.own ∙ ap (λ t. t.own) d))
                go (as_part y v a c d e f) = absurd (true≢false (sym r.own ∙ f))
                go (as_value a c d) = ap k.owns (sym r.unit ∙ a) ∙ site.own_apart n (0 + r.at)

    solid_there : (i : ℕ) (d : Dummy) → slice_get ds i ≡ Some d → d.bounds ≡ [] → 0 < (nth ps i).extent
    solid_there i d e f = by (offer i d e)
      where
        by : (g : ExprTree) × (actual_at es i ≡ Some g) × StandsAt h.routine.names at own xs g i (0 + i) → 0 < (nth ps i).extent
        by q = subst (λ p. 0 < p.extent) (sym (nth_place xs i q.2.actual q.2.is_actual_at)) (kind q.2.stands)
          where
            kind : Stands h.routine.names at own q.0 (0 + i) q.2.actual → 0 < q.2.actual.place.extent
            kind (as_name y v a c t) = subst (λ w. 0 < w.place.extent) (sym t) (fits.base.solid y v c (site.scalars i d y e f (q.1 ∙ ap Some a) v c))
            kind (as_part y v a c t l w) = l
            kind (as_value a c t) = omega (arith, c)

    bound : AreBound k.scope.symbols xs ek
    bound d m a i q =
        let f = sane_k.dummies d m i in
        ap (λ y. (places_in k ps y).first) (sym f.2) ∙ (ap (λ p. p.first) (scalars_dummy ds ps k.routine.fixed (m - 1) f.0 sane_k.distinct f.1) ∙ ap (λ p. p.first) (nth_place xs (m - 1) a q))

    abbrev call : CallTree
    call = record { caller = h.scope; actuals = es; symbols = k.scope.symbols }

    pub binds : Binds call eh ek
    binds = record {
      caller = scene_of b h sane_h psm at made;
      callee = λ c y o t i. (scene_begun b k sane_k ps).blocks c y o t i;
      places = λ u. refl;
      passed_by_reference = (begin_dummies activation actuals_fit es z s xs off k.scope.symbols ek bound).1;
    }

    pub begins : Begins call eh ek (numbers_of z) (numbers_of s)
    begins = (begin_dummies activation actuals_fit es z s xs off k.scope.symbols ek bound).0

    pub entry_there : HoldsAt (outside k.scope.symbols ek) k.entry (numbers_of s)
    entry_there =
        let c : HoldingSite = record { caller = h.scope; actuals = es; value = P } in
        subst (λ p. HoldsAt (outside k.scope.symbols ek) p (numbers_of s)) (sym site.entry)
        (entry_rules_hold.sites_hold k.scope c (sites x) (outside k.scope.symbols ek) (numbers_of s) site.site
        (entry_rules_hold.site_holds k.scope c eh ek (numbers_of z) (numbers_of s) (record { callee = scene_begun b k sane_k ps; dummies = λ d m y q i t. sane_k.int_dummies d m y q i t; binds = binds; begins = begins }) hp))

    pub entered : Entered k ps passed
    entered = record { locks = lock_owned; places = place_owned; solid = solid_there }

    -- ---- what stays

    -- actuals change the units of expressions alone
    pub same_there : (u : ℕ) → h.below u ≡ false → numbers_of s u ≡ numbers_of z u
    same_there u e = ap (λ c. c.number) (off.others u (λ i l q. true≢false (sym (site.own_below n i) ∙ (ap h.below q ∙ e))))

    pub keeps_still : (u : ℕ) → still u ≡ true → still_in k ps passed u ≡ true
    keeps_still u s = go (reach k ps u) refl
      where
        locked_there : is_locked locked u ≡ true → still_in k ps passed u ≡ true
        locked_there l = or_left (is_locked passed u) (not (reach k ps u)) (own_more locked (own_units xs) u l)

        low_off : {A : Type 0} → h.below u ≡ true → A
        low_off w = clashes (h.below u) w (fits.hidden u s)

        go : (r : Bool) → reach k ps u ≡ r → still_in k ps passed u ≡ true
        go false q = or_right (is_locked passed u) (not (reach k ps u)) (ap not q)
        go true q =
            or_cases (in_bound ds ps u) (k.routine.common u || k.owns u) (still_in k ps passed u ≡ true) q
            (λ o. offered_cases u (still_in k ps passed u ≡ true) o
            (λ i d y v e a c t. locked_there (name_stays y v u c t s))
            (λ y v c d t. locked_there (name_stays y v u c t s))
            (λ i w. low_off (ap h.below (sym w) ∙ site.own_below n i)))
            (λ o. or_cases (k.routine.common u) (k.owns u) (still_in k ps passed u ≡ true) o
            (λ c. locked_there (fits.commons u s (site.commons u c)))
            (λ w. low_off (site.owned u w)))

    -- a unit that is locked stays in what is called
    pub locked_still : (u : ℕ) → is_locked locked u ≡ true → still_in k ps passed u ≡ true
    locked_still u l = or_left (is_locked passed u) (not (reach k ps u)) (own_more locked (own_units xs) u l)

    -- ---- how it ends

    module _ (y : Store) (steady : Still (still_in k ps passed) s y) where
      abbrev Way : ℕ → Type 0
      Way v = Reached call eh ek (numbers_of s) (numbers_of y) v

      kept_locked : (v : ℕ) → is_locked locked (unit_in at v) ≡ true → Way v
      kept_locked v l = untouched (steady (unit_in at v) (locked_still (unit_in at v) l))

      one_less : (i : ℕ) → suc i - 1 ≡ i
      one_less i = omega arith

      -- its name stands among the actuals
      passed_way : (v i : ℕ) (d : Dummy) (w : List ℕ) → is_cell h.scope.tracked v ≡ true → slice_get ds i ≡ Some d → actual_at es i ≡ Some (tree.name w) → h.routine.names w ≡ Variable v → Way v
      passed_way v i d w t e a c =
          let nc : named_cell h.scope.scalars (tree.name w) ≡ Some v = sane_h.names_fit.cells w v c t in
          passed_to d.symbol (suc i) (site.cells i v d w e a c t) (sane_k.numbered i d e) (ap (λ j. cell_of (actual_at es j)) (one_less i) ∙ (ap cell_of a ∙ nc))
        where
          cell_of : Option ExprTree → Option ℕ
          cell_of None = None
          cell_of (Some f) = named_cell h.scope.scalars f

      -- another name has its unit
      other_way : (v w : ℕ) (x' : List ℕ) → is_cell h.scope.tracked v ≡ true → h.routine.names x' ≡ Variable w → in_place (at w) (unit_in at v) ≡ true → nat_eq w v ≡ false → Way v
      other_way v w x' t c i d = let o = offset_in (at w) (unit_in at v) i in kept_locked v (fits.base.apart x' w o.0 v c o.1 t d o.2)

      offered_way : (v : ℕ) → is_cell h.scope.tracked v ≡ true → in_bound ds ps (unit_in at v) ≡ true → Way v
      offered_way v t o =
          offered_cases (unit_in at v) (Way v) o
          (λ i d x' w e a c u. named i d x' w e a c u (nat_eq w v) refl)
          (λ x' w c dims u. part x' w c dims u (nat_eq w v) refl)
          (λ i q. clashes (h.below (unit_in at v)) (ap h.below (sym q) ∙ site.own_below n i) (cell_low v t))
        where
          named : (i : ℕ) (d : Dummy) (x' : List ℕ) (w : ℕ) → slice_get ds i ≡ Some d → actual_at es i ≡ Some (tree.name x') → h.routine.names x' ≡ Variable w → in_place (at w) (unit_in at v) ≡ true → (e : Bool) → nat_eq w v ≡ e → Way v
          named i d x' w e a c u true q = passed_way v i d x' t e a (c ∙ ap Variable (nat_same w v q))
          named i d x' w e a c u false q = other_way v w x' t c u q

          part : (x' : List ℕ) (w : ℕ) → h.routine.names x' ≡ Variable w → ((at w).dims ≡ [] → ⊥) → in_place (at w) (unit_in at v) ≡ true → (e : Bool) → nat_eq w v ≡ e → Way v
          part x' w c dims u true q = absurd (dims (fits.base.flat x' w c (subst (λ y. is_cell h.scope.tracked y ≡ true) (sym (nat_same w v q)) t)))
          part x' w c dims u false q = other_way v w x' t c u q

      -- not reached by what is called
      apart_way : (v : ℕ) → in_bound ds ps (unit_in at v) ≡ false → k.routine.common (unit_in at v) ≡ false → k.owns (unit_in at v) ≡ false → Way v
      apart_way v o c w = untouched (steady (unit_in at v) (or_right (is_locked passed (unit_in at v)) (not (reach k ps (unit_in at v))) (ap not (not_reached (in_bound ds ps (unit_in at v)) (k.routine.common (unit_in at v)) (k.owns (unit_in at v)) o c w))))
        where
          not_reached : (p q r : Bool) → p ≡ false → q ≡ false → r ≡ false → (p || (q || r)) ≡ false
          not_reached true q r e f g = absurd (true≢false e)
          not_reached false true r e f g = absurd (true≢false f)
          not_reached false false r e f g = g

      cell_owned : (v : ℕ) → is_cell h.scope.tracked v ≡ true → k.owns (unit_in at v) ≡ false
      cell_owned v t = not_owned (unit_in at v) (cell_low v t)

      -- a unit of a block that is reached by no name of what is called
      far_there : (u : BlockUnit) → b.track u ≡ true → declares k.scope u.block u.offset ≡ false → in_bound ds ps (b.place u) ≡ false → far_in b k ps u ≡ true
      far_there u t d o = all_three (b.track u) (declares k.scope u.block u.offset) (in_bound ds ps (b.place u)) t d o
        where
          all_three : (p q r : Bool) → p ≡ true → q ≡ false → r ≡ false → (p && (not q && not r)) ≡ true
          all_three false q r e f g = e
          all_three true true r e f g = absurd (true≢false f)
          all_three true false r e f g = ap not g

      -- of a cell in a block
      block_way : (v : ℕ) (x' : List ℕ) (o : ℕ) → is_cell h.scope.tracked v ≡ true → IsInBlock h.scope.symbols v x' o → b.track (unit x' o) ≡ true → unit_in at v ≡ b.place (unit x' o) → in_bound ds ps (unit_in at v) ≡ false → Way v
      block_way v x' o t i tr q nb =
          bool_cases (declares k.scope x' o) (Way v)
          (λ d. (let f = sane_k.full (unit x' o) tr d in shared_with f.0 x' o f.1 f.2 i))
          (λ d. passed_by (unit x' o) (far_there (unit x' o) tr d (ap (in_bound ds ps) (sym q) ∙ nb)) i)

      fixed_way : (v : ℕ) → is_cell h.scope.tracked v ≡ true → NoDummy h.routine.dummies v → in_bound ds ps (unit_in at v) ≡ false → Way v
      fixed_way v t nd nb =
          let same : at v ≡ h.routine.fixed v = made.other v nd ∙ scalars_fixed h.routine.dummies psm h.routine.fixed v nd in
          bool_cases (h.routine.common (unit_in at v)) (Way v)
          (λ c. (let g = sane_h.block_of v t nd (ap (λ p. h.routine.common p.first) (sym same) ∙ c) in let q = sane_h.in_block v g.0 g.1 t g.2 in block_way v g.0 g.1 t g.2 q.2 (ap (λ p. p.first) same ∙ q.1) nb))
          (λ c. apart_way v nb (bool_cases (k.routine.common (unit_in at v)) (k.routine.common (unit_in at v) ≡ false) (λ w. clashes (h.routine.common (unit_in at v)) (site.commons (unit_in at v) w) c) (λ w. w)) (cell_owned v t))

      dummy_way : (v : ℕ) → is_cell h.scope.tracked v ≡ true → DummyOf h.routine.dummies v → in_bound ds ps (unit_in at v) ≡ false → Way v
      dummy_way v t o nb =
          bool_cases (k.routine.common (unit_in at v)) (Way v)
          (λ c. kept_locked v (fits.doubled v t o (site.commons (unit_in at v) c)))
          (λ c. apart_way v nb c (cell_owned v t))

      way : (v : ℕ) → is_cell h.scope.tracked v ≡ true → Way v
      way v t =
          bool_cases (in_bound ds ps (unit_in at v)) (Way v) (λ o. offered_way v t o)
          (λ nb. ⊎_elim (λ o. dummy_way v t o nb) (λ nd. fixed_way v t nd nb) (find_dummy h.routine.dummies v))

      far_way : (u : BlockUnit) → far_in b h psm u ≡ true → FarReached call eh ek (numbers_of s) (numbers_of y) u
      far_way u f =
          let tr = (and_parts (b.track u) (not (declares h.scope u.block u.offset) && not (in_bound h.routine.dummies psm (b.place u))) f).0 in
          bool_cases (declares k.scope u.block u.offset) (FarReached call eh ek (numbers_of s) (numbers_of y) u)
          (λ d. (let g = sane_k.full u tr d in far_shared_with g.0 g.1 g.2))
          (λ d. bool_cases (in_bound ds ps (b.place u)) (FarReached call eh ek (numbers_of s) (numbers_of y) u)
          (λ o. absurd (offered_cases (b.place u) ⊥ o
          (λ i q x' w e a c v. in_name_far x' w c v)
          (λ x' w c dims v. in_name_far x' w c v)
          (λ i q. sane_h.no_block (own i) (sane_h.below_owned (own i) (site.own_below n i)) u tr (sym q))))
          (λ o. far_passed_by (far_there u tr d o)))
        where
          in_name_far : (x' : List ℕ) (w : ℕ) → h.routine.names x' ≡ Variable w → in_place (at w) (b.place u) ≡ true → ⊥
          in_name_far x' w c v = let o = offset_in (at w) (b.place u) v in fits.base.near x' w o.0 c o.1 u f (sym o.2)

      pub runs : (w : Store) → ((u : ℕ) → numbers_of w u ≡ numbers_of y u) → Runs call eh ek (numbers_of z) (numbers_of s) (numbers_of y) (numbers_of w)
      runs w e = record { binds = binds; begins = begins; cells = way; far = far_way; ends = record { cells = λ c t f. e (unit_in at c); foreign = λ u t f. e (b.place u) } }
