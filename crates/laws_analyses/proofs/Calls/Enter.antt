-- What is known of units while a module runs that was entered.
use Rattle.std.proofs.Common.{◌≡◌, ℕ, zero, suc, ◌+◌, ◌-◌, ◌<◌, List, [], ◌∷◌, ◌⊎◌, inl, inr, ◌||◌, ◌&&◌, not, Option, Some, None, Bool, true, false, refl, sym, ap, ◌∙◌, subst, arith, nat_eq, true≢false, ⊎_elim}
use Rattle.std.specs.Prelude.{if◌then◌else◌, slice_get, is_some}
use Rattle.std.proofs.lemmas.Bool.Decides.{nat_tests}
use Rattle.std.proofs.lemmas.Bool.{not-true, and_from, or_left, or_right, and_parts}
use Rattle.f77_ast.specs.Faults.{Fault, Locked, Shared}
use Rattle.f77_ast.specs.Places.{Variable, Place, Places, scalar_place}
use Rattle.f77_ast.specs.Writes.{Locks, lock, first_lock}
use Rattle.f77_ast.specs.Calls.{Dummy, in_place, in_dummies, doubly_reached, lock_doubly}
use Rattle.f77_ast.specs.declared.variable.Unit.{Unit as BlockUnit}
use Rattle.affine_forms.specs.Scalars.{is_cell}
use Rattle.affine_forms.specs.Claims.{unit_in}
use Rattle.preconditions.specs.call_translation.Common.{declares}
use Rattle.laws_analyses.specs.Statements.Activation.{is_locked, Fit}
use Rattle.laws_analyses.proofs.Statements.Loops.{also, lock_more, lock_both, fit_lock, first_some}
use Rattle.laws_analyses.specs.Calls.Parts.{Blocks, Part, DummyOf, NoDummy, nth, in_bound, places_in, far_in, scene_in, reach, still_in, Sane}
use Rattle.laws_analyses.specs.Calls.Sites.{Entered}
use Rattle.laws_analyses.proofs.Calls.Bound.{scalars_fixed, scalars_dummy, AsArray, Made, bound_at}
use Rattle.laws_analyses.proofs.UnitLaws.{in_own}
use Rattle.fx_lists.proofs.Numbers.{nat_eq_same, same_is as nat_same}
use Rattle.fx_lists.proofs.Booleans.{clash as clashes, bool_cases}

pub or_cases : (a b : Bool) (X : Type 0) → (a || b) ≡ true → (a ≡ true → X) → (b ≡ true → X) → X
or_cases true b X h f g = f refl
or_cases false b X h f g = g h

-- ---- dummies

pub find_dummy : (ds : List Dummy) (v : ℕ) → DummyOf ds v ⊎ NoDummy ds v
find_dummy [] v = inr (λ o. (let h = o.is_dummy in cc))
find_dummy (d ∷ ds) v = go (nat_eq d.symbol v) refl (find_dummy ds v)
  where
    none : nat_eq d.symbol v ≡ false → NoDummy ds v → (i : ℕ) (f : Dummy) → slice_get (d ∷ ds) i ≡ Some f → f.symbol ≡ v → ⊥
    none e n zero f q r = let same : d ≡ f = cc in clashes (nat_eq d.symbol v) (ap (λ y. nat_eq y v) (ap (λ y. y.symbol) same ∙ r) ∙ nat_eq_same v) e
    none e n (suc i) f q r = n (record { at = i; dummy = f; is_dummy = q; symbol = r })

    go : (b : Bool) → nat_eq d.symbol v ≡ b → DummyOf ds v ⊎ NoDummy ds v → DummyOf (d ∷ ds) v ⊎ NoDummy (d ∷ ds) v
    go true e h = inl (record { at = zero; dummy = d; is_dummy = refl; symbol = nat_same d.symbol v e })
    go false e h = ⊎_elim (λ o. inl (record { at = suc o.at; dummy = o.dummy; is_dummy = o.is_dummy; symbol = o.symbol })) (λ n. inr (λ o. none e n o.at o.dummy o.is_dummy o.symbol)) h

pub in_dummies_at : (ds : List Dummy) (at : Places) (i : ℕ) (d : Dummy) (u : ℕ) → slice_get ds i ≡ Some d → in_place (at d.symbol) u ≡ true → in_dummies ds at u ≡ true
in_dummies_at [] at i d u e h = cc
in_dummies_at (f ∷ ds) at zero d u e h = let same : f ≡ d = cc in or_left (in_place (at f.symbol) u) (in_dummies ds at u) (ap (λ y. in_place (at y.symbol) u) same ∙ h)
in_dummies_at (f ∷ ds) at (suc i) d u e h = or_right (in_place (at f.symbol) u) (in_dummies ds at u) (in_dummies_at ds at i d u e h)

pub doubly_common : (ds : List Dummy) (at : Places) (common : ℕ → Bool) (i : ℕ) (d : Dummy) (u : ℕ) → slice_get ds i ≡ Some d → in_place (at d.symbol) u ≡ true → common u ≡ true → doubly_reached ds at common u ≡ true
doubly_common [] at common i d u e h c = cc
doubly_common (f ∷ ds) at common zero d u e h c =
    let same : f ≡ d = cc in
    or_left (in_place (at f.symbol) u && (in_dummies ds at u || common u)) (doubly_reached ds at common u) (and_from (in_place (at f.symbol) u) (in_dummies ds at u || common u) (ap (λ y. in_place (at y.symbol) u) same ∙ h) (or_right (in_dummies ds at u) (common u) c))
doubly_common (f ∷ ds) at common (suc i) d u e h c = or_right (in_place (at f.symbol) u && (in_dummies ds at u || common u)) (doubly_reached ds at common u) (doubly_common ds at common i d u e h c)

pub doubly_two : (ds : List Dummy) (at : Places) (common : ℕ → Bool) (i j : ℕ) (d f : Dummy) (u : ℕ) → slice_get ds i ≡ Some d → slice_get ds j ≡ Some f → (d.symbol ≡ f.symbol → ⊥) → in_place (at d.symbol) u ≡ true → in_place (at f.symbol) u ≡ true → doubly_reached ds at common u ≡ true
doubly_two [] at common i j d f u e q n h k = cc
doubly_two (g ∷ ds) at common zero zero d f u e q n h k = absurd (n (let same : d ≡ f = cc in ap (λ y. y.symbol) same))
doubly_two (g ∷ ds) at common zero (suc j) d f u e q n h k =
    let same : g ≡ d = cc in
    or_left (in_place (at g.symbol) u && (in_dummies ds at u || common u)) (doubly_reached ds at common u) (and_from (in_place (at g.symbol) u) (in_dummies ds at u || common u) (ap (λ y. in_place (at y.symbol) u) same ∙ h) (or_left (in_dummies ds at u) (common u) (in_dummies_at ds at j f u q k)))
doubly_two (g ∷ ds) at common (suc i) zero d f u e q n h k =
    let same : g ≡ f = cc in
    or_left (in_place (at g.symbol) u && (in_dummies ds at u || common u)) (doubly_reached ds at common u) (and_from (in_place (at g.symbol) u) (in_dummies ds at u || common u) (ap (λ y. in_place (at y.symbol) u) same ∙ k) (or_left (in_dummies ds at u) (common u) (in_dummies_at ds at i d u e h)))
doubly_two (g ∷ ds) at common (suc i) (suc j) d f u e q n h k = or_right (in_place (at g.symbol) u && (in_dummies ds at u || common u)) (doubly_reached ds at common u) (doubly_two ds at common i j d f u e q n h k)

doubly_locks : (locked : Locks) (ds : List Dummy) (at : Places) (common : ℕ → Bool) (u : ℕ) → doubly_reached ds at common u ≡ true → is_locked (lock_doubly locked ds at common) u ≡ true
doubly_locks locked ds at common u h = ap (λ b. is_some (if b then first_lock (locked u) Shared else locked u)) h ∙ first_some (locked u) Shared

still_locks : (locked : Locks) (ds : List Dummy) (at : Places) (common : ℕ → Bool) (u : ℕ) → is_locked locked u ≡ true → is_locked (lock_doubly locked ds at common) u ≡ true
still_locks locked ds at common u h = go (doubly_reached ds at common u)
  where
    go : (b : Bool) → is_some (if b then first_lock (locked u) Shared else locked u) ≡ true
    go true = first_some (locked u) Shared
    go false = h

-- what is locked was locked, or is reached by a dummy
locks_back : (locked : Locks) (ds : List Dummy) (at : Places) (common : ℕ → Bool) (u : ℕ) → is_locked (lock_doubly locked ds at common) u ≡ true → (doubly_reached ds at common u ≡ true) ⊎ (is_locked locked u ≡ true)
locks_back locked ds at common u h = go (doubly_reached ds at common u) refl h
  where
    go : (b : Bool) → doubly_reached ds at common u ≡ b → is_some (if b then first_lock (locked u) Shared else locked u) ≡ true → (doubly_reached ds at common u ≡ true) ⊎ (is_locked locked u ≡ true)
    go true e q = inl e
    go false e q = inr q

doubly_dummy : (ds : List Dummy) (at : Places) (common : ℕ → Bool) (u : ℕ) → doubly_reached ds at common u ≡ true → (i : ℕ) × (d : Dummy) × (slice_get ds i ≡ Some d) × (in_place (at d.symbol) u ≡ true)
doubly_dummy [] at common u h = absurd (true≢false (sym h))
doubly_dummy (d ∷ ds) at common u h =
    or_cases (in_place (at d.symbol) u && (in_dummies ds at u || common u)) (doubly_reached ds at common u) ((i : ℕ) × (f : Dummy) × (slice_get (d ∷ ds) i ≡ Some f) × (in_place (at f.symbol) u ≡ true)) h
    (λ q. (zero, d, refl, (and_parts (in_place (at d.symbol) u) (in_dummies ds at u || common u) q).0))
    (λ q. (let r = doubly_dummy ds at common u q in (suc r.0, r.1, r.2, r.3)))

-- ---- an activation

pub record Fits (b : Blocks) (k : Part) (ps : List Place) (at : Places) (locked : Locks) (still : ℕ → Bool) : Type 0 where
  pub base : Fit k.routine.names k.scalar at (scene_in b k ps at) locked still
  pub commons : (u : ℕ) → still u ≡ true → k.routine.common u ≡ true → is_locked locked u ≡ true
  pub hidden : (u : ℕ) → still u ≡ true → k.below u ≡ false
  pub free : (u : ℕ) → is_locked locked u ≡ true → k.below u ≡ false
  pub doubled : (c : ℕ) → is_cell k.scope.tracked c ≡ true → DummyOf k.routine.dummies c → k.routine.common (unit_in at c) ≡ true → is_locked locked (unit_in at c) ≡ true
  pub low : (x : List ℕ) (v n : ℕ) → k.routine.names x ≡ Variable v → n < (at v).extent → k.below ((at v).first + n) ≡ false
  pub low_cells : (c : ℕ) → is_cell k.scope.tracked c ≡ true → k.below (unit_in at c) ≡ false

-- where a variable lies
pub data Lies (k : Part) (ps : List Place) (at : Places) (v : ℕ) : Type 0 where
  as_scalar : (i : ℕ) (d : Dummy) → slice_get k.routine.dummies i ≡ Some d → d.symbol ≡ v → d.bounds ≡ [] → at v ≡ scalar_place (nth ps i).first d.tag → Lies k ps at v
  as_array : (i : ℕ) (d : Dummy) → slice_get k.routine.dummies i ≡ Some d → d.symbol ≡ v → (d.bounds ≡ [] → ⊥) → AsArray (nth ps i) (at v) → Lies k ps at v
  as_fixed : NoDummy k.routine.dummies v → at v ≡ k.routine.fixed v → Lies k ps at v

pub lies_in : (b : Blocks) (k : Part) → Sane b k → (ps : List Place) (at : Places) → Made k.routine.dummies ps (places_in k ps) at → (v : ℕ) → Lies k ps at v
lies_in b k sane ps at made v = ⊎_elim dummy (λ n. as_fixed n (made.other v n ∙ scalars_fixed k.routine.dummies ps k.routine.fixed v n)) (find_dummy k.routine.dummies v)
  where
    dummy : DummyOf k.routine.dummies v → Lies k ps at v
    dummy o =
        ⊎_elim
        (λ a. as_scalar o.at o.dummy o.is_dummy o.symbol a.0 (ap at (sym o.symbol) ∙ (a.1 ∙ scalars_dummy k.routine.dummies ps k.routine.fixed o.at o.dummy sane.distinct o.is_dummy)))
        (λ a. as_array o.at o.dummy o.is_dummy o.symbol a.0 (subst (λ y. AsArray (nth ps o.at) (at y)) o.symbol a.1))
        (made.dummy o.at o.dummy o.is_dummy)

module _ (b : Blocks) (k : Part) (sane : Sane b k) (ps : List Place) (locked : Locks) (ent : Entered k ps locked) (at : Places) (made : Made k.routine.dummies ps (places_in k ps) at) where
  abbrev ds : List Dummy
  ds = k.routine.dummies

  abbrev common : ℕ → Bool
  common = k.routine.common

  abbrev locks : Locks
  locks = lock_doubly locked ds at common

  abbrev still : ℕ → Bool
  still = still_in k ps locked

  lies : (v : ℕ) → Lies k ps at v
  lies v = lies_in b k sane ps at made v

  -- a unit of a dummy is offered to it
  scalar_in : (i : ℕ) (d : Dummy) (v n : ℕ) → slice_get ds i ≡ Some d → d.bounds ≡ [] → at v ≡ scalar_place (nth ps i).first d.tag → n < (at v).extent → in_place (nth ps i) ((at v).first + n) ≡ true
  scalar_in i d v n e f q h =
      let s = ent.solid i d e f in
      let f1 = ap (λ p. p.first) q in
      let f2 = ap (λ p. p.extent) q in
      let zero_n : n ≡ 0 = omega (arith, h, f2) in
      let there : (nth ps i).first + 0 ≡ (at v).first + n = omega (arith, f1, zero_n) in
      subst (λ u. in_place (nth ps i) u ≡ true) there (in_own (nth ps i) 0 s)

  array_in : (i v n : ℕ) → AsArray (nth ps i) (at v) → n < (at v).extent → in_place (nth ps i) ((at v).first + n) ≡ true
  array_in i v n a h =
      let e = a.extent in
      let there : (nth ps i).first + n ≡ (at v).first + n = ap (λ y. y + n) (sym a.first) in
      subst (λ u. in_place (nth ps i) u ≡ true) there (in_own (nth ps i) n (omega (arith, h, e)))

  -- a unit of a variable, by where it lies
  unit_cases : (v n : ℕ) (X : Type 0) → n < (at v).extent → ((i : ℕ) (d : Dummy) → slice_get ds i ≡ Some d → d.symbol ≡ v → in_bound ds ps ((at v).first + n) ≡ true → X) → (NoDummy ds v → at v ≡ k.routine.fixed v → n < (k.routine.fixed v).extent → X) → X
  unit_cases v n X h f g = go (lies v)
    where
      go : Lies k ps at v → X
      go (as_scalar i d e s q r) = f i d e s (bound_at ds ps i d ((at v).first + n) e (scalar_in i d v n e q r h))
      go (as_array i d e s q a) = f i d e s (bound_at ds ps i d ((at v).first + n) e (array_in i v n a h))
      go (as_fixed nd q) = g nd q (subst (λ p. n < p.extent) q h)

  moved : (v n : ℕ) (q : at v ≡ k.routine.fixed v) → (at v).first + n ≡ (k.routine.fixed v).first + n
  moved v n q = ap (λ p. p.first + n) q

  fixed_lies : (x : List ℕ) (v n : ℕ) → k.routine.names x ≡ Variable v → NoDummy ds v → at v ≡ k.routine.fixed v → n < (k.routine.fixed v).extent → (common ((at v).first + n) ≡ true) ⊎ (k.owns ((at v).first + n) ≡ true)
  fixed_lies x v n e nd q h = subst (λ u. (common u ≡ true) ⊎ (k.owns u ≡ true)) (sym (moved v n q)) (sane.lies x v n e nd h)

  never : {X : Type 0} (u : ℕ) → in_bound ds ps u ≡ true → k.owns u ≡ true → X
  never u h o = clashes (k.owns u) o (ent.places u h)

  reached : (x : List ℕ) (v n : ℕ) → k.routine.names x ≡ Variable v → n < (at v).extent → reach k ps ((at v).first + n) ≡ true
  reached x v n e h =
      unit_cases v n (reach k ps ((at v).first + n) ≡ true) h
      (λ i d s q o. or_left (in_bound ds ps ((at v).first + n)) (common ((at v).first + n) || k.owns ((at v).first + n)) o)
      (λ nd q l. or_right (in_bound ds ps ((at v).first + n)) (common ((at v).first + n) || k.owns ((at v).first + n)) (⊎_elim (λ c. or_left (common ((at v).first + n)) (k.owns ((at v).first + n)) c) (λ o. or_right (common ((at v).first + n)) (k.owns ((at v).first + n)) o) (fixed_lies x v n e nd q l)))

  lock_or : (u : ℕ) (X : Type 0) → still u ≡ true → (is_locked locked u ≡ true → X) → (reach k ps u ≡ false → X) → X
  lock_or u X h f g = or_cases (is_locked locked u) (not (reach k ps u)) X h f (λ q. g (not-true (reach k ps u) q))

  stays : (x : List ℕ) (v n : ℕ) → k.routine.names x ≡ Variable v → n < (at v).extent → still ((at v).first + n) ≡ true → is_locked locks ((at v).first + n) ≡ true
  stays x v n e h s = lock_or ((at v).first + n) (is_locked locks ((at v).first + n) ≡ true) s (λ l. still_locks locked ds at common ((at v).first + n) l) (λ r. clashes (reach k ps ((at v).first + n)) (reached x v n e h) r)

  far_parts : (u : BlockUnit) → far_in b k ps u ≡ true → (b.track u ≡ true) × (declares k.scope u.block u.offset ≡ false) × (in_bound ds ps (b.place u) ≡ false)
  far_parts u f =
      let a = and_parts (b.track u) (not (declares k.scope u.block u.offset) && not (in_bound ds ps (b.place u))) f in
      let c = and_parts (not (declares k.scope u.block u.offset)) (not (in_bound ds ps (b.place u))) a.1 in
      (a.0, not-true (declares k.scope u.block u.offset) c.0, not-true (in_bound ds ps (b.place u)) c.1)

  near : (x : List ℕ) (v n : ℕ) → k.routine.names x ≡ Variable v → n < (at v).extent → (u : BlockUnit) → far_in b k ps u ≡ true → b.place u ≡ (at v).first + n → ⊥
  near x v n e h u f q =
      let p = far_parts u f in
      unit_cases v n ⊥ h
      (λ i d s r o. clashes (in_bound ds ps (b.place u)) (ap (in_bound ds ps) q ∙ o) p.2)
      (λ nd r l. clashes (declares k.scope u.block u.offset) (sane.seen x v n e nd l u p.0 (q ∙ moved v n r)) p.1)

  zero_off : (c : ℕ) → unit_in at c + 0 ≡ unit_in at c
  zero_off c = omega arith

  -- of a tracked cell
  cell_extent : (c : ℕ) → is_cell k.scope.tracked c ≡ true → 0 < (at c).extent
  cell_extent c t = go (lies c)
    where
      go : Lies k ps at c → 0 < (at c).extent
      go (as_scalar i d e s q r) = let x = ap (λ p. p.extent) r in omega (arith, x)
      go (as_array i d e s q a) = absurd (q (sane.flat_cells i d e (subst (λ y. is_cell k.scope.tracked y ≡ true) (sym s) t)))
      go (as_fixed nd q) = subst (λ p. 0 < p.extent) (sym q) (sane.fixed_cells c t nd).1

  cell_flat : (c : ℕ) → is_cell k.scope.tracked c ≡ true → (at c).dims ≡ []
  cell_flat c t = go (lies c)
    where
      go : Lies k ps at c → (at c).dims ≡ []
      go (as_scalar i d e s q r) = ap (λ p. p.dims) r
      go (as_array i d e s q a) = absurd (q (sane.flat_cells i d e (subst (λ y. is_cell k.scope.tracked y ≡ true) (sym s) t)))
      go (as_fixed nd q) = ap (λ p. p.dims) q ∙ (sane.fixed_cells c t nd).0

  cell_in : (c : ℕ) → is_cell k.scope.tracked c ≡ true → in_place (at c) (unit_in at c) ≡ true
  cell_in c t = subst (λ u. in_place (at c) u ≡ true) (zero_off c) (in_own (at c) 0 (cell_extent c t))

  differ : (v c : ℕ) (d f : Dummy) → nat_eq v c ≡ false → d.symbol ≡ v → f.symbol ≡ c → d.symbol ≡ f.symbol → ⊥
  differ v c d f n p q r = clashes (nat_eq v c) (ap (λ y. nat_eq v y) (sym q ∙ (sym r ∙ p)) ∙ nat_eq_same v) n

  -- the unit of a tracked cell is none of another name, but where it is locked
  apart : (x : List ℕ) (v n c : ℕ) → k.routine.names x ≡ Variable v → n < (at v).extent → is_cell k.scope.tracked c ≡ true → nat_eq v c ≡ false → (at v).first + n ≡ unit_in at c → is_locked locks (unit_in at c) ≡ true
  apart x v n c e h t d q =
      unit_cases v n (is_locked locks (unit_in at c) ≡ true) h
      (λ i f s r o. cell_cases
      (λ j g s' r' o'. doubly_locks locked ds at common (unit_in at c) (doubly_two ds at common i j f g (unit_in at c) s s' (differ v c f g d r r') (v_in f r) (c_in g r')))
      (λ nd r' l. ⊎_elim (λ m. doubly_locks locked ds at common (unit_in at c) (doubly_common ds at common i f (unit_in at c) s (v_in f r) m)) (λ w. never (unit_in at c) (ap (in_bound ds ps) (sym q) ∙ o) w) (cell_lies nd r' l)))
      (λ nd r l. cell_cases
      (λ j g s' r' o'. ⊎_elim (λ m. doubly_locks locked ds at common (unit_in at c) (doubly_common ds at common j g (unit_in at c) s' (c_in g r') (ap common (sym q) ∙ m))) (λ w. never (unit_in at c) o' (ap k.owns (sym q) ∙ w)) (fixed_lies x v n e nd r l))
      (λ nd' r' l'. absurd (sane.apart x v n c e nd l t nd' d (sym (moved v n r) ∙ (q ∙ ap (λ p. p.first) r')))))
    where
      v_in : (f : Dummy) → f.symbol ≡ v → in_place (at f.symbol) (unit_in at c) ≡ true
      v_in f r = subst (λ y. in_place (at y) (unit_in at c) ≡ true) (sym r) (subst (λ u. in_place (at v) u ≡ true) q (in_own (at v) n h))

      c_in : (g : Dummy) → g.symbol ≡ c → in_place (at g.symbol) (unit_in at c) ≡ true
      c_in g r = subst (λ y. in_place (at y) (unit_in at c) ≡ true) (sym r) (cell_in c t)

      cell_lies : NoDummy ds c → at c ≡ k.routine.fixed c → 0 < (k.routine.fixed c).extent → (common (unit_in at c) ≡ true) ⊎ (k.owns (unit_in at c) ≡ true)
      cell_lies nd r l = subst (λ p. (common p.first ≡ true) ⊎ (k.owns p.first ≡ true)) (sym r) (sane.cells_lie c t nd)

      cell_cases : ((j : ℕ) (g : Dummy) → slice_get ds j ≡ Some g → g.symbol ≡ c → in_bound ds ps (unit_in at c) ≡ true → is_locked locks (unit_in at c) ≡ true) → (NoDummy ds c → at c ≡ k.routine.fixed c → 0 < (k.routine.fixed c).extent → is_locked locks (unit_in at c) ≡ true) → is_locked locks (unit_in at c) ≡ true
      cell_cases f g = unit_cases c 0 (is_locked locks (unit_in at c) ≡ true) (cell_extent c t) (λ j w s r o. f j w s r (subst (λ u. in_bound ds ps u ≡ true) (zero_off c) o)) g

  solid : (x : List ℕ) (v : ℕ) → k.routine.names x ≡ Variable v → k.scalar x ≡ true → 0 < (at v).extent
  solid x v e sc = go (lies v)
    where
      go : Lies k ps at v → 0 < (at v).extent
      go (as_scalar i d s r q p) = let y = ap (λ p. p.extent) p in omega (arith, y)
      go (as_array i d s r q a) = absurd (q (sane.flat i d x s (e ∙ ap Variable (sym r)) sc))
      go (as_fixed nd q) = subst (λ p. 0 < p.extent) (sym q) (sane.fixed_solid x v e sc nd)

  not_below : (u : ℕ) → k.owns u ≡ false → k.below u ≡ false
  not_below u o = bool_cases (k.below u) (k.below u ≡ false) (λ w. clashes (k.owns u) (sane.below_owned u w) o) (λ w. w)

  low : (x : List ℕ) (v n : ℕ) → k.routine.names x ≡ Variable v → n < (at v).extent → k.below ((at v).first + n) ≡ false
  low x v n e h =
      unit_cases v n (k.below ((at v).first + n) ≡ false) h
      (λ i d s r o. not_below ((at v).first + n) (ent.places ((at v).first + n) o))
      (λ nd q l. ap k.below (moved v n q) ∙ sane.hidden x v n e nd l)

  low_cells : (c : ℕ) → is_cell k.scope.tracked c ≡ true → k.below (unit_in at c) ≡ false
  low_cells c t =
      unit_cases c 0 (k.below (unit_in at c) ≡ false) (cell_extent c t)
      (λ i d s r o. not_below (unit_in at c) (ent.places (unit_in at c) (subst (λ u. in_bound ds ps u ≡ true) (zero_off c) o)))
      (λ nd q l. ap (λ p. k.below p.first) q ∙ sane.cells_hidden c t nd)

  offset_in : (p : Place) (u : ℕ) → in_place p u ≡ true → (n : ℕ) × (n < p.extent) × (p.first + n ≡ u)
  offset_in p u h = (u - p.first, grind (arith, nat_tests), grind (arith, nat_tests))

  dummy_owned : (u : ℕ) → doubly_reached ds at common u ≡ true → k.owns u ≡ false
  dummy_owned u h =
      let r = doubly_dummy ds at common u h in
      let o = offset_in (at r.1.symbol) u r.3 in
      unit_cases r.1.symbol o.0 (k.owns u ≡ false) o.1
      (λ i d s q w. ent.places u (subst (λ y. in_bound ds ps y ≡ true) o.2 w))
      (λ nd q l. absurd (nd (record { at = r.0; dummy = r.1; is_dummy = r.2; symbol = refl })))

  free : (u : ℕ) → is_locked locks u ≡ true → k.below u ≡ false
  free u h = not_below u (⊎_elim (λ q. dummy_owned u q) (λ q. ent.locks u q) (locks_back locked ds at common u h))

  pub begin_fits : Fits b k ps at locks still
  begin_fits = record {
    base = record { apart = apart; stays = stays; near = near; solid = solid; flat = λ x v e t. cell_flat v t };
    commons = λ u s c. lock_or u (is_locked locks u ≡ true) s (λ l. still_locks locked ds at common u l) (λ r. clashes (reach k ps u) (or_right (in_bound ds ps u) (common u || k.owns u) (or_left (common u) (k.owns u) c)) r);
    hidden = λ u s. lock_or u (k.below u ≡ false) s (λ l. not_below u (ent.locks u l)) (λ r. bool_cases (k.below u) (k.below u ≡ false) (λ w. clashes (reach k ps u) (or_right (in_bound ds ps u) (common u || k.owns u) (or_right (common u) (k.owns u) (sane.below_owned u w))) r) (λ w. w));
    free = free;
    doubled = λ c t o m. doubly_locks locked ds at common (unit_in at c) (doubly_common ds at common o.at o.dummy (unit_in at c) o.is_dummy (subst (λ y. in_place (at y) (unit_in at c) ≡ true) (sym o.symbol) (cell_in c t)) m);
    low = low;
    low_cells = low_cells;
  }

-- the index of a DO is locked too
pub more_fits : (b : Blocks) (k : Part) (ps : List Place) (at : Places) (locked : Locks) (still : ℕ → Bool) (x : List ℕ) (v : ℕ) → k.routine.names x ≡ Variable v → k.scalar x ≡ true → Fits b k ps at locked still → Fits b k ps at (lock locked (at v).first Locked) (also still (at v).first)
more_fits b k ps at locked still x v e sc f = record {
  base = fit_lock k.routine.names k.scalar at (scene_in b k ps at) locked still (at v).first Locked f.base;
  commons = λ u s c. lock_both locked still (at v).first Locked u (λ q. f.commons u q c) s;
  hidden = λ u s. or_cases (nat_eq u (at v).first) (still u) (k.below u ≡ false) s (λ q. ap k.below (nat_same u (at v).first q ∙ zero_off) ∙ f.low x v 0 e (f.base.solid x v e sc)) (λ q. f.hidden u q);
  free = λ u h. lock_free u h;
  doubled = λ c t o m. lock_more locked (at v).first Locked (unit_in at c) (f.doubled c t o m);
  low = f.low;
  low_cells = f.low_cells;
}
  where
    zero_off : (at v).first ≡ (at v).first + 0
    zero_off = omega arith

    own_low : k.below (at v).first ≡ false
    own_low = ap k.below zero_off ∙ f.low x v 0 e (f.base.solid x v e sc)

    lock_free : (u : ℕ) → is_locked (lock locked (at v).first Locked) u ≡ true → k.below u ≡ false
    lock_free u h = go (nat_eq u (at v).first) refl h
      where
        go : (b : Bool) → nat_eq u (at v).first ≡ b → is_some (if b then first_lock (locked u) Locked else locked u) ≡ true → k.below u ≡ false
        go true q r = ap k.below (nat_same u (at v).first q) ∙ (ap k.below zero_off ∙ f.low x v 0 e (f.base.solid x v e sc))
        go false q r = f.free u r
