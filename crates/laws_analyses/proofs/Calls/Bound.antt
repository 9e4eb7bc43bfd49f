-- Where the dummies of a module lie that was entered.
use Rattle.std.proofs.Common.{◌≡◌, ℕ, zero, suc, ◌≤◌, List, [], ◌∷◌, ◌⊎◌, inl, inr, Option, Some, None, Bool, true, false, refl, sym, ap, ◌∙◌, subst, arith, nat_eq, nat_le, ◌||◌, true≢false, ⊎_elim}
use Rattle.std.specs.Prelude.{if◌then◌else◌, slice_get}
use Rattle.std.proofs.lemmas.Bool.Decides.{nat_tests}
use Rattle.std.proofs.lemmas.Bool.{or_left, or_right}
use Rattle.f77_ast.specs.Store.{Content, Store, put}
use Rattle.f77_ast.specs.Faults.{Bounds}
use Rattle.f77_ast.specs.Steps.{Done}
use Rattle.f77_ast.specs.Places.{Names, Dim, Place, Places, scalar_place, total_size}
use Rattle.f77_ast.specs.Values.{fault, value}
use Rattle.f77_ast.specs.Calls.{Dummy, BoundTree, first_place, other_places, scalars_bound, high_value, dims_read, is_open, open_extent, array_at, array_place, dummy_bound, arrays_bound, in_place}
use Rattle.f77_ast.specs.Trees.{ExprTree}
use Rattle.f77_ast.proofs.StepLaws.{Leads, leads_then}
use Rattle.laws_analyses.proofs.Statements.Evaluations.{value_leads}
use Rattle.laws_analyses.specs.Calls.Parts.{NoDummy, nth, in_bound}
use Rattle.laws_programs.proofs.Effects.Binding.{put_other as put_off}
use Rattle.f77_ast.proofs.Shared.{put_same as put_at}
use Rattle.fx_lists.proofs.Numbers.{same_is as nat_same, nat_eq_same}

abbrev pub Distinct : List Dummy → Type 0
Distinct ds = (i j : ℕ) (d f : Dummy) → slice_get ds i ≡ Some d → slice_get ds j ≡ Some f → d.symbol ≡ f.symbol → i ≡ j

distinct_rest : (d : Dummy) (ds : List Dummy) → Distinct (d ∷ ds) → Distinct ds
distinct_rest d ds h i j a b p q e = let s = h (suc i) (suc j) a b p q e in omega (arith, s)

-- the head is none of the others
head_apart : (d : Dummy) (ds : List Dummy) (i : ℕ) (f : Dummy) → Distinct (d ∷ ds) → slice_get ds i ≡ Some f → f.symbol ≡ d.symbol → ⊥
head_apart d ds i f h e q = let s = h zero (suc i) d f refl e (sym q) in omega (arith, s)

later : (d : Dummy) (ds : List Dummy) (v : ℕ) → NoDummy (d ∷ ds) v → NoDummy ds v
later d ds v n o = n (record { at = suc o.at; dummy = o.dummy; is_dummy = o.is_dummy; symbol = o.symbol })

not_head : (d : Dummy) (ds : List Dummy) (v : ℕ) → NoDummy (d ∷ ds) v → v ≡ d.symbol → ⊥
not_head d ds v n e = n (record { at = zero; dummy = d; is_dummy = refl; symbol = sym e })

-- ---- as scalars

pub scalars_fixed : (ds : List Dummy) (ps : List Place) (at : Places) (v : ℕ) → NoDummy ds v → scalars_bound ds ps at v ≡ at v
scalars_fixed [] ps at v n = refl
scalars_fixed (d ∷ ds) ps at v n = put_off (scalars_bound ds (other_places ps) at) d.symbol (scalar_place (first_place ps).first d.tag) v (not_head d ds v n) ∙ scalars_fixed ds (other_places ps) at v (later d ds v n)

pub scalars_dummy : (ds : List Dummy) (ps : List Place) (at : Places) (i : ℕ) (d : Dummy) → Distinct ds → slice_get ds i ≡ Some d → scalars_bound ds ps at d.symbol ≡ scalar_place (nth ps i).first d.tag
scalars_dummy [] ps at i d h e = cc
scalars_dummy (f ∷ ds) ps at zero d h e = let same : f ≡ d = cc in subst (λ x. scalars_bound (f ∷ ds) ps at x.symbol ≡ scalar_place (first_place ps).first x.tag) same (put_at (scalars_bound ds (other_places ps) at) f.symbol (scalar_place (first_place ps).first f.tag))
scalars_dummy (f ∷ ds) ps at (suc i) d h e =
    put_off (scalars_bound ds (other_places ps) at) f.symbol (scalar_place (first_place ps).first f.tag) d.symbol (λ q. head_apart f ds i d h e q)
    ∙ scalars_dummy ds (other_places ps) at i d (distinct_rest f ds h) e

-- ---- arrays

-- an array has the first unit that it is offered, and no more units
pub record AsArray (p q : Place) : Type 0 where
  pub first : q.first ≡ p.first
  pub extent : q.extent ≤ p.extent

-- what the bounds of the arrays make of places: a dummy without bounds stays, as all others do
pub record Made (ds : List Dummy) (ps : List Place) (at at' : Places) : Type 0 where
  pub other : (v : ℕ) → NoDummy ds v → at' v ≡ at v
  pub dummy : (i : ℕ) (d : Dummy) → slice_get ds i ≡ Some d → ((d.bounds ≡ []) × (at' d.symbol ≡ at d.symbol)) ⊎ ((d.bounds ≡ [] → ⊥) × AsArray (nth ps i) (at' d.symbol))

module _ (w : Names) (at0 : Places) (s : Store) (i : List Content) where
  high_leads : (o : Option ExprTree) (at : Places) (Q : _ → Store → List Content → Type 0) → ((n : _) → Q n s i) → Leads (high_value o w at) s i Q
  high_leads None at Q go = go None
  high_leads (Some e) at Q go = leads_then (value e w at) _ s i Q (value_leads w at s i e _ (λ c. go (Some c.number)))

  dims_leads : (bs : List BoundTree) (at : Places) (Q : List Dim → Store → List Content → Type 0) → ((ms : List Dim) → (ms ≡ [] → bs ≡ []) → (bs ≡ [] → ms ≡ []) → Q ms s i) → Leads (dims_read bs w at) s i Q
  dims_leads [] at Q go = go [] (λ e. refl) (λ e. refl)
  dims_leads (b ∷ bs) at Q go =
      leads_then (value b.low w at) _ s i Q (value_leads w at s i b.low _ (λ m. leads_then (high_value b.high w at) _ s i Q (high_leads b.high at _ (λ n. leads_then (dims_read bs w at) _ s i Q (dims_leads bs at _ (λ ds e f. go (record { low = m.number; high = n } ∷ ds) (λ q. cc) (λ q. cc)))))))

  place_leads : (p : Place) (t : _) (ds : List Dim) (Q : Place → Store → List Content → Type 0) → ((q : Place) → AsArray p q → Q q s i) → Leads (array_place p t ds) s i Q
  place_leads p t ds Q go = open_or (is_open ds)
    where
      sized : (b : Bool) → nat_le (total_size ds) p.extent ≡ b → Leads (if b then Done (array_at p t ds (total_size ds)) else fault Bounds) s i Q
      sized true e = go (array_at p t ds (total_size ds)) (record { first = refl; extent = grind (arith, nat_tests) })
      sized false e = tt

      reached : (b : Bool) → (if b then 0 else p.extent) ≤ p.extent
      reached true = omega arith
      reached false = omega arith

      open_or : (b : Bool) → Leads (if b then Done (array_at p t ds (open_extent p ds)) else if nat_le (total_size ds) p.extent then Done (array_at p t ds (total_size ds)) else fault Bounds) s i Q
      open_or true = go (array_at p t ds (open_extent p ds)) (record { first = refl; extent = reached (nat_eq (total_size ds) 0) })
      open_or false = sized (nat_le (total_size ds) p.extent) refl

  -- one dummy
  one_leads : (d : Dummy) (p : Place) (ms : List Dim) (at : Places) (Q : Places → Store → List Content → Type 0) → (ms ≡ [] → Q at s i) → ((q : Place) → (ms ≡ [] → ⊥) → AsArray p q → Q (put at d.symbol q) s i) → Leads (dummy_bound d p ms at) s i Q
  one_leads d p [] at Q stays array = stays refl
  one_leads d p (m ∷ ms) at Q stays array = leads_then (array_place p d.tag (m ∷ ms)) _ s i Q (place_leads p d.tag (m ∷ ms) _ (λ q a. array q (λ e. cc) a))

  made_none : (ps : List Place) (at : Places) → Made [] ps at at
  made_none ps at = record { other = λ v n. refl; dummy = λ j d e. cc }

  -- the head made at1 of at, and the others at' of at1
  made_more : (d : Dummy) (ds : List Dummy) (ps : List Place) (at at1 at' : Places) → Distinct (d ∷ ds) → ((v : ℕ) → (v ≡ d.symbol → ⊥) → at1 v ≡ at v) → (((d.bounds ≡ []) × (at1 d.symbol ≡ at d.symbol)) ⊎ ((d.bounds ≡ [] → ⊥) × AsArray (first_place ps) (at1 d.symbol))) → Made ds (other_places ps) at1 at' → Made (d ∷ ds) ps at at'
  made_more d ds ps at at1 at' h off here rest = record {
    other = λ v n. rest.other v (later d ds v n) ∙ off v (not_head d ds v n);
    dummy = λ j f e. go j f e;
  }
    where
      none : NoDummy ds d.symbol
      none o = head_apart d ds o.at o.dummy h o.is_dummy o.symbol

      go : (j : ℕ) (f : Dummy) → slice_get (d ∷ ds) j ≡ Some f → ((f.bounds ≡ []) × (at' f.symbol ≡ at f.symbol)) ⊎ ((f.bounds ≡ [] → ⊥) × AsArray (nth ps j) (at' f.symbol))
      go zero f e =
          let same : d ≡ f = cc in
          subst (λ x. ((x.bounds ≡ []) × (at' x.symbol ≡ at x.symbol)) ⊎ ((x.bounds ≡ [] → ⊥) × AsArray (first_place ps) (at' x.symbol))) same
          (⊎_elim (λ a. inl (a.0, rest.other d.symbol none ∙ a.1)) (λ a. inr (a.0, subst (λ q. AsArray (first_place ps) q) (sym (rest.other d.symbol none)) a.1)) here)
      go (suc j) f e =
          ⊎_elim (λ a. inl (a.0, a.1 ∙ off f.symbol (λ q. head_apart d ds j f h e q))) (λ a. inr a) (rest.dummy j f e)

  pub arrays_leads : (ds : List Dummy) (ps : List Place) (at : Places) (Q : Places → Store → List Content → Type 0) → Distinct ds → ((at' : Places) → Made ds ps at at' → Q at' s i) → Leads (arrays_bound ds ps w at) s i Q
  arrays_leads [] ps at Q h go = go at (made_none ps at)
  arrays_leads (d ∷ ds) ps at Q h go =
      leads_then (dims_read d.bounds w at) _ s i Q (dims_leads d.bounds at _ (λ ms e f.
      leads_then (dummy_bound d (first_place ps) ms at) (arrays_bound ds (other_places ps) w) s i Q (one_leads d (first_place ps) ms at _
      (λ none. arrays_leads ds (other_places ps) at Q (distinct_rest d ds h) (λ at' m. go at' (made_more d ds ps at at at' h (λ v n. refl) (inl (e none, refl)) m)))
      (λ q some a. arrays_leads ds (other_places ps) (put at d.symbol q) Q (distinct_rest d ds h) (λ at' m. go at'
      (made_more d ds ps at (put at d.symbol q) at' h (λ v n. put_off at d.symbol q v n) (inr ((λ b. some (f b)), subst (λ x. AsArray (first_place ps) x) (sym (put_at at d.symbol q)) a)) m))))))

-- ---- what dummies are offered

pub bound_at : (ds : List Dummy) (ps : List Place) (i : ℕ) (d : Dummy) (u : ℕ) → slice_get ds i ≡ Some d → in_place (nth ps i) u ≡ true → in_bound ds ps u ≡ true
bound_at [] ps i d u e h = cc
bound_at (f ∷ ds) ps zero d u e h = or_left (in_place (first_place ps) u) (in_bound ds (other_places ps) u) h
bound_at (f ∷ ds) ps (suc i) d u e h = or_right (in_place (first_place ps) u) (in_bound ds (other_places ps) u) (bound_at ds (other_places ps) i d u e h)

-- a dummy to which a unit is offered
pub record Offered (ds : List Dummy) (ps : List Place) (u : ℕ) : Type 0 where
  pub at : ℕ
  pub dummy : Dummy
  pub is_dummy : slice_get ds at ≡ Some dummy
  pub inside : in_place (nth ps at) u ≡ true

pub offered_to : (ds : List Dummy) (ps : List Place) (u : ℕ) → in_bound ds ps u ≡ true → Offered ds ps u
offered_to [] ps u h = absurd (true≢false (sym h))
offered_to (d ∷ ds) ps u h = go (in_place (first_place ps) u) refl h (λ k. offered_to ds (other_places ps) u k)
  where
    go : (b : Bool) → in_place (first_place ps) u ≡ b → (b || in_bound ds (other_places ps) u) ≡ true → (in_bound ds (other_places ps) u ≡ true → Offered ds (other_places ps) u) → Offered (d ∷ ds) ps u
    go true e k ih = record { at = zero; dummy = d; is_dummy = refl; inside = e }
    go false e k ih = let o = ih k in record { at = suc o.at; dummy = o.dummy; is_dummy = o.is_dummy; inside = o.inside }
