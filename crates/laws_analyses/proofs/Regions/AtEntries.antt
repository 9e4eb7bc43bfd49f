-- Where the variables of a module lie that is entered: once its bounds have been read, or without its arrays.
use Rattle.std.proofs.Common.{◌≡◌, ◌⊎◌, inl, inr, ⊎_elim, ℕ, List, [], ◌∷◌, Some, refl, sym, ap, ◌∙◌, true}
use Rattle.std.specs.Prelude.{slice_get}
use Rattle.f77_ast.specs.Store.{Store}
use Rattle.f77_ast.specs.Places.{Place, Places, Variable, scalar_place}
use Rattle.f77_ast.specs.Calls.{BoundTree, Dummy}
use Rattle.call_graph.specs.declared.graph.Graph.{Graph}
use Rattle.laws_analyses.specs.Calls.Parts.{Blocks, Part, DummyOf, NoDummy, nth, places_in as dummy_places, Sane}
use Rattle.laws_analyses.proofs.Calls.Bound.{scalars_fixed, scalars_dummy}
use Rattle.laws_analyses.proofs.Calls.Enter.{find_dummy}
use Rattle.laws_analyses.proofs.Regions.CalledShown.{AtEntry, Bound}

-- with no elements, if there are bounds
abbrev pub empty_or : List BoundTree → Place → Place
empty_or [] p = p
empty_or (b ∷ bs) p = record { first = p.first; extent = 0; tag = p.tag; dims = p.dims }

module _ (g : Graph) (b : Blocks) (k : Part) (sane : Sane b k) (ps : List Place) where
  abbrev at0 : Places
  at0 = dummy_places k ps

  abbrev ds : List Dummy
  ds = k.routine.dummies

  dummy_first : (i : ℕ) (d : Dummy) → slice_get ds i ≡ Some d → dummy_places k ps d.symbol ≡ scalar_place (nth ps i).first d.tag
  dummy_first i d e = scalars_dummy ds ps k.routine.fixed i d sane.distinct e

  -- ---- once bounds have been read

  pub bound_first : (s : Store) (at : Places) → Bound g b k sane ps s at → (v : ℕ) → (at v).first ≡ (dummy_places k ps v).first
  bound_first s at h v = ⊎_elim dummy (λ n. ap (λ (p : Place). p.first) (h.made.other v n)) (find_dummy ds v)
    where
      dummy : DummyOf ds v → (at v).first ≡ (dummy_places k ps v).first
      dummy o =
          ap (λ y. (at y).first) (sym o.symbol)
          ∙ (⊎_elim (λ a. ap (λ (p : Place). p.first) a.1) (λ a. a.1.first ∙ sym (ap (λ (p : Place). p.first) (dummy_first o.at o.dummy o.is_dummy))) (h.made.dummy o.at o.dummy o.is_dummy)
          ∙ ap (λ y. (dummy_places k ps y).first) o.symbol)

  pub bound_entry : (s : Store) (at : Places) → Bound g b k sane ps s at → AtEntry g k ps s at
  bound_entry s at h = record {
    other = λ v n. h.made.other v n ∙ scalars_fixed ds ps k.routine.fixed v n;
    scalar = λ i d e f. ⊎_elim (λ a. a.1 ∙ dummy_first i d e) (λ a. absurd (a.0 f)) (h.made.dummy i d e);
    array = λ i d e n. (let a = h.entry_arrays i d e n in inr (a.0, a.1, h.dims i d e n));
    firsts = bound_first s at h;
  }

  -- ---- without arrays

  abbrev emptied_at : (v : ℕ) → DummyOf ds v ⊎ NoDummy ds v → Place
  emptied_at v (inl o) = empty_or o.dummy.bounds (dummy_places k ps v)
  emptied_at v (inr n) = dummy_places k ps v

  abbrev pub emptied : Places
  emptied v = emptied_at v (find_dummy k.routine.dummies v)

  same_dummy : (i : ℕ) (d : Dummy) (o : DummyOf ds d.symbol) → slice_get ds i ≡ Some d → o.dummy ≡ d
  same_dummy i d o e =
      let same : o.at ≡ i = sane.distinct o.at i o.dummy d o.is_dummy e o.symbol in
      let z : Some o.dummy ≡ Some d = sym o.is_dummy ∙ ap (slice_get ds) same ∙ e in
      cc

  empty_scalar : (bs : List BoundTree) (p : Place) → bs ≡ [] → empty_or bs p ≡ p
  empty_scalar [] p e = refl
  empty_scalar (c ∷ bs) p e = cc

  empty_array : (bs : List BoundTree) (p : Place) → (bs ≡ [] → ⊥) → (empty_or bs p).extent ≡ 0
  empty_array [] p n = absurd (n refl)
  empty_array (c ∷ bs) p n = refl

  empty_first : (bs : List BoundTree) (p : Place) → (empty_or bs p).first ≡ p.first
  empty_first [] p = refl
  empty_first (c ∷ bs) p = refl

  other_at : (v : ℕ) → NoDummy ds v → (f : DummyOf ds v ⊎ NoDummy ds v) → emptied_at v f ≡ dummy_places k ps v
  other_at v n (inl o) = absurd (n o)
  other_at v n (inr m) = refl

  scalar_at : (v : ℕ) → ((o : DummyOf ds v) → o.dummy.bounds ≡ []) → (f : DummyOf ds v ⊎ NoDummy ds v) → emptied_at v f ≡ dummy_places k ps v
  scalar_at v h (inl o) = empty_scalar o.dummy.bounds (dummy_places k ps v) (h o)
  scalar_at v h (inr n) = refl

  array_at : (i : ℕ) (d : Dummy) → slice_get ds i ≡ Some d → (d.bounds ≡ [] → ⊥) → (f : DummyOf ds d.symbol ⊎ NoDummy ds d.symbol) → (emptied_at d.symbol f).extent ≡ 0
  array_at i d e n (inl o) = empty_array o.dummy.bounds (dummy_places k ps d.symbol) (λ q. n (ap (λ (y : Dummy). y.bounds) (sym (same_dummy i d o e)) ∙ q))
  array_at i d e n (inr m) = absurd (m (record { at = i; dummy = d; is_dummy = e; symbol = refl }))

  first_at : (v : ℕ) (f : DummyOf ds v ⊎ NoDummy ds v) → (emptied_at v f).first ≡ (dummy_places k ps v).first
  first_at v (inl o) = empty_first o.dummy.bounds (dummy_places k ps v)
  first_at v (inr n) = refl

  pub emptied_entry : (s : Store) → AtEntry g k ps s emptied
  emptied_entry s = record {
    other = λ v n. other_at v n (find_dummy ds v) ∙ scalars_fixed ds ps k.routine.fixed v n;
    scalar = λ i d e f. scalar_at d.symbol (λ o. ap (λ (y : Dummy). y.bounds) (same_dummy i d o e) ∙ f) (find_dummy ds d.symbol) ∙ dummy_first i d e;
    array = λ i d e n. inl (array_at i d e n (find_dummy ds d.symbol));
    firsts = λ v. first_at v (find_dummy ds v);
  }

  -- the scalars are where they were
  pub emptied_keeps : (x : List ℕ) (v : ℕ) → k.routine.names x ≡ Variable v → k.scalar x ≡ true → emptied v ≡ dummy_places k ps v
  emptied_keeps x v e h = scalar_at v (λ o. sane.flat o.at o.dummy x o.is_dummy (e ∙ ap Variable (sym o.symbol)) h) (find_dummy ds v)
