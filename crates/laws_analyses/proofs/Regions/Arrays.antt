-- The arrays among the dummies of a module that is entered: where they lie, and that their dimensions have the values of their bounds there.
use Rattle.std.proofs.Common.{◌≡◌, ℕ, zero, suc, ◌≤◌, List, [], ◌∷◌, Option, Some, None, Bool, true, false, refl, sym, ap, ◌∙◌, subst, arith, ℤ, true≢false}
use Rattle.std.specs.Prelude.{if◌then◌else◌, slice_get, nat_le, nat_eq}
use Rattle.std.proofs.lemmas.Bool.Decides.{nat_tests}
use Rattle.f77_ast.specs.Trees.{ExprTree}
use Rattle.f77_ast.specs.Store.{Tag, Content, Store, put}
use Rattle.f77_ast.specs.Faults.{Bounds}
use Rattle.f77_ast.specs.Runs.{run, Whole}
use Rattle.f77_ast.specs.Steps.{Done}
use Rattle.f77_ast.specs.Places.{Names, Dim, Place, Places, total_size}
use Rattle.f77_ast.specs.Values.{fault, value}
use Rattle.f77_ast.specs.Calls.{Dummy, BoundTree, first_place, other_places, high_value, dims_read, is_open, open_extent, array_at, array_place, dummy_bound, arrays_bound}
use Rattle.f77_ast.proofs.StepLaws.{Leads, leads_then}
use Rattle.affine_forms.specs.Scalars.{Scalars}
use Rattle.affine_forms.specs.Forms.{affine_of}
use Rattle.affine_forms.specs.Claims.{Agrees, Means, unit_in, numbers_of}
use Rattle.affine_forms.proofs.ValueLaws.{value_leads}
use Rattle.laws_analyses.proofs.Statements.Ends.{both}
use Rattle.laws_analyses.specs.Calls.Parts.{nth}
use Rattle.laws_analyses.proofs.Calls.Bound.{Distinct, Made, arrays_leads}
use Rattle.laws_analyses.proofs.Regions.Dims.{rest_distinct, head_alone}
use Rattle.fx_lists.proofs.Numbers.{same_is as nat_same}
use Rattle.f77_ast.proofs.Shared.{put_same as put_at}

-- the place of an array that is offered another
pub record ArrayIs (p q : Place) : Type 0 where
  pub first : q.first ≡ p.first
  pub closed : is_open q.dims ≡ false → (q.extent ≡ total_size q.dims) × (q.extent ≤ p.extent)
  pub opened : is_open q.dims ≡ true → q.extent ≡ open_extent p q.dims

-- numbers: those of the units; first0: the first unit of each variable
module _ (k : Scalars) (tracked : ℕ → Bool) (first0 : ℕ → ℕ) (numbers : ℕ → ℤ) where
  abbrev pub HighMeans : Option ExprTree → Option ℤ → Type 0
  HighMeans None None = Unit {0}
  HighMeans None (Some n) = ⊥
  HighMeans (Some e) None = ⊥
  HighMeans (Some e) (Some n) = Means tracked first0 (affine_of k e) numbers n

  -- a bound has the value that its dimension has
  pub record BoundMeans (low : ExprTree) (high : Option ExprTree) (d : Dim) : Type 0 where
    pub low_means : Means tracked first0 (affine_of k low) numbers d.low
    pub high_means : HighMeans high d.high

  abbrev pub BoundsMean : List BoundTree → List Dim → Type 0
  BoundsMean [] [] = Unit {0}
  BoundsMean [] (d ∷ ds) = ⊥
  BoundsMean (b ∷ bs) [] = ⊥
  BoundsMean (b ∷ bs) (d ∷ ds) = BoundMeans b.low b.high d × BoundsMean bs ds

  -- of each that has bounds
  abbrev pub AllArrays : List Dummy → List Place → Places → Type 0
  AllArrays ds ps at = (j : ℕ) (d : Dummy) → slice_get ds j ≡ Some d → (d.bounds ≡ [] → ⊥) → ArrayIs (nth ps j) (at d.symbol) × BoundsMean d.bounds (at d.symbol).dims

module _ (w : Names) (k : Scalars) (tracked : ℕ → Bool) (s : Store) (i : List Content) (agrees : Agrees w k tracked) (first0 : ℕ → ℕ) where
  abbrev pub Firsts : Places → Type 0
  Firsts at = (v : ℕ) → (at v).first ≡ first0 v

  abbrev pub Dims : List BoundTree → List Dim → Type 0
  Dims bs ds = BoundsMean k tracked first0 (numbers_of s) bs ds

  abbrev Arrays : List Dummy → List Place → Places → Type 0
  Arrays ds ps at = AllArrays k tracked first0 (numbers_of s) ds ps at

  of_first : (at : Places) → Firsts at → (e : ExprTree) (n : ℤ) → Means tracked (unit_in at) (affine_of k e) (numbers_of s) n → Means tracked first0 (affine_of k e) (numbers_of s) n
  of_first at f e n h = subst (λ (u : ℕ → ℕ). Means tracked u (affine_of k e) (numbers_of s) n) (λ j v. f v j) h

  high_is : (o : Option ExprTree) (at : Places) → Firsts at → (Q : Option ℤ → Store → List Content → Type 0) → ((n : Option ℤ) → HighMeans k tracked first0 (numbers_of s) o n → Q n s i) → Leads (high_value o w at) s i Q
  high_is None at f Q go = go None tt
  high_is (Some e) at f Q go = leads_then (value e w at) _ s i Q (value_leads w k tracked at s i agrees e _ (λ c h. go (Some c.number) (of_first at f e c.number h.1)))

  dims_are : (bs : List BoundTree) (at : Places) → Firsts at → (Q : List Dim → Store → List Content → Type 0) → ((ms : List Dim) → Dims bs ms → Q ms s i) → Leads (dims_read bs w at) s i Q
  dims_are [] at f Q go = go [] tt
  dims_are (b ∷ bs) at f Q go =
      leads_then (value b.low w at) _ s i Q (value_leads w k tracked at s i agrees b.low _ (λ m h.
      leads_then (high_value b.high w at) _ s i Q (high_is b.high at f _ (λ n g.
      leads_then (dims_read bs w at) _ s i Q (dims_are bs at f _ (λ ds q.
      go (record { low = m.number; high = n } ∷ ds) (record { low_means = of_first at f b.low m.number h.1; high_means = g }, q)))))))

  place_is : (p : Place) (t : Tag) (ds : List Dim) (Q : Place → Store → List Content → Type 0) → ((q : Place) → q.dims ≡ ds → ArrayIs p q → Q q s i) → Leads (array_place p t ds) s i Q
  place_is p t ds Q go = open_or (is_open ds) refl
    where
      off : {X : Type 0} (b : Bool) → b ≡ true → b ≡ false → X
      off true a e = absurd (true≢false e)
      off false a e = absurd (true≢false (sym a))

      sized : (b : Bool) → is_open ds ≡ false → nat_le (total_size ds) p.extent ≡ b → Leads (if b then Done (array_at p t ds (total_size ds)) else fault Bounds) s i Q
      sized true o e = go (array_at p t ds (total_size ds)) refl (record { first = refl; closed = λ c. (refl, grind (arith, nat_tests)); opened = λ c. off (is_open ds) c o })
      sized false o e = tt

      open_or : (b : Bool) → is_open ds ≡ b → Leads (if b then Done (array_at p t ds (open_extent p ds)) else if nat_le (total_size ds) p.extent then Done (array_at p t ds (total_size ds)) else fault Bounds) s i Q
      open_or true o = go (array_at p t ds (open_extent p ds)) refl (record { first = refl; closed = λ c. off (is_open ds) o c; opened = λ c. refl })
      open_or false o = sized (nat_le (total_size ds) p.extent) o refl

  one_is : (d : Dummy) (p : Place) (ms : List Dim) (at : Places) (Q : Places → Store → List Content → Type 0) → (ms ≡ [] → Q at s i) → ((q : Place) → q.dims ≡ ms → ArrayIs p q → Q (put at d.symbol q) s i) → Leads (dummy_bound d p ms at) s i Q
  one_is d p [] at Q stays array = stays refl
  one_is d p (m ∷ ms) at Q stays array = leads_then (array_place p d.tag (m ∷ ms)) _ s i Q (place_is p d.tag (m ∷ ms) _ (λ q e a. array q e a))

  no_bounds : (bs : List BoundTree) (ms : List Dim) → Dims bs ms → ms ≡ [] → bs ≡ []
  no_bounds [] ms h e = refl
  no_bounds (b ∷ bs) [] h e = absurd h
  no_bounds (b ∷ bs) (m ∷ ms) h e = cc

  more_arrays : (d : Dummy) (ds : List Dummy) (ps : List Place) (at' : Places) → ((d.bounds ≡ [] → ⊥) → ArrayIs (first_place ps) (at' d.symbol) × Dims d.bounds (at' d.symbol).dims) → Arrays ds (other_places ps) at' → Arrays (d ∷ ds) ps at'
  more_arrays d ds ps at' here rest zero f e n = let same : d ≡ f = cc in subst (λ (y : Dummy). ArrayIs (first_place ps) (at' y.symbol) × Dims y.bounds (at' y.symbol).dims) same (here (λ q. n (ap (λ (y : Dummy). y.bounds) (sym same) ∙ q)))
  more_arrays d ds ps at' here rest (suc j) f e n = rest j f e n

  abbrev Offers : List Dummy → List Place → Type 0
  Offers ds ps = (j : ℕ) (d : Dummy) → slice_get ds j ≡ Some d → (nth ps j).first ≡ first0 d.symbol

  firsts_put : (at : Places) (v : ℕ) (q : Place) → Firsts at → q.first ≡ first0 v → Firsts (put at v q)
  firsts_put at v q f e u = go (nat_eq u v) refl
    where
      go : (b : Bool) → nat_eq u v ≡ b → (if b then q else at u).first ≡ first0 u
      go true r = e ∙ ap first0 (sym (nat_same u v r))
      go false r = f u

  pub arrays_are : (ds : List Dummy) (ps : List Place) (at : Places) → Distinct ds → Firsts at → Offers ds ps → Leads (arrays_bound ds ps w at) s i (λ at' z j. Arrays ds ps at')
  arrays_are [] ps at h f o = λ j d e n. cc
  arrays_are (d ∷ ds) ps at h f o =
      leads_then (dims_read d.bounds w at) _ s i _ (dims_are d.bounds at f _ (λ ms g.
      leads_then (dummy_bound d (first_place ps) ms at) (arrays_bound ds (other_places ps) w) s i _ (one_is d (first_place ps) ms at _
      (λ none. from at (arrays_are ds (other_places ps) at (rest_distinct d ds h) f (λ j e q. o (suc j) e q)) (λ n. absurd (n (no_bounds d.bounds ms g none))))
      (λ q e a. from (put at d.symbol q) (arrays_are ds (other_places ps) (put at d.symbol q) (rest_distinct d ds h) (firsts_put at d.symbol q f (a.first ∙ o zero d refl)) (λ j e' r. o (suc j) e' r))
      (λ n. (subst (ArrayIs (first_place ps)) (sym (put_at at d.symbol q)) a, subst (Dims d.bounds) (sym (ap (λ (y : Place). y.dims) (put_at at d.symbol q) ∙ e)) g))))))
    where
      from : (at1 : Places) → Leads (arrays_bound ds (other_places ps) w at1) s i (λ at' z j. Arrays ds (other_places ps) at') → ((d.bounds ≡ [] → ⊥) → ArrayIs (first_place ps) (at1 d.symbol) × Dims d.bounds (at1 d.symbol).dims) → Leads (arrays_bound ds (other_places ps) w at1) s i (λ at' z j. Arrays (d ∷ ds) ps at')
      from at1 ih here =
          both (run (arrays_bound ds (other_places ps) w at1) (Whole s) i) (λ at' z j. Arrays ds (other_places ps) at') (λ at' z j. Made ds (other_places ps) at1 at') (λ at' z j. Arrays (d ∷ ds) ps at')
          (λ at' z j a m. more_arrays d ds ps at' (λ n. subst (λ (y : Place). ArrayIs (first_place ps) y × Dims d.bounds y.dims) (sym (m.other d.symbol (head_alone d ds h))) (here n)) a)
          ih
          (arrays_leads w at1 s i ds (other_places ps) at1 (λ at' z j. Made ds (other_places ps) at1 at') (rest_distinct d ds h) (λ at' m. m))
