-- The dimensions of arrays that are dummies are those of their bounds, where these are constant.
use Rattle.std.proofs.Common.{◌≡◌, ℕ, zero, suc, List, [], ◌∷◌, map, Option, Some, None, Bool, true, false, refl, sym, ap, ◌∙◌, subst, arith, ℤ}
use Rattle.std.specs.Prelude.{if◌then◌else◌, slice_get, nat_le}
use Rattle.f77_ast.specs.Trees.{ExprTree}
use Rattle.f77_ast.specs.Store.{Content, Store, put}
use Rattle.f77_ast.specs.Faults.{Bounds}
use Rattle.f77_ast.specs.Runs.{run, Whole}
use Rattle.f77_ast.specs.Steps.{Done}
use Rattle.f77_ast.specs.Places.{Names, Dim, Place, Places, total_size}
use Rattle.f77_ast.specs.Values.{fault, value}
use Rattle.f77_ast.specs.Calls.{Dummy, BoundTree, first_place, other_places, high_value, dims_read, is_open, open_extent, array_at, array_place, dummy_bound, arrays_bound}
use Rattle.f77_ast.proofs.StepLaws.{Leads, leads_then}
use Rattle.f77_ast.specs.declared.constant.Constant.{Constant}
use Rattle.f77_ast.specs.declared.constant.Constant.TheVariants.{Int}
use Rattle.f77_ast.specs.declared.constant.ConstantValue.{ConstantValue}
use Rattle.f77_ast.specs.declared.constant.ConstantValue.TheVariants.{Is}
use Rattle.f77_ast.specs.Constants.{const_value}
use Rattle.f77_ast.specs.Symbols.{BoundTree as Bound}
use Rattle.f77_meaning.specs.Modules.{bound_of}
use Rattle.affine_forms.specs.Scalars.{Scalars}
use Rattle.affine_forms.specs.Claims.{Agrees}
use Rattle.affine_forms.proofs.ValueLaws.{HasConstantValue, value_leads}
use Rattle.laws_analyses.proofs.Statements.Ends.{both}
use Rattle.laws_analyses.specs.Calls.Parts.{NoDummy}
use Rattle.laws_analyses.proofs.Calls.Bound.{Distinct, Made, arrays_leads}
use Rattle.laws_analyses.specs.Regions.Settings.{DimsFit}
use Rattle.f77_ast.proofs.Shared.{put_same as put_at}

-- bounds as they are written
pub record BoundFits (value : List ℕ → Option Constant) (b : BoundTree) (d : Dim) : Type 0 where
  pub low : (n : ℤ) → const_value value b.low ≡ Is (Int n) → d.low ≡ n
  pub high : (e : ExprTree) (n : ℤ) → b.high ≡ Some e → const_value value e ≡ Is (Int n) → d.high ≡ Some n

abbrev pub BoundsFit : (List ℕ → Option Constant) → List BoundTree → List Dim → Type 0
BoundsFit value [] [] = Unit {0}
BoundsFit value [] (d ∷ ds) = ⊥
BoundsFit value (b ∷ bs) [] = ⊥
BoundsFit value (b ∷ bs) (d ∷ ds) = BoundFits value b d × BoundsFit value bs ds

pub dims_fit : (value : List ℕ → Option Constant) (bs : List Bound) (ds : List Dim) → BoundsFit value (map bound_of bs) ds → DimsFit value bs ds
dims_fit value [] [] h = tt
dims_fit value [] (d ∷ ds) h = absurd h
dims_fit value (b ∷ bs) [] h = absurd h
dims_fit value (b ∷ bs) (d ∷ ds) h = (record { low = h.0.low; high = h.0.high }, dims_fit value bs ds h.1)

-- ---- the dimensions that are read

const_value_number : (w : ConstantValue) (m n : ℤ) → HasConstantValue w m → w ≡ Is (Int n) → m ≡ n
const_value_number w m n h e = subst (λ v. HasConstantValue v m) e h

pub rest_distinct : (d : Dummy) (ds : List Dummy) → Distinct (d ∷ ds) → Distinct ds
rest_distinct d ds h i j a b p q e = let s = h (suc i) (suc j) a b p q e in omega (arith, s)

pub head_alone : (d : Dummy) (ds : List Dummy) → Distinct (d ∷ ds) → NoDummy ds d.symbol
head_alone d ds h o = let s = h zero (suc o.at) d o.dummy refl o.is_dummy (sym o.symbol) in omega (arith, s)

module _ (w : Names) (k : Scalars) (tracked : ℕ → Bool) (s : Store) (i : List Content) (agrees : Agrees w k tracked) where
  high_fits : (o : Option ExprTree) (at : Places) (Q : Option ℤ → Store → List Content → Type 0) → ((n : Option ℤ) → ((e : ExprTree) (m : ℤ) → o ≡ Some e → const_value k.value e ≡ Is (Int m) → n ≡ Some m) → Q n s i) → Leads (high_value o w at) s i Q
  high_fits None at Q go = go None (λ e m q r. cc)
  high_fits (Some f) at Q go = leads_then (value f w at) _ s i Q (value_leads w k tracked at s i agrees f _ (λ c h. go (Some c.number) (λ e m q r. (let same : f ≡ e = cc in ap Some (const_value_number (const_value k.value e) c.number m (subst (λ y. HasConstantValue (const_value k.value y) c.number) same h.0) r)))))

  dims_leads : (bs : List BoundTree) (at : Places) (Q : List Dim → Store → List Content → Type 0) → ((ms : List Dim) → BoundsFit k.value bs ms → Q ms s i) → Leads (dims_read bs w at) s i Q
  dims_leads [] at Q go = go [] tt
  dims_leads (b ∷ bs) at Q go =
      leads_then (value b.low w at) _ s i Q (value_leads w k tracked at s i agrees b.low _ (λ m h.
      leads_then (high_value b.high w at) _ s i Q (high_fits b.high at _ (λ n f.
      leads_then (dims_read bs w at) _ s i Q (dims_leads bs at _ (λ ds q.
      go (record { low = m.number; high = n } ∷ ds) (record { low = λ l e. const_value_number (const_value k.value b.low) m.number l h.0 e; high = f }, q)))))))

  place_leads : (p : Place) (t : _) (ds : List Dim) (Q : Place → Store → List Content → Type 0) → ((q : Place) → q.dims ≡ ds → Q q s i) → Leads (array_place p t ds) s i Q
  place_leads p t ds Q go = open_or (is_open ds)
    where
      sized : (b : Bool) → Leads (if b then Done (array_at p t ds (total_size ds)) else fault Bounds) s i Q
      sized true = go (array_at p t ds (total_size ds)) refl
      sized false = tt

      open_or : (b : Bool) → Leads (if b then Done (array_at p t ds (open_extent p ds)) else if nat_le (total_size ds) p.extent then Done (array_at p t ds (total_size ds)) else fault Bounds) s i Q
      open_or true = go (array_at p t ds (open_extent p ds)) refl
      open_or false = sized (nat_le (total_size ds) p.extent)

  abbrev pub AllDims : List Dummy → Places → Type 0
  AllDims ds at = (j : ℕ) (d : Dummy) → slice_get ds j ≡ Some d → (d.bounds ≡ [] → ⊥) → BoundsFit k.value d.bounds (at d.symbol).dims

  one_leads : (d : Dummy) (p : Place) (ms : List Dim) (at : Places) (Q : Places → Store → List Content → Type 0) → (ms ≡ [] → Q at s i) → ((q : Place) → q.dims ≡ ms → Q (put at d.symbol q) s i) → Leads (dummy_bound d p ms at) s i Q
  one_leads d p [] at Q stays array = stays refl
  one_leads d p (m ∷ ms) at Q stays array = leads_then (array_place p d.tag (m ∷ ms)) _ s i Q (place_leads p d.tag (m ∷ ms) _ (λ q a. array q a))

  no_bounds : (bs : List BoundTree) (ms : List Dim) → BoundsFit k.value bs ms → ms ≡ [] → bs ≡ []
  no_bounds [] ms h e = refl
  no_bounds (b ∷ bs) [] h e = absurd h
  no_bounds (b ∷ bs) (m ∷ ms) h e = cc

  all_more : (d : Dummy) (ds : List Dummy) (at' : Places) → ((d.bounds ≡ [] → ⊥) → BoundsFit k.value d.bounds (at' d.symbol).dims) → AllDims ds at' → AllDims (d ∷ ds) at'
  all_more d ds at' here rest zero f e n = let same : d ≡ f = cc in subst (λ (y : Dummy). BoundsFit k.value y.bounds (at' y.symbol).dims) same (here (λ q. n (ap (λ (y : Dummy). y.bounds) (sym same) ∙ q)))
  all_more d ds at' here rest (suc j) f e n = rest j f e n

  pub arrays_fit : (ds : List Dummy) (ps : List Place) (at : Places) → Distinct ds → Leads (arrays_bound ds ps w at) s i (λ at' z j. AllDims ds at')
  arrays_fit [] ps at h = λ j d e n. cc
  arrays_fit (d ∷ ds) ps at h =
      leads_then (dims_read d.bounds w at) _ s i _ (dims_leads d.bounds at _ (λ ms f.
      leads_then (dummy_bound d (first_place ps) ms at) (arrays_bound ds (other_places ps) w) s i _ (one_leads d (first_place ps) ms at _
      (λ none. from at (arrays_fit ds (other_places ps) at (rest_distinct d ds h)) (λ n. absurd (n (no_bounds d.bounds ms f none))))
      (λ q e. from (put at d.symbol q) (arrays_fit ds (other_places ps) (put at d.symbol q) (rest_distinct d ds h)) (λ n. subst (BoundsFit k.value d.bounds) (sym (ap (λ (y : Place). y.dims) (put_at at d.symbol q) ∙ e)) f)))))
    where
      from : (at1 : Places) → Leads (arrays_bound ds (other_places ps) w at1) s i (λ at' z j. AllDims ds at') → ((d.bounds ≡ [] → ⊥) → BoundsFit k.value d.bounds (at1 d.symbol).dims) → Leads (arrays_bound ds (other_places ps) w at1) s i (λ at' z j. AllDims (d ∷ ds) at')
      from at1 ih here =
          both (run (arrays_bound ds (other_places ps) w at1) (Whole s) i) (λ at' z j. AllDims ds at') (λ at' z j. Made ds (other_places ps) at1 at') (λ at' z j. AllDims (d ∷ ds) at')
          (λ at' z j a m. all_more d ds at' (λ n. subst (λ (y : Place). BoundsFit k.value d.bounds y.dims) (sym (m.other d.symbol (head_alone d ds h))) (here n)) a)
          ih
          (arrays_leads w at1 s i ds (other_places ps) at1 (λ at' z j. Made ds (other_places ps) at1 at') (rest_distinct d ds h) (λ at' m. m))
