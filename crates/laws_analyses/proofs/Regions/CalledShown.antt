-- What the regions of a module show of a call of it to those that call it.
use Rattle.std.proofs.Common.{◌≡◌, ◌⊎◌, ℕ, List, [], ◌∷◌, ◌||◌, ◌&&◌, Option, Some, None, Bool, true, false, refl, sym, ◌∙◌, nat_eq, true≢false}
use Rattle.std.specs.Prelude.{slice_get, bytes_eq}
use Rattle.std.specs.List.{list_any}
use Rattle.std.proofs.lemmas.Bool.{and_from, or_left, or_right, or_parts}
use Rattle.std.proofs.lemmas.Slice.Eq.{bytes_eq-Decides}
use Rattle.f77_ast.specs.Store.{Store}
use Rattle.f77_ast.specs.Runs.{Event, Arrived, Answer}
use Rattle.f77_ast.specs.Places.{Place, Places, scalar_place}
use Rattle.f77_ast.specs.Writes.{Locks}
use Rattle.f77_ast.specs.Plans.{Flow}
use Rattle.f77_ast.specs.Calls.{Dummy, Meaning}
use Rattle.f77_ast.specs.Programs.{no_module}
use Rattle.f77_ast.specs.Statements.{spot}
use Rattle.f77_ast.specs.Executions.{Claim}
use Rattle.call_graph.specs.declared.graph.Graph.{Graph}
use Rattle.f77_meaning.specs.Areas.{is_own_unit}
use Rattle.f77_meaning.specs.Modules.{Known, all_lost}
use Rattle.f77_meaning.specs.Linked.{numbering}
use Rattle.f77_meaning.specs.Accesses.{is_entry_of, is_entered}
use Rattle.affine_forms.specs.Scalars.{is_cell}
use Rattle.affine_forms.specs.Claims.{unit_in, numbers_of}
use Rattle.preconditions.specs.transformer_algebra.Laws.{In, here, there}
use Rattle.in_out_regions.specs.region_sets.declared.region.Access.{Access}
use Rattle.in_out_regions.specs.region_sets.declared.region.Region.{Region}
use Rattle.in_out_regions.specs.region_sets.Claims.{LiesInSet, IsSharpSet}
use Rattle.laws_analyses.specs.Calls.Parts.{Blocks, Part, NoDummy, nth, places_in as dummy_places, scene_in, Sane}
use Rattle.laws_analyses.proofs.Calls.Bound.{Made}
use Rattle.laws_analyses.specs.Calls.Sites.{Entered}
use Rattle.laws_analyses.specs.Regions.Settings.{elements_with}
use Rattle.laws_analyses.specs.Regions.Shown.{accessed, is_lost, is_hidden, Touches, Finally}
use Rattle.laws_analyses.specs.Regions.Entries.{IsLost}
use Rattle.laws_analyses.specs.Regions.Programs.{entry_scope}
use Rattle.laws_analyses.proofs.Regions.Rules.{Goes}
use Rattle.laws_analyses.proofs.Regions.Arrays.{ArrayIs, BoundsMean, AllArrays}
use Rattle.laws_analyses.proofs.Regions.Dims.{BoundsFit}

-- where the variables of a module lie that is entered with these places, at this store. Where its bounds are refused nothing is known of its arrays, and
-- they may be taken for such that have no elements
pub record AtEntry (g : Graph) (k : Part) (ps : List Place) (s : Store) (at : Places) : Type 0 where
  pub other : (v : ℕ) → NoDummy k.routine.dummies v → at v ≡ k.routine.fixed v
  pub scalar : (i : ℕ) (d : Dummy) → slice_get k.routine.dummies i ≡ Some d → d.bounds ≡ [] → at d.symbol ≡ scalar_place (nth ps i).first d.tag
  pub array : (i : ℕ) (d : Dummy) → slice_get k.routine.dummies i ≡ Some d → (d.bounds ≡ [] → ⊥) →
      ((at d.symbol).extent ≡ 0) ⊎ (ArrayIs (nth ps i) (at d.symbol) × BoundsMean (entry_scope g k).scalars (is_cell (entry_scope g k).tracked) (unit_in (dummy_places k ps)) (numbers_of s) d.bounds (at d.symbol).dims × BoundsFit k.scope.scalars.value d.bounds (at d.symbol).dims)
  pub firsts : (v : ℕ) → (at v).first ≡ (dummy_places k ps v).first

-- the places of the variables of a module while it runs, with what is known of them at the store where it was entered
pub record Bound (g : Graph) (b : Blocks) (k : Part) (sane : Sane b k) (ps : List Place) (s : Store) (at : Places) : Type 0 where
  pub made : Made k.routine.dummies ps (dummy_places k ps) at
  pub dims : (j : ℕ) (d : Dummy) → slice_get k.routine.dummies j ≡ Some d → (d.bounds ≡ [] → ⊥) → BoundsFit k.scope.scalars.value d.bounds (at d.symbol).dims
  pub arrays : AllArrays k.scope.scalars (is_cell k.scope.tracked) (unit_in (dummy_places k ps)) (numbers_of s) k.routine.dummies ps at
  -- the same by the cells that callers know
  pub entry_arrays : AllArrays (entry_scope g k).scalars (is_cell (entry_scope g k).tracked) (unit_in (dummy_places k ps)) (numbers_of s) k.routine.dummies ps at

module _ (ks : List Known) (g : Graph) (b : Blocks) (summary : Part → List Region) (D : Claim) where
  pub record CalledShown (k : Part) (ps : List Place) (s : Store) (a : Answer Flow) (es : List Event) : Type 0 where
    pub at : Places
    pub entry : AtEntry g k ps s at
    -- its locals, if they are not saved, are lost
    pub kept : (u : ℕ) → is_hidden ks g es u ≡ false → IsLost ks g k.routine.name u → ⊥
    pub holds : (c : Access) (u : ℕ) → Touches ks g c es u → LiesInSet (scene_in b k ps at) (elements_with ks g k.scope.symbols at) c (summary k) (numbers_of s) u
    pub sharp : Finally true a (IsSharpSet (scene_in b k ps at) (elements_with ks g k.scope.symbols at) (summary k) (numbers_of s) (λ c. accessed c es))

  -- what the callers of a module use
  abbrev pub FineSpec : Part → Meaning → Type 0
  FineSpec k meaning = (ps : List Place) (locked : Locks) (z : Store) → Entered k ps locked → Goes D (meaning ps locked) z (λ a y es. CalledShown k ps z a es)

  abbrev pub FineOk : Option Part → Meaning → Type 0
  FineOk None meaning = meaning ≡ no_module
  FineOk (Some k) meaning = FineSpec k meaning

-- ---- a unit that is not hidden after a module was entered is none that is lost at its end

pub any_in : (f : Known → Bool) (ks : List Known) (q : Known) → In q ks → f q ≡ true → list_any f ks ≡ true
any_in f [] q i h = elim i [ ]
any_in f (k ∷ ks) q here h = or_left (f k) (list_any f ks) h
any_in f (k ∷ ks) q (there i) h = or_right (f k) (list_any f ks) (any_in f ks q i h)

pub not_lost : (ks : List Known) (g : Graph) (m : List ℕ) (es : List Event) (u : ℕ) → is_hidden ks g (Arrived (spot m 0) ∷ es) u ≡ false → IsLost ks g m u → ⊥
not_lost ks g m es u h l =
    let L : Known → Bool = λ k. list_any (λ v. nat_eq v u) (all_lost (numbering ks g) k.read.name k.symbols k.symbols) in
    let test : Known → Bool = λ k. (is_entry_of k.read.name (spot m 0) || is_entered k.read.name es) && list_any (λ v. nat_eq v u) (all_lost (numbering ks g) k.read.name k.symbols k.symbols) in
    let entry : is_entry_of l.known.read.name (spot m 0) ≡ true = and_from (bytes_eq m l.known.read.name) true ((bytes_eq-Decides m l.known.read.name).1 (sym l.named)) refl in
    let one : test l.known ≡ true = and_from (is_entry_of l.known.read.name (spot m 0) || is_entered l.known.read.name es) (L l.known) (or_left (is_entry_of l.known.read.name (spot m 0)) (is_entered l.known.read.name es) entry) l.lost in
    true≢false (sym (any_in test ks l.known l.is_one one) ∙ (or_parts (is_own_unit (numbering ks g) u) (is_lost ks g (Arrived (spot m 0) ∷ es) u) h).1)
