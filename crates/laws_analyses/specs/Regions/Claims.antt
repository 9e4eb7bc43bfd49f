-- What the READ and WRITE regions of a module claim of its executions, as f77_meaning states claims on regions.
use Rattle.std.specs.Prelude.{◌≡◌, ℕ, zero, suc, ◌+◌, ℤ, Bool, true, false, List, [], ◌∷◌, length, Option, Some, MatchOption, option_map}
use Rattle.affine_systems.specs.declared.row.Var.TheVariants.{Cell, Phi}
use Rattle.affine_systems.specs.declared.row.System.{System}
use Rattle.affine_systems.specs.Points.{Point}
use Rattle.f77_ast.specs.Places.{Place, Places, element_in}
use Rattle.f77_ast.specs.Claims.{number_in}
use Rattle.f77_ast.specs.declared.results.Results.{Results}
use Rattle.call_graph.specs.declared.graph.Graph.{Graph}
use Rattle.f77_meaning.specs.Modules.{Known}
use Rattle.f77_meaning.specs.Occurrences.{Occurrence}
use Rattle.f77_meaning.specs.Claims.{Numbers, Region, Regions, no_regions, more_regions, place_of, ElementIs, AtNormalEnd, ReadHolds, WriteHolds, reads as reads_unit, writes as writes_unit}
use Rattle.affine_forms.specs.Scalars.{is_cell}
use Rattle.preconditions.specs.transformer_algebra.Laws.{In}
use Rattle.preconditions.specs.call_translation.Scopes.{ScopeTree}
use Rattle.preconditions.specs.transformers.Lists.{value_at}
use Rattle.in_out_regions.specs.region_sets.declared.region.Access.{Access}
use Rattle.in_out_regions.specs.region_sets.declared.region.Access.TheVariants.{Read, Write}
use Rattle.in_out_regions.specs.region_sets.declared.region.Access.TheVariants as access
use Rattle.in_out_regions.specs.region_sets.declared.region.Region.{Region as Found}
use Rattle.hull_projection.specs.Unions.{HoldsSome}
use Rattle.in_out_regions.specs.region_sets.Claims.{DescribedBy, Elements}

-- ---- subscripts

-- the first of them, from the k-th on
abbrev pub listed_from : ℕ → ℕ → (ℕ → ℤ) → List ℤ
listed_from k zero phi = []
listed_from k (suc n) phi = phi k ∷ listed_from (suc k) n phi

abbrev pub listed : ℕ → (ℕ → ℤ) → List ℤ
listed n phi = listed_from 1 n phi

-- the unit of the element with as many subscripts as the variable has dimensions
abbrev pub elements_of : Place → Elements
elements_of p phi = option_map (λ k. p.first + k) (element_in p (listed (length p.dims) phi))

-- ---- regions

-- a list has as many subscripts as the variable has dimensions: a scalar none, a block one
pub record DescribesList (rank : ℕ) (ss : List System) (n : Numbers) (subscripts : List ℤ) : Type 0 where
  pub phi : ℕ → ℤ
  pub is_list : listed rank phi ≡ subscripts
  pub describes : DescribedBy ss n phi

abbrev pub as_region : List Known → Graph → Places → Found → Region
as_region ks g at r = record {
  of = r.variable;
  is_exact = r.exact;
  describes = λ n subscripts. DescribesList (length (place_of ks g at r.variable).dims) r.pieces n subscripts;
}

abbrev pub before_if : Bool → Region → Regions → Regions
before_if true r rs = more_regions r rs
before_if false r rs = rs

abbrev pub is_read : Access → Bool
is_read Read = true
is_read Write = false
is_read access.In = false
is_read access.Out = false

abbrev pub is_write : Access → Bool
is_write Read = false
is_write Write = true
is_write access.In = false
is_write access.Out = false

-- those of a kind
abbrev pub regions_in : (Access → Bool) → List Known → Graph → Places → List Found → Regions
regions_in such ks g at [] = no_regions
regions_in such ks g at (r ∷ rs) = before_if (such r.kind) (as_region ks g at r) (regions_in such ks g at rs)

-- whatever variables its systems name: each point of an exact region that has the numbers of the tracked cells has the subscripts of an element in
-- bounds, and the test holds of its unit
abbrev pub PointsAre : List Known → Graph → (ℕ → Bool) → Occurrence → (ℕ → Bool) → Found → Type 0
PointsAre ks g tracked x test r =
    r.exact ≡ true → (p : Point) → ((c : ℕ) → tracked c ≡ true → p (Cell c) ≡ number_in x.start x.places c) → HoldsSome p r.pieces →
    (let at = place_of ks g x.places r.variable in ElementIs at (listed (length at.dims) (λ k. p (Phi k))) (λ u. test u ≡ true))

abbrev pub AllPointsAre : (Access → Bool) → List Known → Graph → (ℕ → Bool) → Occurrence → (ℕ → Bool) → List Found → Type 0
AllPointsAre such ks g tracked x test rs = AtNormalEnd x (λ z. (r : Found) → In r rs → such r.kind ≡ true → PointsAre ks g tracked x test r)

-- all that an execution reads, and all that it writes, lies in these regions; at a normal end the exact ones are accessed in full
pub record SetHolds (ks : List Known) (g : Graph) (m : ScopeTree) (rs : List Found) (x : Occurrence) : Type 0 where
  pub reads : ReadHolds ks g (is_cell m.tracked) (regions_in is_read ks g x.places rs) x
  pub writes : WriteHolds ks g (is_cell m.tracked) (regions_in is_write ks g x.places rs) x
  pub points_read : AllPointsAre is_read ks g (is_cell m.tracked) x (reads_unit x) rs
  pub points_written : AllPointsAre is_write ks g (is_cell m.tracked) x (writes_unit x) rs

-- ---- results

-- the set of the statement of a number, and, by the number 0, that of the entry
abbrev pub set_in : Results (List Found) → ℕ → Option (List Found)
set_in r zero = Some r.summary
set_in r (suc n) = value_at r.at (suc n)

-- there is such a set, and it holds
abbrev pub RegionsHold : List Known → Graph → ScopeTree → Results (List Found) → Occurrence → Type 0
RegionsHold ks g m r x = MatchOption (set_in r x.spot.statement) ⊥ (λ rs. SetHolds ks g m rs x)
