-- What the IN regions of a module claim of its executions, as f77_meaning states claims on regions.
use Rattle.std.specs.Prelude.{Bool, true, false, List, MatchOption}
use Rattle.f77_ast.specs.declared.results.Results.{Results}
use Rattle.call_graph.specs.declared.graph.Graph.{Graph}
use Rattle.f77_meaning.specs.Modules.{Known}
use Rattle.f77_meaning.specs.Occurrences.{Occurrence}
use Rattle.f77_meaning.specs.Claims.{InHolds, takes_in}
use Rattle.affine_forms.specs.Scalars.{is_cell}
use Rattle.preconditions.specs.call_translation.Scopes.{ScopeTree}
use Rattle.in_out_regions.specs.region_sets.declared.region.Access.{Access}
use Rattle.in_out_regions.specs.region_sets.declared.region.Access.TheVariants.{Read, Write, In, Out}
use Rattle.in_out_regions.specs.region_sets.declared.region.Region.{Region}
use Rattle.laws_analyses.specs.Regions.Claims.{regions_in, AllPointsAre, set_in}

abbrev pub is_in : Access → Bool
is_in Read = false
is_in Write = false
is_in In = true
is_in Out = false

-- all that an execution reads before it writes it lies in these regions; at a normal end each element of an exact one is read first
pub record InSetHolds (ks : List Known) (g : Graph) (m : ScopeTree) (rs : List Region) (x : Occurrence) : Type 0 where
  pub ins : InHolds ks g (is_cell m.tracked) (regions_in is_in ks g x.places rs) x
  pub points : AllPointsAre is_in ks g (is_cell m.tracked) x (takes_in x) rs

-- there is such a set, and it holds
abbrev pub InRegionsHold : List Known → Graph → ScopeTree → Results (List Region) → Occurrence → Type 0
InRegionsHold ks g m r x = MatchOption (set_in r x.spot.statement) ⊥ (λ rs. InSetHolds ks g m rs x)
