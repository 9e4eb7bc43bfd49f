-- What the OUT regions of a module claim of its executions, as f77_meaning states claims on regions.
use Rattle.std.specs.Prelude.{Bool, true, false, List, MatchOption}
use Rattle.f77_ast.specs.declared.results.Results.{Results}
use Rattle.call_graph.specs.declared.graph.Graph.{Graph}
use Rattle.f77_meaning.specs.Modules.{Known}
use Rattle.f77_meaning.specs.Occurrences.{Occurrence}
use Rattle.f77_meaning.specs.Claims.{OutHolds}
use Rattle.affine_forms.specs.Scalars.{is_cell}
use Rattle.preconditions.specs.call_translation.Scopes.{ScopeTree}
use Rattle.in_out_regions.specs.region_sets.declared.region.Access.{Access}
use Rattle.in_out_regions.specs.region_sets.declared.region.Access.TheVariants.{Read, Write, In, Out}
use Rattle.in_out_regions.specs.region_sets.declared.region.Region.{Region}
use Rattle.laws_analyses.specs.Regions.Claims.{regions_in, set_in}

abbrev pub is_out : Access → Bool
is_out Read = false
is_out Write = false
is_out In = false
is_out Out = true

-- each visible unit that an execution writes, and that the rest of the run reads before it writes it, lies in one of these regions
abbrev pub OutSetHolds : List Known → Graph → ScopeTree → List Region → Occurrence → Type 0
OutSetHolds ks g m rs x = OutHolds ks g (is_cell m.tracked) (regions_in is_out ks g x.places rs) x

-- there is such a set, and it holds
abbrev pub OutRegionsHold : List Known → Graph → ScopeTree → Results (List Region) → Occurrence → Type 0
OutRegionsHold ks g m r x = MatchOption (set_in r x.spot.statement) ⊥ (λ rs. OutSetHolds ks g m rs x)
