-- What the laws of sets of regions say of units is what is claimed of executions.
use Rattle.std.specs.Prelude.{ℕ, Bool, List}
use Rattle.call_graph.specs.declared.graph.Graph.{Graph}
use Rattle.f77_meaning.specs.Modules.{Known}
use Rattle.f77_meaning.specs.Occurrences.{Occurrence}
use Rattle.f77_meaning.specs.Claims as claims
use Rattle.f77_meaning.specs.Claims.{place_of}
use Rattle.affine_forms.specs.Claims.{unit_in, numbers_of}
use Rattle.f77_ast.specs.declared.variable.Unit.{Unit as BlockUnit}
use Rattle.preconditions.specs.transformer_algebra.Claims.{Scene}
use Rattle.in_out_regions.specs.region_sets.declared.region.Region.{Region}
use Rattle.in_out_regions.specs.region_sets.Claims.{LiesIn, IsSharp}
use Rattle.laws_analyses.specs.Regions.Claims.{elements_of, as_region}

-- the tracked cells at the places of an execution
abbrev pub scene_of : (ℕ → Bool) → (BlockUnit → Bool) → (BlockUnit → ℕ) → Occurrence → Scene
scene_of tracked far place x = record { tracked = tracked; unit = unit_in x.places; far = far; place = place }

abbrev pub LiesAsClaimed : Type 0
LiesAsClaimed =
    (ks : List Known) (g : Graph) (tracked : ℕ → Bool) (far : BlockUnit → Bool) (place : BlockUnit → ℕ) (x : Occurrence) (r : Region) (u : ℕ) →
    LiesIn (scene_of tracked far place x) (elements_of (place_of ks g x.places r.variable)) r (numbers_of x.start) u → claims.LiesIn ks g tracked x u (as_region ks g x.places r)

abbrev pub SharpAsClaimed : Type 0
SharpAsClaimed =
    (ks : List Known) (g : Graph) (tracked : ℕ → Bool) (far : BlockUnit → Bool) (place : BlockUnit → ℕ) (x : Occurrence) (test : ℕ → Bool) (r : Region) →
    IsSharp (scene_of tracked far place x) (elements_of (place_of ks g x.places r.variable)) r (numbers_of x.start) test → claims.IsExact ks g tracked x test (as_region ks g x.places r)
