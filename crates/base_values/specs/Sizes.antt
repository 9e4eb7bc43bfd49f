-- Whether all numbers of the rows of a result are below 2^62 in magnitude, and its kind.
use Rattle.std.specs.Prelude.{Bool, true, ◌&&◌, List}
use Rattle.std.specs.List.{list_all}
use Rattle.affine_systems.specs.declared.row.System.{System}
use Rattle.f77_ast.specs.declared.results.At.{At}
use Rattle.f77_ast.specs.declared.results.Results.{Results}
use Rattle.pipsmake_rules.specs.declared.kind.Kind.{Kind}
use Rattle.pipsmake_rules.specs.declared.kind.Kind.TheVariants.{Effects, Transformers, Preconditions, Regions, InRegions, OutRegions, Marks}
use Rattle.preconditions.specs.transformer_algebra.declared.transformer.Transformer.{Transformer}
use Rattle.region_sets.specs.declared.region.Region.{Region}
use Rattle.base_json.specs.Read.{is_small_system}
use Rattle.base_values.specs.declared.stored.StoredValue.{StoredValue}
use Rattle.base_values.specs.declared.stored.StoredValue.TheVariants as stored

abbrev pub kind_of : StoredValue → Kind
kind_of (stored.Effects r) = Effects
kind_of (stored.Transformers r) = Transformers
kind_of (stored.Preconditions r) = Preconditions
kind_of (stored.Regions r) = Regions
kind_of (stored.InRegions r) = InRegions
kind_of (stored.OutRegions r) = OutRegions
kind_of (stored.Marks ms) = Marks

abbrev pub is_small_transformer : Transformer → Bool
is_small_transformer t = is_small_system t.system

abbrev pub is_small_region : Region → Bool
is_small_region r = list_all is_small_system r.pieces

abbrev pub are_small_regions : List Region → Bool
are_small_regions rs = list_all is_small_region rs

-- the results at statements
abbrev pub small_at : {T : Type 0} → (T → Bool) → List (At T) → Bool
small_at f as' = list_all (λ (a : At _). f a.value) as'

-- the summary, and the results at statements
abbrev pub all_small : {T : Type 0} → (T → Bool) → Results T → Bool
all_small f r = f r.summary && small_at f r.at

abbrev pub is_small_value : StoredValue → Bool
is_small_value (stored.Effects r) = true
is_small_value (stored.Transformers r) = all_small is_small_transformer r
is_small_value (stored.Preconditions r) = all_small is_small_system r
is_small_value (stored.Regions r) = all_small are_small_regions r
is_small_value (stored.InRegions r) = all_small are_small_regions r
is_small_value (stored.OutRegions r) = all_small are_small_regions r
is_small_value (stored.Marks ms) = true
