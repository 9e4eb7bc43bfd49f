-- What a rule makes of several results, one after another, and of all of them at once.
use Rattle.std.proofs.Common.{◌≡◌, List, Option, Some, None, refl}
use Rattle.std.specs.Prelude.{option_map, option_and_then}
use Rattle.affine_systems.specs.declared.row.System.{System}
use Rattle.f77_ast.specs.declared.effect_set.EffectSet.{EffectSet}
use Rattle.f77_ast.specs.declared.results.Results.{Results}
use Rattle.preconditions.specs.transformer_algebra.declared.transformer.Transformer.{Transformer}
use Rattle.loop_marker.specs.region_sets.declared.region.Region.{Region}
use Rattle.result_making.specs.Parts.{Needed, needed_from}

module _ {V : Type 0} (f : Needed → V) where
  pub marks_by : (effects : Option (Results EffectSet)) (own : Option (Results Transformer)) (holds : Option (Results System)) (regions ins outs : Option (Results (List Region))) →
      option_map f (needed_from effects own holds regions ins outs)
      ≡ option_and_then (λ e. option_and_then (λ t. option_and_then (λ p. option_and_then (λ r. option_and_then (λ i. option_map (λ o.
      f (record { effects = e; transformers = t; preconditions = p; regions = r; ins = i; outs = o })) outs) ins) regions) holds) own) effects
  marks_by None own holds regions ins outs = refl
  marks_by (Some e) None holds regions ins outs = refl
  marks_by (Some e) (Some t) None regions ins outs = refl
  marks_by (Some e) (Some t) (Some p) None ins outs = refl
  marks_by (Some e) (Some t) (Some p) (Some r) None outs = refl
  marks_by (Some e) (Some t) (Some p) (Some r) (Some i) None = refl
  marks_by (Some e) (Some t) (Some p) (Some r) (Some i) (Some o) = refl
