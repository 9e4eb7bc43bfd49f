-- The results of a module, as plain data.
use Rattle.std.specs.Prelude.{List}
use Rattle.affine_systems.specs.declared.row.System.{System}
use Rattle.f77_ast.specs.declared.effect_set.EffectSet.{EffectSet}
use Rattle.f77_ast.specs.declared.marks.Mark.{Mark}
use Rattle.f77_ast.specs.declared.results.At.{At}
use Rattle.f77_ast.specs.declared.results.Results.{Results}
use Rattle.f77_meaning.specs.Modules.{Known}
use Rattle.transformers.specs.transformer_algebra.declared.transformer.Transformer.{Transformer}
use Rattle.region_sets.specs.declared.region.Region.{Region}

-- of its statements, and as summaries what callers see or, of preconditions, what holds at its entry; `regions` are READ and WRITE
pub record ModuleResults : Type 0 where
  pub known : Known
  pub effects : Results EffectSet
  pub transformers : Results Transformer
  pub preconditions : Results System
  pub regions : Results (List Region)
  pub ins : Results (List Region)
  pub outs : Results (List Region)
  pub marks : List (At Mark)
