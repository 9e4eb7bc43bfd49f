-- What is kept of a program, by kind and module.
use Rattle.std.specs.Prelude.{ℕ, List}
use Rattle.affine_systems.specs.declared.row.System.{System}
use Rattle.f77_ast.specs.declared.places.Places.{Places}
use Rattle.f77_ast.specs.DeclTrees.{ModuleTree}
use Rattle.f77_ast.specs.Symbols.{SymbolTree}
use Rattle.call_graph.specs.declared.graph.Graph.{Graph}
use Rattle.f77_ast.specs.declared.effect_set.EffectSet.{EffectSet}
use Rattle.f77_ast.specs.declared.results.At.{At}
use Rattle.f77_ast.specs.declared.results.Results.{Results}
use Rattle.loop_marker.specs.transformer_algebra.declared.transformer.Transformer.{Transformer}
use Rattle.loop_marker.specs.region_sets.declared.region.Region.{Region}
use Rattle.f77_ast.specs.declared.marks.Mark.{Mark}
use Rattle.pipsmake_rules.specs.declared.kind.Kind.{Kind}

-- the value of a result, or the text of a module
pub data Value : Type 0 where
  source : List ℕ → Value
  parsed : ModuleTree → Value
  lines : Places → Value
  symbols : List SymbolTree → Value
  graph : Graph → Value
  effects : Results EffectSet → Value
  transformers : Results Transformer → Value
  preconditions : Results System → Value
  regions : Results (List Region) → Value
  ins : Results (List Region) → Value
  outs : Results (List Region) → Value
  marks : List (At Mark) → Value
  printed : List ℕ → Value

-- what has values: the text of a module, and its results
pub data Item : Type 0 where
  text : Item
  result : Kind → Item
