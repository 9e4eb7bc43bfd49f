-- What is known of a module, from the results of its analyses.
use Rattle.std.specs.Prelude.{ℕ, List, map}
use Rattle.affine_systems.specs.declared.row.System.{System}
use Rattle.f77_ast.specs.DeclTrees.{ModuleTree}
use Rattle.f77_ast.specs.PlainDecl.{module_tree}
use Rattle.f77_ast.specs.Symbols.{SymbolTree, symbol_tree}
use Rattle.f77_ast.specs.Index.{names_of}
use Rattle.f77_ast.specs.declared.effect_set.EffectSet.{EffectSet}
use Rattle.f77_ast.specs.declared.results.At.{At}
use Rattle.transformers.specs.transformer_algebra.declared.transformer.Transformer.{Transformer}
use Rattle.transformers.specs.call_translation.Scopes.{ScopeTree, scope_of}
use Rattle.transformers.specs.Lists.{transformer_at}
use Rattle.region_sets.specs.declared.region.Region.{Region}
use Rattle.region_sets.specs.Lists.{accesses_at}
use Rattle.dependence_test.specs.declared.analysis.Analysis.{Analysis}
use Rattle.dependence_test.specs.Body.{body_of}
use Rattle.privatizer.specs.Uses.{uses_from}
use Rattle.loop_marker.specs.Marks.{Knowledge}

-- with these names of its symbols and this scope: the effects, transformers, preconditions, READ and WRITE, IN and OUT regions of its statements
abbrev pub knowledge_of : ModuleTree → List SymbolTree → List (List ℕ) → ScopeTree → List (At EffectSet) → List (At Transformer) → List (At System) → List (At (List Region)) → List (At (List Region)) → List (At (List Region)) → Knowledge
knowledge_of m ss names scope es ts ps rs is os = record {
  tree = m;
  symbols = ss;
  names = names;
  effects = es;
  body = λ l. body_of l scope (transformer_at ts) ps (accesses_at rs);
  uses = uses_from ss ts ps rs is os;
}

abbrev pub known_module : Analysis → Knowledge
known_module a =
    knowledge_of (module_tree a.view.now.«module».now) (map symbol_tree a.view.now.symbols.now) (names_of a.view.now.symbols.now) (scope_of a.view.now.«module».now a.view.now.symbols.now a.view.now.graph.now.untracked)
    a.effects.now.at a.transformers.now.at a.preconditions.now.at a.regions.now.at a.ins.now.at a.outs.now.at
