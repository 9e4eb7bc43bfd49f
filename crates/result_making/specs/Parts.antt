-- Parts of what is made: cited by private functions alone.
use Rattle.std.specs.Prelude.{◌≡◌, ℕ, List, [], ◌∷◌, map, Option, Some, None, option_map, option_and_then}
use Rattle.affine_systems.specs.declared.row.System.{System}
use Rattle.f77_ast.specs.declared.module.Module.{Module}
use Rattle.f77_ast.specs.DeclTrees.{ModuleTree, ParsedTree}
use Rattle.f77_ast.specs.PlainDecl.{module_tree, parsed_tree}
use Rattle.f77_ast.specs.declared.variable.Unit.{Unit as BlockUnit}
use Rattle.f77_ast.specs.Symbols.{symbol_tree}
use Rattle.f77_meaning.specs.Modules.{Known, symbol_names}
use Rattle.f77_ast.specs.declared.effect_set.EffectSet.{EffectSet}
use Rattle.f77_ast.specs.declared.results.At.{At}
use Rattle.f77_ast.specs.declared.results.Results.{Results}
use Rattle.preconditions.specs.transformer_algebra.declared.transformer.Transformer.{Transformer}
use Rattle.loop_marker.specs.dependence_test.declared.analysis.Analysis.{Analysis}
use Rattle.loop_marker.specs.module_phases.ScalarPhases.{scope_of}
use Rattle.loop_marker.specs.region_sets.declared.region.Region.{Region}
use Rattle.f77_ast.specs.declared.marks.Mark.{Mark}
use Rattle.loop_marker.specs.Known.{knowledge_of}
use Rattle.loop_marker.specs.Marks.{marks_of}
use Rattle.session_texts.specs.pipsmake_meaning.Texts.{ReadModule}
use Rattle.session_texts.specs.pipsmake_meaning.MemoCells.{MemoCells}
use Rattle.session_texts.specs.pipsmake_meaning.Rules.{effects_kept, transformers_kept, preconditions_kept, regions_kept, ins_kept, outs_kept}
use Rattle.result_making.specs.declared.modules.Own.{Own}

abbrev pub own_tree : Own → ReadModule
own_tree o = record { module_is = parsed_tree o.parsed.now; table = map symbol_tree o.symbols.now }

-- the statements of the first module
abbrev pub first_tree : List ParsedTree → Option ModuleTree
first_tree [] = None
first_tree (p ∷ ps) = Some p.module_read

-- where a text is a module, these are its statements
abbrev pub IsReadAs : Option ReadModule → Option Module → Type 0
IsReadAs m found = (r : ReadModule) → m ≡ Some r → option_map module_tree found ≡ Some r.module_is.module_read

-- ---- what the marks of a module are made from

pub record Needed : Type 0 where
  pub effects : Results EffectSet
  pub transformers : Results Transformer
  pub preconditions : Results System
  pub regions : Results (List Region)
  pub ins : Results (List Region)
  pub outs : Results (List Region)

abbrev pub needed_tree : Analysis → Needed
needed_tree a = record {
  effects = a.effects.now;
  transformers = a.transformers.now;
  preconditions = a.preconditions.now;
  regions = a.regions.now;
  ins = a.ins.now;
  outs = a.outs.now;
}

abbrev pub needed_from : Option (Results EffectSet) → Option (Results Transformer) → Option (Results System) → Option (Results (List Region)) → Option (Results (List Region)) → Option (Results (List Region)) → Option Needed
needed_from effects own holds found taken later =
    option_and_then (λ effects. option_and_then (λ own. option_and_then (λ holds. option_and_then (λ found. option_and_then (λ taken. option_map (λ later.
    record { effects = effects; transformers = own; preconditions = holds; regions = found; ins = taken; outs = later })
    later) taken) found) holds) own) effects

-- where all are kept
abbrev pub needed_kept : MemoCells → List ℕ → Option Needed
needed_kept sh x = needed_from (effects_kept sh x) (transformers_kept sh x) (preconditions_kept sh x) (regions_kept sh x) (ins_kept sh x) (outs_kept sh x)

abbrev pub marks_from : List BlockUnit → Known → Needed → List (At Mark)
marks_from untracked k n = marks_of (knowledge_of k.read k.symbols (symbol_names k.symbols) (scope_of untracked k) n.effects.at n.transformers.at n.preconditions.at n.regions.at n.ins.at n.outs.at)
