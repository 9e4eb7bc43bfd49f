-- What the rule of each kind of result makes of a module, from what it names.
use Rattle.std.specs.Prelude.{List}
use Rattle.affine_systems.specs.declared.row.System.{System}
use Rattle.f77_ast.specs.declared.variable.Unit.{Unit as BlockUnit}
use Rattle.f77_ast.specs.declared.effect_set.EffectSet.{EffectSet}
use Rattle.f77_ast.specs.declared.results.Results.{Results}
use Rattle.call_graph.specs.declared.graph.Graph.{Graph}
use Rattle.f77_meaning.specs.Modules.{Known}
use Rattle.in_out_regions.specs.effects.Modules.{cumulated_of}
use Rattle.preconditions.specs.transformer_algebra.declared.transformer.Transformer.{Transformer}
use Rattle.preconditions.specs.transformers.Lists.{transformer_at}
use Rattle.preconditions.specs.transformers.Modules.{transformers_of}
use Rattle.preconditions.specs.Entry.{entry_of}
use Rattle.preconditions.specs.Modules.{preconditions_of}
use Rattle.in_out_regions.specs.region_sets.declared.region.Region.{Region}
use Rattle.in_out_regions.specs.array_regions.Modules.{regions_with}
use Rattle.in_out_regions.specs.Modules.{ins_with}
use Rattle.out_regions.specs.Modules.{outs_with}
use Rattle.module_phases.specs.ScalarPhases.{scope_of}
use Rattle.module_phases.specs.OutPhases.{used_after}
use Rattle.module_phases.specs.Callees.{Callee, callees_of}
use Rattle.module_phases.specs.Callers.{CallerHolds, CallerOuts, sites_of, out_sites_of}

-- the effects of a module, from those of the modules that it calls
abbrev pub effects_from : Known → List (Callee EffectSet) → Results EffectSet
effects_from k cs = cumulated_of k.read.body (callees_of cs) k.symbols

-- what its statements do
abbrev pub transformers_from : List BlockUnit → Known → List (Callee Transformer) → Results Transformer
transformers_from untracked k cs = transformers_of k.read.body (scope_of untracked k) (callees_of cs)

-- what holds where they begin, from the CALLs of the module in those that call it
abbrev pub preconditions_from : List BlockUnit → Known → Results Transformer → List CallerHolds → Results System
preconditions_from untracked k own cs = preconditions_of k.read.body (scope_of untracked k) (transformer_at own.at) (entry_of k.read.main (scope_of untracked k) (sites_of untracked cs k.read.name))

-- READ and WRITE
abbrev pub regions_from : List BlockUnit → Known → Results Transformer → List (Callee (List Region)) → Results (List Region)
regions_from untracked k own cs = regions_with k.read.body (scope_of untracked k) untracked own.at (callees_of cs)

-- IN
abbrev pub ins_from : List BlockUnit → Known → Results Transformer → Results (List Region) → List (Callee (List Region)) → Results (List Region)
ins_from untracked k own found cs = ins_with k.read.body (scope_of untracked k) untracked own.at found.at (callees_of cs)

-- OUT, from the CALLs of the module in those that call it
abbrev pub outs_from : Graph → Known → Results Transformer → Results (List Region) → Results (List Region) → List CallerOuts → Results (List Region)
outs_from g k own found ins cs = outs_with k.read.body (scope_of g.untracked k) own.at found.at ins.at (used_after g k (out_sites_of g.untracked cs k.read.name))
