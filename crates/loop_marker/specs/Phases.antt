-- The results of the modules of a program: after the phases before, the effects and the marks of each module, callees before callers.
use Rattle.std.specs.Prelude.{List, [], ◌∷◌, Some, None, reverse, bytes_eq, if◌then◌else◌}
use Rattle.f77_ast.specs.declared.variable.Unit.{Unit as BlockUnit}
use Rattle.f77_ast.specs.declared.effect_set.EffectSet.{EffectSet}
use Rattle.f77_ast.specs.declared.results.At.{At}
use Rattle.f77_ast.specs.declared.results.Results.{Results}
use Rattle.call_graph.specs.declared.graph.Graph.{Graph}
use Rattle.f77_meaning.specs.Modules.{Known, symbol_names}
use Rattle.effects.specs.List.{Callees}
use Rattle.effects.specs.Modules.{cumulated_of}
use Rattle.module_phases.specs.ScalarPhases.{Analysis, scope_of}
use Rattle.f77_ast.specs.declared.marks.Mark.{Mark}
use Rattle.module_phases.specs.OutPhases.{ModuleOuts}
use Rattle.loop_marker.specs.Results.{ModuleResults}
use Rattle.loop_marker.specs.Known.{knowledge_of}
use Rattle.loop_marker.specs.Marks.{marks_of}

-- of the results of a module those of the phases before, as the last of these gives them
abbrev pub phases_of : ModuleResults → ModuleOuts
phases_of r = record { known = record { known = record { analysis = record { found = record { known = r.known; own = r.transformers }; holds = r.preconditions }; regions = r.regions }; ins = r.ins }; outs = r.outs }

abbrev pub analysis_in : ModuleOuts → Analysis
analysis_in f = f.known.known.analysis

abbrev pub known_in : ModuleOuts → Known
known_in f = (analysis_in f).found.known

-- before any module was looked at
abbrev pub no_callees : Callees
no_callees x = None

-- with one more
abbrev pub with_callee : ModuleResults → Callees → Callees
with_callee r cs x = if bytes_eq r.known.read.name x then Some (record { symbols = r.known.symbols; value = r.effects.summary }) else cs x

abbrev pub effects_found : Callees → Known → Results EffectSet
effects_found cs k = cumulated_of k.read.body cs k.symbols

abbrev pub marks_found : List BlockUnit → ModuleOuts → Results EffectSet → List (At Mark)
marks_found untracked f e =
    let k = known_in f in
    let a = analysis_in f in
    marks_of (knowledge_of k.read k.symbols (symbol_names k.symbols) (scope_of untracked k) e.at a.found.own.at a.holds.at f.known.known.regions.at f.known.ins.at f.outs.at)

-- the results of the phases before with these effects and marks
abbrev pub module_results : ModuleOuts → Results EffectSet → List (At Mark) → ModuleResults
module_results f e ms = record {
  known = known_in f;
  effects = e;
  transformers = (analysis_in f).found.own;
  preconditions = (analysis_in f).holds;
  regions = f.known.known.regions;
  ins = f.known.ins;
  outs = f.outs;
  marks = ms;
}

abbrev pub with_effects : List BlockUnit → ModuleOuts → Results EffectSet → ModuleResults
with_effects untracked f e = module_results f e (marks_found untracked f e)

abbrev pub with_marks : List BlockUnit → Callees → ModuleOuts → ModuleResults
with_marks untracked cs f = with_effects untracked f (effects_found cs (known_in f))

-- modules in this order, each with the effects of those before it
abbrev pub found_in : List BlockUnit → Callees → List ModuleOuts → List ModuleResults
found_in untracked cs [] = []
found_in untracked cs (f ∷ fs) = let n = with_marks untracked cs f in n ∷ found_in untracked (with_callee n cs) fs

-- of the modules of a program, from their OUT regions, in which callers come before callees; in the opposite order
abbrev pub all_marks : Graph → List ModuleOuts → List ModuleResults
all_marks g fs = found_in g.untracked no_callees (reverse fs)
