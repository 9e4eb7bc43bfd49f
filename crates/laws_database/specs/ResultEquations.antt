-- Each result of a module as its kind makes it: from its own tree, symbols and earlier results, and from results of the modules that it calls, or that call it.
use Rattle.std.specs.Prelude.{◌≡◌, List}
use Rattle.call_graph.specs.declared.graph.Graph.{Graph}
use Rattle.preconditions.specs.transformers.Lists.{transformer_at}
use Rattle.preconditions.specs.transformers.Modules.{transformers_of}
use Rattle.preconditions.specs.Entry.{entry_of}
use Rattle.preconditions.specs.Modules.{preconditions_of}
use Rattle.loop_marker.specs.module_phases.ScalarPhases.{scope_of}
use Rattle.loop_marker.specs.module_phases.RegionPhases.{regions_found}
use Rattle.loop_marker.specs.module_phases.InPhases.{ins_found}
use Rattle.loop_marker.specs.module_phases.OutPhases.{outs_found}
use Rattle.loop_marker.specs.Results.{ModuleResults}
use Rattle.loop_marker.specs.Phases.{phases_of, analysis_in, effects_found, marks_found}
use Rattle.session_texts.specs.pipsmake_meaning.ResultEntries.{name_in}
use Rattle.laws_database.specs.ResultCallees.{effect_summaries, transformer_summaries, region_summaries, in_summaries}
use Rattle.laws_database.specs.ResultCallers.{callers, holding_sites, later_sites}

-- the results of one module, from those of all modules
pub record FollowsFrom (g : Graph) (fs : List ModuleResults) (f : ModuleResults) : Type 0 where
  pub effects : f.effects ≡ effects_found (effect_summaries fs) f.known
  pub transformers : f.transformers ≡ transformers_of f.known.read.body (scope_of g.untracked f.known) (transformer_summaries fs)
  pub preconditions : f.preconditions ≡ preconditions_of f.known.read.body (scope_of g.untracked f.known) (transformer_at f.transformers.at)
      (entry_of f.known.read.main (scope_of g.untracked f.known) (holding_sites g.untracked (callers fs (name_in f)) (name_in f)))
  pub regions : f.regions ≡ regions_found g.untracked (region_summaries fs) (analysis_in (phases_of f))
  pub ins : f.ins ≡ ins_found g.untracked (in_summaries fs) (phases_of f).known.known
  pub outs : f.outs ≡ outs_found g (later_sites g.untracked (callers fs (name_in f)) (name_in f)) (phases_of f).known
  pub marks : f.marks ≡ marks_found g.untracked (phases_of f) f.effects
