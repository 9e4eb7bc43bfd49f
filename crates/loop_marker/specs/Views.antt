-- What the code holds, as plain data, and what calls ask of it.
use Rattle.std.specs.Prelude.{All}
use Rattle.affine_systems.specs.declared.row.System.{System}
use Rattle.affine_systems.specs.Given.{Fits}
use Rattle.f77_ast.specs.declared.results.At.{At}
use Rattle.transformers.specs.Given as transformers
use Rattle.region_sets.specs.Lists.{SetsFit}
use Rattle.module_phases.specs.ScalarViews.{known}
use Rattle.loop_marker.specs.declared.phases.ModuleResults as code
use Rattle.loop_marker.specs.Results as results

abbrev pub results_tree : code.ModuleResults → results.ModuleResults
results_tree r = record {
  known = known r.«module».now r.symbols.now;
  effects = r.effects;
  transformers = r.transformers;
  preconditions = r.preconditions;
  regions = r.regions;
  ins = r.ins;
  outs = r.outs;
  marks = r.marks;
}

-- systems that calls take
pub record SystemsFit (r : results.ModuleResults) : Type 0 where
  pub transformers : transformers.ResultsFit r.transformers.at
  pub preconditions : All (λ (a : At System). Fits a.value) r.preconditions.at
  pub regions : SetsFit r.regions.at
  pub ins : SetsFit r.ins.at
  pub outs : SetsFit r.outs.at

abbrev pub ResultsFit : code.ModuleResults → Type 0
ResultsFit r = SystemsFit (results_tree r)
