-- What the code knows around lists and statements, as plain data, and what calls ask of it.
use Rattle.f77_ast.specs.Summaries.{summary_in}
use Rattle.array_regions.specs.transformers.Given.{ResultsFit}
use Rattle.array_regions.specs.region_sets.Lists.{SetsFit}
use Rattle.array_regions.specs.Known.{scope_in, found_in}
use Rattle.array_regions.specs.Known as outer
use Rattle.in_out_regions.specs.declared.lists.ListContext.{ListContext}
use Rattle.in_out_regions.specs.declared.context.InContext.{InContext}
use Rattle.in_out_regions.specs.Known.{KnownTree}
use Rattle.in_out_regions.specs.Calls.{call_in}

pub record ContextFits (k : ListContext) : Type 0 where
  pub own : ResultsFit k.own.now
  pub regions : SetsFit k.regions.now
  pub ins : SetsFit k.ins.now

abbrev pub known_in : InContext → KnownTree
known_in k = record {
  scope = scope_in k.around.now;
  does = found_in k.around.now;
  accesses = k.regions.now;
  called = call_in (scope_in k.around.now) k.around.now.changed.now k.around.now.view.now.graph.now.untracked (summary_in k.around.now.callees.now);
}

pub record KnownFits (k : InContext) : Type 0 where
  pub around : outer.KnownFits k.around.now
  pub regions : SetsFit k.regions.now
