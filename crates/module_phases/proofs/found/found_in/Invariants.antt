use Rattle.std.proofs.Common.{◌≡◌, ◌++◌, map, drop}
use Rattle.std.specs.Prelude.{All}
use Rattle.f77_ast.specs.Summaries.{summary_in}
use Rattle.preconditions.specs.transformers.Given.{CalleesFit}
use Rattle.module_phases.specs.ScalarPhases.{no_callees, found_in}
use Rattle.module_phases.specs.ScalarViews.{modules_in, found_tree, FoundFits}
use Rattle.module_phases.proofs.found.found_in.Given as goal

abbrev pub invariant-loop-name : goal.invariant-loop-name
invariant-loop-name l = record {
  same : map found_tree l.all.items ++ found_in l.program.graph.now.untracked (modules_in l.program) (summary_in l.callees) (drop l.name-index l.name-items) ≡ found_in l.program.graph.now.untracked (modules_in l.program) no_callees l.name-items;
  callees : CalleesFit (summary_in l.callees);
  fit : All FoundFits l.all.items;
}
