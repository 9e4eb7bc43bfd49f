use Rattle.std.proofs.Common.{◌≡◌, ℕ, List, map, length}
use Rattle.f77_ast.specs.Summaries.{summary_in}
use Rattle.preconditions.specs.transformers.Given.{CalleesFit}
use Rattle.module_phases.specs.Callees.{callee_tree, callee_at, callees_of, AllFit}
use Rattle.module_phases.proofs.callees.transformers_of.Given as goal

abbrev pub invariant-loop-rest : goal.invariant-loop-rest
invariant-loop-rest l = record {
  same : (x : List ℕ) → callee_at (summary_in l.summaries x) (map callee_tree l.rest) x ≡ callees_of (map callee_tree l.callees) x;
  fits : CalleesFit (summary_in l.summaries);
  each : AllFit l.rest;
}

abbrev pub decreases-loop-rest : goal.decreases-loop-rest
decreases-loop-rest l = length l.rest
