use Rattle.std.proofs.Common.{◌≡◌, ◌++◌, length}
use Rattle.pipsmake_db.specs.base_values.Scopes.{names_tree}
use Rattle.pipsmake_base.specs.Fitting.{KindsFit}
use Rattle.pipsmake_base.specs.Saving.{results_of_kinds}
use Rattle.pipsmake_base.proofs.results.push_kinds.Given as goal

abbrev pub invariant-loop-rest : goal.invariant-loop-rest
invariant-loop-rest l = record {
  results : l.results ++ results_of_kinds l.db l.name l.rest ≡ l.fn.results ++ results_of_kinds l.db l.name l.fn.kinds;
  fits : KindsFit (names_tree l.names) l.db l.name l.rest → KindsFit (names_tree l.names) l.db l.name l.fn.kinds;
}

abbrev pub decreases-loop-rest : goal.decreases-loop-rest
decreases-loop-rest l = length l.rest
