use Rattle.std.proofs.Common.{◌≡◌, ◌++◌, length}
use Rattle.pipsmake_db.specs.base_values.Naming.{Each}
use Rattle.pipsmake_base.specs.Fitting.{ModuleFits}
use Rattle.pipsmake_base.specs.Saving.{results_saved}
use Rattle.pipsmake_base.proofs.results.results_of.Given as goal

abbrev pub invariant-loop-rest : goal.invariant-loop-rest
invariant-loop-rest l = record {
  results : l.results ++ results_saved l.db l.rest ≡ results_saved l.db l.fn.names;
  fits : Each (ModuleFits l.db) l.rest → Each (ModuleFits l.db) l.fn.names;
}

abbrev pub decreases-loop-rest : goal.decreases-loop-rest
decreases-loop-rest l = length l.rest
