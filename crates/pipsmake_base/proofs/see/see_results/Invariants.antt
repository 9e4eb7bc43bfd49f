use Rattle.std.proofs.Common.{length}
use Rattle.pipsmake_db.specs.result_store.Rows.{memo_cells_of}
use Rattle.pipsmake_base.proofs.Taking.{SeesRest}
use Rattle.pipsmake_base.proofs.see.see_results.Given as goal

abbrev pub invariant-loop-stored : goal.invariant-loop-stored
invariant-loop-stored l = SeesRest (memo_cells_of l.fn.store) l.fn.results (memo_cells_of l.store) l.seen l.rest

abbrev pub decreases-loop-stored : goal.decreases-loop-stored
decreases-loop-stored l = length l.rest
