use Rattle.std.proofs.Common.{length}
use Rattle.result_store.specs.Rows.{memo_cells_of}
use Rattle.pipsmake_db.proofs.BringLaws.{BringsRest}
use Rattle.pipsmake_db.proofs.bring.bring_all.Given as goal

abbrev pub invariant-loop-rest : goal.invariant-loop-rest
invariant-loop-rest l = BringsRest (memo_cells_of l.fn.store) l.modules.sources.now l.fn.walk l.made (memo_cells_of l.store) l.rest

abbrev pub decreases-loop-rest : goal.decreases-loop-rest
decreases-loop-rest l = length l.rest
