use Rattle.std.proofs.Common.{◌≡◌, ◌++◌, map, length}
use Rattle.loop_marker.specs.module_phases.Callers.{holds_tree, AllHold}
use Rattle.session_texts.specs.pipsmake_meaning.Rules.{holding_callers}
use Rattle.result_store.specs.Rows.{memo_cells_of}
use Rattle.result_making.proofs.above.holding_above.Given as goal

abbrev pub invariant-loop-rest : goal.invariant-loop-rest
invariant-loop-rest l = record { same : map holds_tree l.above.items ++ holding_callers (memo_cells_of l.store) l.sources l.rest ≡ holding_callers (memo_cells_of l.store) l.sources l.names; fits : AllHold l.above.items }

abbrev pub decreases-loop-rest : goal.decreases-loop-rest
decreases-loop-rest l = length l.rest
