use Rattle.std.proofs.Common.{◌≡◌, ◌++◌, map, length}
use Rattle.loop_marker.specs.module_phases.Callers.{outs_tree, AllOuts}
use Rattle.session_texts.specs.pipsmake_meaning.Rules.{later_callers}
use Rattle.result_store.specs.Rows.{memo_cells_of}
use Rattle.result_making.proofs.above.later_above.Given as goal

abbrev pub invariant-loop-rest : goal.invariant-loop-rest
invariant-loop-rest l = record { same : map outs_tree l.above.items ++ later_callers (memo_cells_of l.store) l.sources l.rest ≡ later_callers (memo_cells_of l.store) l.sources l.names; fits : AllOuts l.above.items }

abbrev pub decreases-loop-rest : goal.decreases-loop-rest
decreases-loop-rest l = length l.rest
