use Rattle.std.proofs.Common.{◌≡◌, ◌++◌, map, length}
use Rattle.loop_marker.specs.module_phases.Callees.{callee_tree, AllSetsFit}
use Rattle.session_texts.specs.pipsmake_meaning.Rules.{ins_kept, callees_with}
use Rattle.result_store.specs.Rows.{memo_cells_of}
use Rattle.result_making.proofs.below.ins_below.Given as goal

abbrev pub invariant-loop-rest : goal.invariant-loop-rest
invariant-loop-rest l = record { same : map callee_tree l.below.items ++ callees_with (ins_kept (memo_cells_of l.store)) l.sources l.rest ≡ callees_with (ins_kept (memo_cells_of l.store)) l.sources l.names; fits : AllSetsFit l.below.items }

abbrev pub decreases-loop-rest : goal.decreases-loop-rest
decreases-loop-rest l = length l.rest
