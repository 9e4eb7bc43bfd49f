use Rattle.std.proofs.Common.{◌≡◌, ◌++◌, map, length}
use Rattle.loop_marker.specs.module_phases.Callees.{callee_tree}
use Rattle.session_texts.specs.pipsmake_meaning.Rules.{effects_kept, callees_with}
use Rattle.result_store.specs.Rows.{memo_cells_of}
use Rattle.result_making.proofs.below.effects_below.Given as goal

abbrev pub invariant-loop-rest : goal.invariant-loop-rest
invariant-loop-rest l = map callee_tree l.below.items ++ callees_with (effects_kept (memo_cells_of l.store)) l.sources l.rest ≡ callees_with (effects_kept (memo_cells_of l.store)) l.sources l.names

abbrev pub decreases-loop-rest : goal.decreases-loop-rest
decreases-loop-rest l = length l.rest
