use Rattle.loop_marker.specs.Known.{known_module}
use Rattle.loop_marker.specs.Marks.{mark_of}
use Rattle.loop_marker.proofs.Steps.{marks-step}
use Rattle.loop_marker.proofs.loops.+loops.Goals as goal

pub push_list-loop-s-preserved : goal.push_list-loop-s-preserved
push_list-loop-s-preserved t c =
    marks-step (mark_of (known_module c.args.a.now)) c.as_slice-s-items.result.now c.loop-s.s-index c.s-item.result c.loop-s.made c.push_stmt.new.made _ c.loop-s-test.true c.s-item.is c.in_ok-push_stmt.ensures c.loop-s.invariant
