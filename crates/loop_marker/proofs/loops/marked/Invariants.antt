use Rattle.std.proofs.Common.{◌≡◌, [], length}
use Rattle.f77_ast.specs.PlainStmt.{loop_tree}
use Rattle.privatizer.specs.Views.{uses_tree}
use Rattle.loop_marker.specs.Known.{known_module}
use Rattle.loop_marker.specs.Marks.{marked, verdict_of}
use Rattle.loop_marker.proofs.loops.marked.Given as goal

abbrev pub invariant-loop-rest : goal.invariant-loop-rest
invariant-loop-rest l =
    let f = verdict_of (known_module l.a) l.looked.body (uses_tree l.looked.uses) (loop_tree l.looked.the_loop.now) l.looked.inner in
    marked f l.numbers l.rest ≡ marked f [] l.variables

abbrev pub decreases-loop-rest : goal.decreases-loop-rest
decreases-loop-rest l = length l.rest
