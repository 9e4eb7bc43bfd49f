use Rattle.std.proofs.Common.{◌≡◌, [], length}
use Rattle.f77_ast.specs.PlainStmt.{loop_tree}
use Rattle.loop_marker.specs.privatizer.Views.{uses_tree}
use Rattle.loop_marker.specs.Known.{known_module}
use Rattle.loop_marker.specs.Marks.{verdict_of}
use Rattle.reductions.specs.Reduced.{reduction_from}
use Rattle.reductions.proofs.found.by_variables.Given as goal

abbrev pub invariant-loop-rest : goal.invariant-loop-rest
invariant-loop-rest l =
    let k = known_module l.a in
    let t = loop_tree l.looked.the_loop.now in
    let f = verdict_of k l.looked.body (uses_tree l.looked.uses) t l.looked.inner in
    reduction_from k l.a.view.now.graph.now.order t f l.private l.parts l.rest ≡ reduction_from k l.a.view.now.graph.now.order t f [] [] l.variables

abbrev pub decreases-loop-rest : goal.decreases-loop-rest
decreases-loop-rest l = length l.rest
