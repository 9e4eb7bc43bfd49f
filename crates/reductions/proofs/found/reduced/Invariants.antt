use Rattle.std.proofs.Common.{◌≡◌, ◌++◌, length}
use Rattle.loop_marker.specs.Known.{known_module}
use Rattle.reductions.specs.Reduced.{reduced_of}
use Rattle.reductions.proofs.found.reduced.Given as goal

abbrev pub invariant-loop-rest : goal.invariant-loop-rest
invariant-loop-rest l =
    let k = known_module l.a in
    l.found ++ reduced_of k l.a.view.now.graph.now.order l.rest ≡ reduced_of k l.a.view.now.graph.now.order l.marks

abbrev pub decreases-loop-rest : goal.decreases-loop-rest
decreases-loop-rest l = length l.rest
