use Rattle.std.proofs.Common.{◌≡◌, length}
use Rattle.f77_ast.specs.Index.{names_of}
use Rattle.loop_marker.specs.Variables.{with_names}
use Rattle.loop_marker.proofs.variables.with_names.Given as goal

abbrev pub invariant-loop-rest : goal.invariant-loop-rest
invariant-loop-rest l = with_names (names_of l.symbols) l.all l.rest ≡ with_names (names_of l.symbols) l.fn.variables l.names

abbrev pub decreases-loop-rest : goal.decreases-loop-rest
decreases-loop-rest l = length l.rest
