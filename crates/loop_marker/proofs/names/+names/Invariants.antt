use Rattle.std.proofs.Common.{◌≡◌, drop}
use Rattle.f77_ast.specs.Plain.{expr_trees}
use Rattle.loop_marker.specs.Names.{have_name}
use Rattle.loop_marker.proofs.names.+names.Given as goal

abbrev pub invariant-have_name-loop-e : goal.invariant-have_name-loop-e
invariant-have_name-loop-e l = have_name l.name (expr_trees (drop l.e-index l.e-items)) ≡ have_name l.name (expr_trees l.e-items)
