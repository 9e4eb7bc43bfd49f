use Rattle.std.proofs.Common.{◌≡◌, ◌++◌, drop, map}
use Rattle.f77_ast.specs.Plain.{expr_tree}
use Rattle.f77_parser.specs.Standing.{group_names}
use Rattle.f77_parser.proofs.standing.add_groups.Given as goal

abbrev pub invariant-loop-group : goal.invariant-loop-group
invariant-loop-group l = l.names ++ group_names (map (map expr_tree) (drop l.group-index l.group-items)) ≡ l.fn.names ++ group_names (map (map expr_tree) l.group-items)
