use Rattle.std.proofs.Common.{◌≡◌, ◌++◌, drop, map}
use Rattle.f77_ast.specs.PlainDecl.{extent_tree}
use Rattle.f77_parser.specs.Standing.{extent_names}
use Rattle.f77_parser.proofs.standing.add_extents.Given as goal

abbrev pub invariant-loop-extent : goal.invariant-loop-extent
invariant-loop-extent l = l.names ++ extent_names (map extent_tree (drop l.extent-index l.extent-items)) ≡ l.fn.names ++ extent_names (map extent_tree l.extent-items)
