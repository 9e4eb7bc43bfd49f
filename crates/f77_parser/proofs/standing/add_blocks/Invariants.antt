use Rattle.std.proofs.Common.{◌≡◌, ◌++◌, drop, map}
use Rattle.f77_ast.specs.PlainDecl.{common_tree}
use Rattle.f77_parser.specs.Standing.{block_names}
use Rattle.f77_parser.proofs.standing.add_blocks.Given as goal

abbrev pub invariant-loop-part : goal.invariant-loop-part
invariant-loop-part l = l.names ++ block_names (map common_tree (drop l.part-index l.part-items)) ≡ l.fn.names ++ block_names (map common_tree l.part-items)
