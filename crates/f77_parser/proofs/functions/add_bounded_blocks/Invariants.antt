use Rattle.std.proofs.Common.{◌≡◌, ◌++◌, drop, map}
use Rattle.f77_ast.specs.PlainDecl.{common_tree}
use Rattle.f77_parser.specs.Functions.{bounded_blocks}
use Rattle.f77_parser.proofs.functions.add_bounded_blocks.Given as goal

abbrev pub invariant-loop-part : goal.invariant-loop-part
invariant-loop-part l = l.names ++ bounded_blocks (map common_tree (drop l.part-index l.part-items)) ≡ l.fn.names ++ bounded_blocks (map common_tree l.part-items)
