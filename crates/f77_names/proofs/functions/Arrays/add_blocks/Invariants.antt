use Rattle.std.proofs.Common.{◌≡◌, drop, map}
use Rattle.f77_ast.specs.PlainDecl.{common_tree}
use Rattle.f77_names.specs.Functions.{with_blocks}
use Rattle.f77_names.proofs.functions.Arrays.add_blocks.Given as goal

abbrev pub invariant-loop-part : goal.invariant-loop-part
invariant-loop-part l = with_blocks (map common_tree (drop l.part-index l.part-items)) l.self ≡ with_blocks (map common_tree l.part-items) l.fn.self
