use Rattle.std.proofs.Common.{◌≡◌, drop, map}
use Rattle.f77_ast.specs.PlainDecl.{common_tree}
use Rattle.f77_names.specs.Declaring.{blocks_told}
use Rattle.f77_names.specs.Views.{told_tree}
use Rattle.f77_names.proofs.declare.Told.tell_blocks.Given as goal

abbrev pub invariant-loop-part : goal.invariant-loop-part
invariant-loop-part l = blocks_told l.sight.arrays.now (map common_tree (drop l.part-index l.part-items)) l.line (told_tree l.self) ≡ blocks_told l.sight.arrays.now (map common_tree l.part-items) l.line (told_tree l.fn.self)
