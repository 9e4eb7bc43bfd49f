use Rattle.std.proofs.Common.{◌≡◌, drop, map}
use Rattle.f77_ast.specs.PlainDecl.{common_tree}
use Rattle.f77_names.specs.Views.{table_tree}
use Rattle.storage_layout.specs.Blocks.{parts_put}
use Rattle.storage_layout.proofs.blocks.Laid.put_parts.Given as goal

abbrev pub invariant-loop-part : goal.invariant-loop-part
invariant-loop-part l =
    parts_put (table_tree l.table) (map common_tree (drop l.part-index l.parts)) l.self ≡ parts_put (table_tree l.table) (map common_tree l.parts) l.initial.self
