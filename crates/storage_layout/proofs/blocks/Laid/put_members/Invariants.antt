use Rattle.std.proofs.Common.{◌≡◌, drop, map}
use Rattle.f77_ast.specs.PlainDecl.{entity_tree}
use Rattle.f77_names.specs.Views.{table_tree}
use Rattle.storage_layout.specs.Blocks.{members_put}
use Rattle.storage_layout.proofs.blocks.Laid.put_members.Given as goal

abbrev pub invariant-loop-entity : goal.invariant-loop-entity
invariant-loop-entity l =
    members_put (table_tree l.table) l.block (map entity_tree (drop l.entity-index l.members)) l.self ≡ members_put (table_tree l.table) l.block (map entity_tree l.members) l.initial.self
