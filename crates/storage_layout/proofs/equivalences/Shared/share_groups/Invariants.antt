use Rattle.std.proofs.Common.{◌≡◌, drop, map}
use Rattle.f77_ast.specs.Plain.{expr_tree}
use Rattle.f77_names.specs.Views.{table_tree}
use Rattle.storage_layout.specs.Equivalences.{groups_shared}
use Rattle.storage_layout.proofs.equivalences.Shared.share_groups.Given as goal

abbrev pub invariant-loop-items : goal.invariant-loop-items
invariant-loop-items l =
    groups_shared (table_tree l.table) (map (map expr_tree) (drop l.items-index l.groups)) l.line l.self ≡ groups_shared (table_tree l.table) (map (map expr_tree) l.groups) l.line l.initial.self
