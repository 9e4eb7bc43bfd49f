use Rattle.std.proofs.Common.{◌≡◌, length, map}
use Rattle.std.specs.Prelude.{bytes_eq}
use Rattle.std.specs.List.{list_any}
use Rattle.f77_ast.specs.Plain.{expr_tree}
use Rattle.tracked_cells.specs.Equivalences.{group_names}
use Rattle.privatizer.proofs.names.is_in_groups.Given as goal

abbrev pub invariant-loop-rest : goal.invariant-loop-rest
invariant-loop-rest l = list_any (bytes_eq l.name) (group_names (map (map expr_tree) l.rest)) ≡ list_any (bytes_eq l.name) (group_names (map (map expr_tree) l.groups))

abbrev pub decreases-loop-rest : goal.decreases-loop-rest
decreases-loop-rest l = length l.rest
