use Rattle.std.proofs.Common.{◌≡◌, drop, map}
use Rattle.f77_ast.specs.Plain.{expr_tree}
use Rattle.f77_names.specs.Declaring.{groups_told}
use Rattle.f77_names.specs.Views.{told_tree}
use Rattle.f77_names.proofs.declare.Told.tell_groups.Given as goal

abbrev pub invariant-loop-group : goal.invariant-loop-group
invariant-loop-group l = groups_told l.sight.arrays.now (map (map expr_tree) (drop l.group-index l.group-items)) l.line (told_tree l.self) ≡ groups_told l.sight.arrays.now (map (map expr_tree) l.group-items) l.line (told_tree l.fn.self)
