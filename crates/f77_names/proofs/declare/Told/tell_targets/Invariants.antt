use Rattle.std.proofs.Common.{◌≡◌, drop, map}
use Rattle.f77_ast.specs.PlainDecl.{data_tree}
use Rattle.f77_names.specs.Declaring.{targets_told}
use Rattle.f77_names.specs.Views.{told_tree}
use Rattle.f77_names.proofs.declare.Told.tell_targets.Given as goal

abbrev pub invariant-loop-group : goal.invariant-loop-group
invariant-loop-group l = targets_told l.sight.arrays.now (map data_tree (drop l.group-index l.group-items)) l.line (told_tree l.self) ≡ targets_told l.sight.arrays.now (map data_tree l.group-items) l.line (told_tree l.fn.self)
