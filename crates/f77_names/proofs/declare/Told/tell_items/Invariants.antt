use Rattle.std.proofs.Common.{◌≡◌, drop, map}
use Rattle.f77_ast.specs.Plain.{expr_tree}
use Rattle.f77_names.specs.Words.{mentioned}
use Rattle.f77_names.specs.Declaring.{items_told}
use Rattle.f77_names.specs.Views.{told_tree}
use Rattle.f77_names.proofs.declare.Told.tell_items.Given as goal

abbrev pub invariant-loop-item : goal.invariant-loop-item
invariant-loop-item l = items_told l.sight.arrays.now (mentioned l.mention) (map expr_tree (drop l.item-index l.item-items)) l.line (told_tree l.self) ≡ items_told l.sight.arrays.now (mentioned l.mention) (map expr_tree l.item-items) l.line (told_tree l.fn.self)
