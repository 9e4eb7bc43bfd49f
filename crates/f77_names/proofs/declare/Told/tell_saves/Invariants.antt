use Rattle.std.proofs.Common.{◌≡◌, drop}
use Rattle.f77_names.specs.Declaring.{saves_told}
use Rattle.f77_names.specs.Views.{told_tree}
use Rattle.f77_names.proofs.declare.Told.tell_saves.Given as goal

abbrev pub invariant-loop-item : goal.invariant-loop-item
invariant-loop-item l = saves_told (drop l.item-index l.item-items) l.line (told_tree l.self) ≡ saves_told l.item-items l.line (told_tree l.fn.self)
