use Rattle.std.proofs.Common.{◌≡◌, drop}
use Rattle.f77_names.specs.Declaring.{dummies_told}
use Rattle.f77_names.specs.Views.{told_tree}
use Rattle.f77_names.proofs.declare.Told.tell_dummies.Given as goal

abbrev pub invariant-loop-name : goal.invariant-loop-name
invariant-loop-name l = dummies_told (drop l.name-index l.name-items) l.number l.line (told_tree l.self) ≡ dummies_told l.name-items 1 l.line (told_tree l.fn.self)
