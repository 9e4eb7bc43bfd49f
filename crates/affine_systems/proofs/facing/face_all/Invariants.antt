use Rattle.std.proofs.Common.{◌≡◌, ◌+◌, ◌++◌, drop}
use Rattle.affine_systems.specs.Tidy.{faced_all}
use Rattle.affine_systems.proofs.facing.face_all.Given as goal

abbrev pub invariant-loop-i : goal.invariant-loop-i
invariant-loop-i l = l.out.items ++ faced_all (l.made + l.i) (drop l.i l.items.items) l.items.items ≡ faced_all l.made l.items.items l.items.items
