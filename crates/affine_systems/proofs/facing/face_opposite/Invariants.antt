use Rattle.std.proofs.Common.{◌≡◌, drop}
use Rattle.affine_systems.specs.Tidy.{face_opposite}
use Rattle.affine_systems.proofs.facing.face_opposite.Given as goal

abbrev pub invariant-loop-other : goal.invariant-loop-other
invariant-loop-other l = face_opposite l.made l.item (drop l.other-index l.items) ≡ face_opposite l.fn.made l.fn.item l.fn.items
