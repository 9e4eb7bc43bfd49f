use Rattle.std.proofs.Common.{◌≡◌, ℕ, drop}
use Rattle.affine_systems.specs.Tidy.{face_opposite}
use Rattle.affine_systems.proofs.facing.stays_among.Given as goal

abbrev pub invariant-loop-other : goal.invariant-loop-other
invariant-loop-other l = (n : ℕ) → face_opposite n l.item (drop l.other-index l.items) ≡ face_opposite n l.fn.item l.fn.items
