use Rattle.std.proofs.Common.{◌≡◌, drop, None}
use Rattle.affine_systems.specs.Tidy.{last_unit}
use Rattle.work_area.proofs.pivots.unit_var.Given as goal

abbrev pub invariant-loop-t : goal.invariant-loop-t
invariant-loop-t l = last_unit l.found (drop l.t-index l.terms) ≡ last_unit None l.fn.terms
