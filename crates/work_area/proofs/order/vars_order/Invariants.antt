use Rattle.std.proofs.Common.{◌≡◌, drop}
use Rattle.affine_systems.specs.Rows.{vars_cmp}
use Rattle.work_area.proofs.order.vars_order.Given as goal

abbrev pub invariant-loop-i : goal.invariant-loop-i
invariant-loop-i l = vars_cmp (drop l.i l.ts) (drop l.i l.us) ≡ vars_cmp l.fn.ts l.fn.us
