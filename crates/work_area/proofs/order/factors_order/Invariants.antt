use Rattle.std.proofs.Common.{◌≡◌, drop}
use Rattle.affine_systems.specs.Rows.{factors_cmp}
use Rattle.work_area.proofs.order.factors_order.Given as goal

abbrev pub invariant-loop-i : goal.invariant-loop-i
invariant-loop-i l = factors_cmp (drop l.i l.ts) (drop l.i l.us) ≡ factors_cmp l.fn.ts l.fn.us
