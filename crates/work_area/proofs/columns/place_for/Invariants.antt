use Rattle.std.proofs.Common.{◌≡◌, ◌++◌, false, pos, take, drop}
use Rattle.affine_systems.specs.Terms.{add_term}
use Rattle.affine_systems.specs.Places.{has_var}
use Rattle.work_area.proofs.columns.place_for.Given as goal

abbrev pub invariant-loop-i : goal.invariant-loop-i
invariant-loop-i l = record {
  lacks : has_var l.v (drop l.i l.sum) ≡ false;
  placed : take l.i l.sum ++ add_term l.v (pos 1) (drop l.i l.sum) ≡ add_term l.v (pos 1) l.sum;
}
