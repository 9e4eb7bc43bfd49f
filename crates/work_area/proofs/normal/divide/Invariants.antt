use Rattle.std.proofs.Common.{◌≡◌, ◌≤◌, ◌++◌, take, drop}
use Rattle.std.specs.Vec.{vec_capacity}
use Rattle.affine_systems.specs.Normal.{divided}
use Rattle.work_area.proofs.normal.divide.Given as goal

abbrev pub invariant-loop-i : goal.invariant-loop-i
invariant-loop-i l = record {
  items : l.terms.items ≡ divided l.g (take l.i l.fn.terms.items) ++ drop l.i l.fn.terms.items;
  room : vec_capacity l.fn.terms ≤ vec_capacity l.terms;
}
