use Rattle.std.proofs.Common.{◌≡◌, ◌+◌, ◌*◌, ◌≤◌, ◌^◌, false, drop}
use Rattle.affine_systems.specs.Given.{ItemsFit}
use Rattle.hull_projection.specs.Refute.{left, eliminate_all}
use Rattle.work_area.specs.Tables.{items_of, IsSound, KeepsReady, MadeBelow}
use Rattle.work_area.specs.Refuting.{vars_of}
use Rattle.work_area.proofs.refuting.eliminate_each.Given as goal

abbrev pub invariant-loop-i : goal.invariant-loop-i
invariant-loop-i l = record {
  left : (eliminate_all false (left (items_of l.tables) false l.pairs) (drop l.i (vars_of l.sum))).items ≡ (eliminate_all false (left (items_of l.fn.tables) false 0) (vars_of l.fn.sum)).items;
  sound : IsSound l.tables;
  fits : ItemsFit false (items_of l.tables);
  below : MadeBelow (512 + 2 ^ 56 * l.i) (items_of l.tables);
  few : l.pairs ≤ l.i;
  ready : KeepsReady l.fn.tables l.tables;
}
