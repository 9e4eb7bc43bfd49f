use Rattle.std.proofs.Common.{◌≡◌, ◌++◌, length}
use Rattle.affine_systems.specs.Rows.{AllRows}
use Rattle.region_sets.specs.Ready.{IsReady}
use Rattle.call_equations.specs.Sides.{sides_tree}
use Rattle.region_translation.specs.Pieces.{with_forms, formless}
use Rattle.region_translation.proofs.pieces.with_forms.Given as goal

abbrev pub invariant-loop-rest : goal.invariant-loop-rest
invariant-loop-rest l = record {
  same : with_forms (sides_tree l.sides) l.rank l.rest l.left ≡ with_forms (sides_tree l.sides) l.rank l.vars l.fn.s;
  gone : l.formless ++ formless (sides_tree l.sides) l.rank l.rest ≡ l.fn.formless ++ formless (sides_tree l.sides) l.rank l.vars;
  ready : AllRows IsReady l.left.rows;
}

abbrev pub decreases-loop-rest : goal.decreases-loop-rest
decreases-loop-rest l = length l.rest
