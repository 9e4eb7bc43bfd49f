use Rattle.std.proofs.Common.{◌≡◌, length, Some}
use Rattle.std.specs.Prelude.{IfSome}
use Rattle.affine_systems.specs.Given.{FactorsBelow}
use Rattle.std.specs.Prelude.{◌^◌}
use Rattle.affine_forms.specs.Forms.{IsSmallForm}
use Rattle.call_equations.specs.Sides.{sides_tree}
use Rattle.call_equations.specs.Cells.{terms_in_caller, in_caller}
use Rattle.call_equations.proofs.cells.terms_in_caller.Given as goal

abbrev pub invariant-loop-rest : goal.invariant-loop-rest
invariant-loop-rest l = record {
  same : terms_in_caller (sides_tree l.sides) l.sum l.rest ≡ in_caller (sides_tree l.sides) (Some l.form);
  small : IfSome l.sum IsSmallForm;
  each : FactorsBelow (2 ^ 62) l.rest;
}

abbrev pub decreases-loop-rest : goal.decreases-loop-rest
decreases-loop-rest l = length l.rest
