use Rattle.std.proofs.Common.{◌≡◌, length, Some}
use Rattle.std.specs.Prelude.{IfSome, ◌^◌}
use Rattle.affine_systems.specs.Given.{FactorsBelow}
use Rattle.affine_forms.specs.Forms.{IsSmallForm}
use Rattle.call_equations.specs.Cells.{named_terms, named_form}
use Rattle.call_equations.proofs.cells.named_sum.Given as goal

abbrev pub invariant-loop-rest : goal.invariant-loop-rest
invariant-loop-rest l = record {
  same : named_terms l.rank l.sum l.rest ≡ named_form l.rank (Some l.form);
  small : IfSome l.sum IsSmallForm;
  each : FactorsBelow (2 ^ 62) l.rest;
}

abbrev pub decreases-loop-rest : goal.decreases-loop-rest
decreases-loop-rest l = length l.rest
