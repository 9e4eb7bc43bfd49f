use Rattle.std.proofs.Common.{◌<◌, ◌^◌, true, sym, subst, unsigned_abs, to_z, of_z}
use Rattle.std.specs.Int.{w128}
use Rattle.affine_forms.proofs.RowLaws.{difference_given}
use Rattle.affine_forms.proofs.SmallLaws.{unchanged}
use Rattle.affine_forms.proofs.rows.same_row.Goals as goal

pub returns-clause-fits : goal.returns-clause-fits
returns-clause-fits c =
    let b = c.bound_difference-bound.ensures.below in
    difference_given true _ (to_z w128 (of_z w128 c.bound_difference-bound.result)) c.args.left.now c.args.right.now c.in_ok-terms.ensures c.requires.left c.requires.right
    (subst (λ z. unsigned_abs z < 2 ^ 126) (sym (unchanged c.bound_difference-bound.result b)) b)
