use Rattle.std.proofs.Common.{subst, false}
use Rattle.affine_systems.specs.declared.row.Norm.{Norm}
use Rattle.affine_systems.specs.Normal.{normal, Answers}
use Rattle.affine_systems.proofs.FitLaws.{kept-ascends}
use Rattle.affine_systems.proofs.ReducedLaws.{kept-reduced, normal-reduced}
use Rattle.affine_systems.proofs.ItemSteps.{answers_kept}
use Rattle.affine_systems.proofs.normal.normalise.Goals as goal

pub returns-clause-normal : goal.returns-clause-normal
returns-clause-normal c e a =
    let old = c.args.row.now in
    let new = c.normalise_as.new.row in
    let k = answers_kept (normal false old) old new (subst (λ (n : Norm). Answers (normal false old) n old new) e c.normalise_as.ensures) in
    (kept-ascends false old new a k, normal-reduced false new (kept-reduced false old new a k))
