use Rattle.std.proofs.Common.{◌≡◌, sym, subst}
use Rattle.std.proofs.lemmas.Result.{IfOk-weaker}
use Rattle.affine_systems.specs.declared.row.System.{System}
use Rattle.hull_projection.specs.Hull.{hull}
use Rattle.hull_projection.specs.Laws.{HasBoth}
use Rattle.hull_projection.proofs.HullLaws.{hull_holds}
use Rattle.hull_projection.proofs.hulls.hull.Goals as goal

pub returns-clause-sound : goal.returns-clause-sound
returns-clause-sound c =
    let a = c.args.one.now in
    let b = c.args.other.now in
    IfOk-weaker c.hull_of.result (λ (s : System). s ≡ hull a b) (HasBoth a b) (λ s e. subst (HasBoth a b) (sym e) (hull_holds a b)) c.hull_of.ensures.defined
