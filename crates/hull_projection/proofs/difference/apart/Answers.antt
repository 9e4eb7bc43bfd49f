use Rattle.std.proofs.Common.{◌≡◌, List, sym, subst}
use Rattle.std.proofs.lemmas.Result.{IfOk-weaker}
use Rattle.affine_systems.specs.declared.row.System.{System}
use Rattle.hull_projection.specs.Minus.{apart}
use Rattle.hull_projection.specs.Laws.{HasParts}
use Rattle.hull_projection.proofs.MinusLaws.{apart_has}
use Rattle.hull_projection.proofs.difference.apart.Goals as goal

pub returns-clause-sound : goal.returns-clause-sound
returns-clause-sound c =
    let a = c.args.a.now in
    let b = c.args.b.now in
    IfOk-weaker c.parts_outside.result (λ (ss : List System). ss ≡ apart a b) (HasParts a b) (λ ss e. subst (HasParts a b) (sym e) (apart_has a b)) c.parts_outside.ensures.defined
