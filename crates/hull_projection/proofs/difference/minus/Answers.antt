use Rattle.std.proofs.Common.{◌≡◌, sym, subst}
use Rattle.std.proofs.lemmas.Result.{IfOk-weaker}
use Rattle.hull_projection.specs.declared.parts.Minus.{Minus}
use Rattle.hull_projection.specs.Minus.{minus}
use Rattle.hull_projection.specs.Laws.{HasOutside, HasNothingElse}
use Rattle.hull_projection.proofs.MinusLaws.{minus_holds, minus_exact}
use Rattle.hull_projection.proofs.difference.minus.Goals as goal

pub returns-clause-sound : goal.returns-clause-sound
returns-clause-sound c =
    let a = c.args.one.now in
    let b = c.args.other.now in
    IfOk-weaker c.difference.result (λ (m : Minus). m ≡ minus a b) (HasOutside a b) (λ m e. subst (HasOutside a b) (sym e) (minus_holds a b)) c.difference.ensures.defined

pub returns-clause-exact : goal.returns-clause-exact
returns-clause-exact c =
    let a = c.args.one.now in
    let b = c.args.other.now in
    IfOk-weaker c.difference.result (λ (m : Minus). m ≡ minus a b) (HasNothingElse a b) (λ m e. subst (HasNothingElse a b) (sym e) (minus_exact a b)) c.difference.ensures.defined
