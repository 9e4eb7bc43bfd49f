use Rattle.std.proofs.Common.{◌≡◌, sym, subst}
use Rattle.std.proofs.lemmas.Result.{IfOk-weaker}
use Rattle.region_sets.specs.declared.region.Region.{Region}
use Rattle.region_sets.specs.Compose.{compose}
use Rattle.region_sets.specs.Laws.{MovesUnits, MovesSharp}
use Rattle.region_sets.proofs.PieceLaws.{compose_moves, compose_sharp}
use Rattle.region_sets.proofs.composing.compose.Goals as goal

pub returns-clause-sound : goal.returns-clause-sound
returns-clause-sound c =
    let r = c.args.r.now in
    let t = c.args.t.now in
    IfOk-weaker c.of_all.result (λ (q : Region). q ≡ compose r t) (MovesUnits t r) (λ q e. subst (MovesUnits t r) (sym e) (compose_moves r t)) c.of_all.ensures.defined

pub returns-clause-exact : goal.returns-clause-exact
returns-clause-exact c =
    let r = c.args.r.now in
    let t = c.args.t.now in
    IfOk-weaker c.of_all.result (λ (q : Region). q ≡ compose r t) (MovesSharp t r) (λ q e. subst (MovesSharp t r) (sym e) (compose_sharp r t)) c.of_all.ensures.defined
