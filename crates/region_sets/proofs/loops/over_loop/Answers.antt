use Rattle.std.proofs.Common.{◌≡◌, sym, subst}
use Rattle.std.proofs.lemmas.Result.{IfOk-weaker}
use Rattle.region_sets.specs.declared.region.Region.{Region}
use Rattle.region_sets.specs.Loops.{over_loop}
use Rattle.region_sets.specs.Laws.{HasIterations, HasIterationsAlone}
use Rattle.region_sets.proofs.PieceLaws.{loop_has, loop_sharp}
use Rattle.region_sets.proofs.loops.over_loop.Goals as goal

pub returns-clause-sound : goal.returns-clause-sound
returns-clause-sound c =
    let r = c.args.r.now in
    let g = c.args.g.now in
    IfOk-weaker c.of_all.result (λ (q : Region). q ≡ over_loop r g) (HasIterations g r) (λ q e. subst (HasIterations g r) (sym e) (loop_has r g)) c.of_all.ensures.defined

pub returns-clause-exact : goal.returns-clause-exact
returns-clause-exact c =
    let r = c.args.r.now in
    let g = c.args.g.now in
    IfOk-weaker c.of_all.result (λ (q : Region). q ≡ over_loop r g) (HasIterationsAlone g r) (λ q e. subst (HasIterationsAlone g r) (sym e) (loop_sharp r g)) c.of_all.ensures.defined
