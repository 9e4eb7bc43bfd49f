use Rattle.std.proofs.Common.{◌≡◌, Option, sym, subst}
use Rattle.std.proofs.lemmas.Result.{IfOk-weaker}
use Rattle.region_sets.specs.declared.region.Region.{Region}
use Rattle.call_equations.specs.Sides.{sides_tree}
use Rattle.region_translation.specs.Caller.{to_caller}
use Rattle.region_translation.specs.Laws.{SendsUnits, SendsSharp}
use Rattle.region_translation.proofs.RegionLaws.{units_sent, sharp_sent}
use Rattle.region_translation.proofs.caller.to_caller.Goals as goal

pub returns-clause-sound : goal.returns-clause-sound
returns-clause-sound c =
    let s = sides_tree c.args.sides.now in
    let r = c.args.r.now in
    IfOk-weaker c.translated.result (λ (o : Option Region). o ≡ to_caller s r) (SendsUnits s r) (λ o e. subst (SendsUnits s r) (sym e) (units_sent s r)) c.translated.ensures.defined

pub returns-clause-exact : goal.returns-clause-exact
returns-clause-exact c =
    let s = sides_tree c.args.sides.now in
    let r = c.args.r.now in
    IfOk-weaker c.translated.result (λ (o : Option Region). o ≡ to_caller s r) (SendsSharp s r) (λ o e. subst (SendsSharp s r) (sym e) (sharp_sent s r)) c.translated.ensures.defined
