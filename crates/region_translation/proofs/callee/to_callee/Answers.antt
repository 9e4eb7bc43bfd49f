use Rattle.std.proofs.Common.{◌≡◌, List, sym, subst}
use Rattle.std.proofs.lemmas.Result.{IfOk-weaker}
use Rattle.region_sets.specs.declared.region.Region.{Region}
use Rattle.call_equations.specs.Sides.{sides_tree}
use Rattle.region_translation.specs.Units.{size_in}
use Rattle.region_translation.specs.Callee.{to_callee}
use Rattle.region_translation.specs.CalleeLaws.{SendsUnits}
use Rattle.region_translation.proofs.CalleeRegionLaws.{units_sent}
use Rattle.region_translation.proofs.callee.to_callee.Goals as goal

pub returns-clause-sound : goal.returns-clause-sound
returns-clause-sound c =
    let size = size_in c.args.graph.now.blocks in
    let s = sides_tree c.args.sides.now in
    let r = c.args.r.now in
    IfOk-weaker c.translated.result (λ (rs : List Region). rs ≡ to_callee size s r) (SendsUnits size s r) (λ rs e. subst (SendsUnits size s r) (sym e) (units_sent size s r)) c.translated.ensures.defined
