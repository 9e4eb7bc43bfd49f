use Rattle.std.proofs.Common.{◌<◌, ◌^◌, arith}
use Rattle.std.proofs.lemmas.Grind.{common_steps}
use Rattle.std.proofs.lemmas.List.Elements.{All-drop, All-take}
use Rattle.fixed_form.proofs.source.cut.Goals as goal

pub loop-rest-preserved : goal.loop-rest-preserved
loop-rest-preserved c = record {
  cut = grind (arith, common_steps);
  small = All-take (λ end. end < 2 ^ 28) _ _ (All-drop (λ end. end < 2 ^ 28) 1 c.loop-rest.rest.now c.loop-rest.invariant.small);
}
