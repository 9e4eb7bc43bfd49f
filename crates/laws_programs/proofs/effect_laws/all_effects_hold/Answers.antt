use Rattle.laws_programs.proofs.Effects.Law.{all_effects_hold}
use Rattle.laws_programs.proofs.effect_laws.all_effects_hold.Goals as goal

pub returns : goal.returns
returns c = all_effects_hold
