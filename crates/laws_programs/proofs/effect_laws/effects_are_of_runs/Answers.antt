use Rattle.laws_programs.proofs.Effects.Law.{effects_are_of_runs}
use Rattle.laws_programs.proofs.effect_laws.effects_are_of_runs.Goals as goal

pub returns : goal.returns
returns c = effects_are_of_runs
