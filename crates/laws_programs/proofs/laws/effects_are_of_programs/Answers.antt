use Rattle.laws_programs.proofs.Runs.{effects_are_of_programs}
use Rattle.laws_programs.proofs.laws.effects_are_of_programs.Goals as goal

pub returns : goal.returns
returns c = effects_are_of_programs c.effects_are_of_runs.ensures c.summaries_are_made.ensures
