use Rattle.laws_programs.proofs.Runs.{all_are_of_programs}
use Rattle.laws_programs.proofs.laws.all_are_of_programs.Goals as goal

pub returns : goal.returns
returns c = all_are_of_programs c.all_effects_hold.ensures c.summaries_are_made.ensures
