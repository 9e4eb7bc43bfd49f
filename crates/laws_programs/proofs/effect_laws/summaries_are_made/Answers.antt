use Rattle.laws_programs.proofs.Effects.BottomUp.{summaries_are_made}
use Rattle.laws_programs.proofs.effect_laws.summaries_are_made.Goals as goal

pub returns : goal.returns
returns c = summaries_are_made
