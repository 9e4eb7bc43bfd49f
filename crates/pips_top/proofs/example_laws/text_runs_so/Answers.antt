use Rattle.pips_top.proofs.Runs.{runs_so}
use Rattle.pips_top.proofs.example_laws.text_runs_so.Goals as goal

pub returns : goal.returns
returns c = runs_so
