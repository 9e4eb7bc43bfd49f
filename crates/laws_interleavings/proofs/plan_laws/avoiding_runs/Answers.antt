use Rattle.laws_interleavings.proofs.Plans.TouchedRuns.{runs_alike}
use Rattle.laws_interleavings.proofs.plan_laws.avoiding_runs.Goals as goal

pub returns : goal.returns
returns c = λ v t h s z d i. runs_alike v t h s z d i
