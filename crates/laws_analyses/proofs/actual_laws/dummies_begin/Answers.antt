use Rattle.laws_analyses.proofs.Calls.BeginLaws.{begin_dummies}
use Rattle.laws_analyses.proofs.actual_laws.dummies_begin.Goals as goal

pub returns : goal.returns
returns c = begin_dummies
