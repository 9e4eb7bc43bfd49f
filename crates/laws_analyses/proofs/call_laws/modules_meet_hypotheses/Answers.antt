use Rattle.laws_analyses.proofs.Saneness.{module_sane}
use Rattle.laws_analyses.proofs.call_laws.modules_meet_hypotheses.Goals as goal

pub returns : goal.returns
returns c ps sss g l laid i p ss m = module_sane ps sss g l i p ss m (laid i p ss m)
