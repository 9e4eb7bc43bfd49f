use Rattle.laws_analyses.proofs.CalleeLaws.{same_transformers}
use Rattle.laws_database.proofs.result_needs.transformers_need_callees.Goals as goal

pub returns : goal.returns
returns c = λ body m cs ds h. same_transformers m cs ds body h
