use Rattle.laws_database.proofs.ResultEffectLaws.{same_effects}
use Rattle.laws_database.proofs.result_needs.effects_need_callees.Goals as goal

pub returns : goal.returns
returns c = λ body ss cs ds h. same_effects ss cs ds body h
