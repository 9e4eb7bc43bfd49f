use Rattle.affine_forms.proofs.ConditionLaws.{conditions_hold}
use Rattle.affine_forms.proofs.laws.conditions_hold.Goals as goal

pub returns : goal.returns
returns c = conditions_hold
