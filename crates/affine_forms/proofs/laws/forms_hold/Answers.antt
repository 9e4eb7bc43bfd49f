use Rattle.affine_forms.proofs.ConditionLaws.{forms_hold}
use Rattle.affine_forms.proofs.laws.forms_hold.Goals as goal

pub returns : goal.returns
returns c = forms_hold
