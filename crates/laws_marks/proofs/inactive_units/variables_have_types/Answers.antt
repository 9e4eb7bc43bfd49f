use Rattle.laws_marks.proofs.Typed.{variables_have_types}
use Rattle.laws_marks.proofs.inactive_units.variables_have_types.Goals as goal

pub returns : goal.returns
returns c = variables_have_types
