use Rattle.laws_interleavings.proofs.Plain.{program_same}
use Rattle.laws_interleavings.proofs.laws.marks_are_forgotten.Goals as goal

pub returns : goal.returns
returns c = λ p turns marks. program_same turns marks p
