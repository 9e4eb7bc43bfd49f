use Rattle.laws_marks.proofs.ConflictParts.{iterations_are_parts}
use Rattle.laws_marks.proofs.conflicts.iterations_are_parts.Goals as goal

pub returns : goal.returns
returns c = iterations_are_parts
