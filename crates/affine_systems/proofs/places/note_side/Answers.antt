use Rattle.std.proofs.Common.{◌≤◌, arith, subst}
use Rattle.std.specs.Prelude.{slice_index}
use Rattle.affine_systems.proofs.places.note_side.Goals as goal

pub returns-clause-here : goal.returns-clause-here
returns-clause-here c = subst (λ n. 1 ≤ slice_index c.note.new.table n) c.side.ensures.defined (omega (arith, c.note.ensures.here))
