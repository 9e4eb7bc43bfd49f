use Rattle.affine_systems.proofs.PlaceSteps.{raised_kept}
use Rattle.affine_systems.proofs.places.note.Goals as goal

pub returns-clause-kept : goal.returns-clause-kept
returns-clause-kept c b = raised_kept c.args.table.now c.raise.new.table c.args.at b c.raise.ensures.here c.raise.ensures.others
