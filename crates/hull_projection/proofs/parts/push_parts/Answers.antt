use Rattle.hull_projection.proofs.RefuteSteps.{above_given, below_given}
use Rattle.hull_projection.proofs.parts.push_parts.Goals as goal

pub push_part-requires-clause-row : goal.push_part-requires-clause-row
push_part-requires-clause-row c = above_given c.args.row.now c.in_ok-over.over c.requires.row c.in_ok-over.ensures

pub push_part-requires-2-clause-row : goal.push_part-requires-2-clause-row
push_part-requires-2-clause-row c = below_given c.args.row.now c.in_ok-under.under c.requires.row c.in_ok-under.ensures
