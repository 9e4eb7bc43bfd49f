use Rattle.std.proofs.Common.{◌∙◌, false}
use Rattle.affine_systems.proofs.TurnSteps.{all_turns}
use Rattle.work_area.specs.Tables.{items_of}
use Rattle.work_area.proofs.tidying.tidy_tables.Goals as goal

pub returns-clause-defined : goal.returns-clause-defined
returns-clause-defined c = c.rounds.ensures.defined ∙ all_turns false (items_of c.args.tables.now)
