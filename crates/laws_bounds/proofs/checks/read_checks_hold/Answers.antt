use Rattle.laws_marks.proofs.InGrouped.{locals_are_saved_together}
use Rattle.laws_bounds.proofs.Accepted.{read_checks_hold}
use Rattle.laws_bounds.proofs.checks.read_checks_hold.Goals as goal

pub returns : goal.returns
returns c =
    read_checks_hold c.names_agree.ensures c.accepted_data_stays_in_locals.ensures c.jumps_stay_inside.ensures
    (record { same = c.links_hold.ensures.same; scalar = c.links_hold.ensures.scalar; element = c.links_hold.ensures.element; array = c.links_hold.ensures.array; rest = c.links_hold.ensures.rest; block = c.links_hold.ensures.block })
    locals_are_saved_together c.read_analyses_hold.ensures
