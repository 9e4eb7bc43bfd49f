use Rattle.pipsmake_base.specs.pipsmake_db.State.{first_state}
use Rattle.pips_top.proofs.session.answer_first.Goals as goal

pub returns-in-Ok : goal.returns-in-Ok
returns-in-Ok c =
    let first = c.in-Ok.ensures.from first_state c.new-db.ensures in
    record { end = first.next; answers = first.answers }
