use Rattle.pipsmake_db.specs.State.{memo_cells_in}
use Rattle.pipsmake_base.proofs.StaleLaws.{other_none, other_some}
use Rattle.pipsmake_base.proofs.staleness.is_other.Goals as goal

pub returns-in-None : goal.returns-in-None
returns-in-None c = other_none (memo_cells_in c.args.db.now) c.args.stored.now c.args.kind c.requires c.in-None.ensures.value

pub returns : goal.returns
returns c =
    other_some (memo_cells_in c.args.db.now) c.args.stored.now c.args.kind _ _ c.same_value.result c.requires c.in-Some.ensures.value c.in_ok-value.ensures c.same_value.ensures
