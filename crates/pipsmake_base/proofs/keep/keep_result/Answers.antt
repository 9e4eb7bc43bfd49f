use Rattle.std.proofs.Common.{map}
use Rattle.pipsmake_db.specs.result_store.Rows.{memo_cells_of}
use Rattle.pipsmake_db.specs.result_store.Values.{stamped_tree}
use Rattle.pipsmake_base.proofs.Taking.{keeps_one}
use Rattle.pipsmake_base.proofs.keep.keep_result.Goals as goal

pub returns-clause-ok : goal.returns-clause-ok
returns-clause-ok c =
    keeps_one c.args.modules.now.sources.now (memo_cells_of c.args.store.now) (memo_cells_of c.stamps_of.new.store) (memo_cells_of c.keep_seen.new.self) c.args.seen.now c.stamps_of.new.seen c.args.key.now
    (map stamped_tree c.in_ok-stamps.stamps) c.in_ok-stamps.ensures.ok c.keep_seen.ensures
