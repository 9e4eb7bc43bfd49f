use Rattle.std.proofs.Common.{◌∙◌}
use Rattle.pipsmake_db.specs.State.{texts_of, memo_cells_in}
use Rattle.pipsmake_db.specs.result_store.Rows.{memo_cells_of}
use Rattle.pipsmake_base.proofs.LoadLaws.{keeps_whole}
use Rattle.pipsmake_base.proofs.loading.keep_all.Goals as goal

pub returns-clause-ok : goal.returns-clause-ok
returns-clause-ok c =
    let db = c.args.db.now in
    keeps_whole (texts_of db) c.sources.result.now (memo_cells_in db) (memo_cells_of c.keep_results.new.store) c.args.fresh.now c.as_slice.result.now c.in_ok-seen.seen c.keep_results.new.seen
    c.sources.ensures (c.as_slice.ensures ∙ c.into_list-keys.ensures ∙ c.in_ok-copy.ensures) c.in_ok-seen.ensures c.in_ok-keep_results.ensures
