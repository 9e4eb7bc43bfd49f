use Rattle.std.proofs.Common.{map, subst}
use Rattle.session_texts.specs.pipsmake_meaning.Values.{text}
use Rattle.result_store.specs.Rows.{memo_cells_of}
use Rattle.result_store.specs.Seen.{KeepsSeen}
use Rattle.result_store.specs.Values.{stamped_tree}
use Rattle.pipsmake_db.proofs.TextLaws.{KeepsRest, keeps_more, keeps_all}
use Rattle.pipsmake_db.proofs.texts.keep_all.Goals as goal
use Rattle.call_equations.proofs.PositionSteps.{first-rest}
use Rattle.fx_lists.proofs.Lists.{none_left as no-more}

pub loop-rest-preserved : goal.loop-rest-preserved
loop-rest-preserved c =
    let parts = first-rest c.loop-rest.rest.now c.seen-item.result _ c.in-len1-up.len_at_least c.seen-item.is in
    keeps_more (memo_cells_of c.args.store.now) c.args.all.now (memo_cells_of c.loop-rest.store) (memo_cells_of c.keep_seen.new.self) c.seen-item.result _
    (subst (λ ss. KeepsRest (memo_cells_of c.args.store.now) c.args.all.now (memo_cells_of c.loop-rest.store) ss) parts c.loop-rest.invariant)
    (subst (λ ns. KeepsSeen (memo_cells_of c.loop-rest.store) (memo_cells_of c.keep_seen.new.self) text c.seen-item.result.name c.seen-item.result.stamp (map stamped_tree ns)) c.new.ensures c.keep_seen.ensures)

pub returns : goal.returns
returns c =
    keeps_all (memo_cells_of c.args.store.now) c.args.all.now (memo_cells_of c.loop-rest.store)
    (subst (λ ss. KeepsRest (memo_cells_of c.args.store.now) c.args.all.now (memo_cells_of c.loop-rest.store) ss) (no-more c.loop-rest.rest.now c.in_default.len_below) c.loop-rest.invariant)
