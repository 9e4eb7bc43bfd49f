use Rattle.std.proofs.Common.{map, subst}
use Rattle.result_store.specs.Rows.{memo_cells_of}
use Rattle.session_texts.specs.Modules.{source_text}
use Rattle.pipsmake_db.proofs.RestLaws.{rests_same}
use Rattle.pipsmake_db.proofs.TextLaws.{Sees, stands_same, still_stands, still_rests, sees_more}
use Rattle.pipsmake_db.proofs.texts.see_all.Goals as goal
use Rattle.call_equations.proofs.PositionSteps.{first-rest}

pub returns-in_err-seen-clause-stands : goal.returns-in_err-seen-clause-stands
returns-in_err-seen-clause-stands c = λ ts made s. stands_same (memo_cells_of c.loop-rest.store) (memo_cells_of c.see.new.store) c.in_err-seen.ensures.err ts made (c.loop-rest.invariant.stands ts made s)

pub returns-in_err-seen-clause-rests : goal.returns-in_err-seen-clause-rests
returns-in_err-seen-clause-rests c = λ ts d r. rests_same (memo_cells_of c.loop-rest.store) (memo_cells_of c.see.new.store) c.in_err-seen.ensures.err ts d (c.loop-rest.invariant.rests ts d r)

pub returns-in_err-push-clause-rests : goal.returns-in_err-push-clause-rests
returns-in_err-push-clause-rests c = still_rests (memo_cells_of c.args.store.now) (memo_cells_of c.loop-rest.store) (memo_cells_of c.see.new.store) (source_text c.source-item.result) c.in_ok-seen.seen c.loop-rest.invariant.rests c.in_ok-seen.ensures.ok

pub returns-in_err-push-clause-stands : goal.returns-in_err-push-clause-stands
returns-in_err-push-clause-stands c =
    still_stands c.values_may_be_seen.ensures (memo_cells_of c.args.store.now) (memo_cells_of c.loop-rest.store) (memo_cells_of c.see.new.store) (source_text c.source-item.result) c.in_ok-seen.seen c.loop-rest.invariant.stands c.in_ok-seen.ensures.ok

pub loop-rest-preserved : goal.loop-rest-preserved
loop-rest-preserved c =
    let parts = first-rest c.loop-rest.rest.now c.source-item.result _ c.in-len1-up.len_at_least c.source-item.is in
    sees_more c.values_may_be_seen.ensures (memo_cells_of c.args.store.now) (map source_text c.args.found.now) (memo_cells_of c.loop-rest.store) (memo_cells_of c.see.new.store) (source_text c.source-item.result) _ c.loop-rest.all c.push.new.self c.in_ok-seen.seen
    (subst (λ ss. Sees (memo_cells_of c.args.store.now) (map source_text c.args.found.now) (memo_cells_of c.loop-rest.store) (map source_text ss) c.loop-rest.all) parts c.loop-rest.invariant) c.in_ok-seen.ensures.ok c.in_ok-push.ensures.ok
