use Rattle.std.proofs.Common.{subst}
use Rattle.result_store.specs.Rows.{memo_cells_of}
use Rattle.pipsmake_db.proofs.TextLaws.{Forgot, forgot_more, forgot_all, forgot_stays}
use Rattle.pipsmake_db.proofs.texts.forget_all.Goals as goal
use Rattle.call_equations.proofs.PositionSteps.{first-rest}
use Rattle.fx_lists.proofs.Lists.{none_left as no-more}

pub loop-rest-preserved : goal.loop-rest-preserved
loop-rest-preserved c =
    let parts = first-rest c.loop-rest.rest.now c.name-item.result _ c.in-len1-up.len_at_least c.name-item.is in
    forgot_more c.results_may_go.ensures (memo_cells_of c.args.store.now) c.args.sources.now c.args.names.now (memo_cells_of c.loop-rest.store) (memo_cells_of c.forget_gone.new.store) c.name-item.result _
    (subst (λ xs. Forgot (memo_cells_of c.args.store.now) c.args.sources.now c.args.names.now (memo_cells_of c.loop-rest.store) xs) parts c.loop-rest.invariant) c.forget_gone.ensures

pub returns-clause-stands : goal.returns-clause-stands
returns-clause-stands c =
    forgot_all (memo_cells_of c.args.store.now) c.args.sources.now c.args.names.now (memo_cells_of c.loop-rest.store)
    (subst (λ xs. Forgot (memo_cells_of c.args.store.now) c.args.sources.now c.args.names.now (memo_cells_of c.loop-rest.store) xs) (no-more c.loop-rest.rest.now c.in_default.len_below) c.loop-rest.invariant)

pub returns-clause-stays : goal.returns-clause-stays
returns-clause-stays c =
    forgot_stays (memo_cells_of c.args.store.now) c.args.sources.now c.args.names.now (memo_cells_of c.loop-rest.store)
    (subst (λ xs. Forgot (memo_cells_of c.args.store.now) c.args.sources.now c.args.names.now (memo_cells_of c.loop-rest.store) xs) (no-more c.loop-rest.rest.now c.in_default.len_below) c.loop-rest.invariant)
