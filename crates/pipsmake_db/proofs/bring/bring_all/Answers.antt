use Rattle.std.proofs.Common.{subst}
use Rattle.result_store.specs.Rows.{memo_cells_of}
use Rattle.pipsmake_db.proofs.BringLaws.{BringsRest, brings_one}
use Rattle.pipsmake_db.proofs.bring.bring_all.Goals as goal
use Rattle.call_equations.proofs.PositionSteps.{first-rest}

pub loop-rest-preserved : goal.loop-rest-preserved
loop-rest-preserved c =
    let parts = first-rest c.loop-rest.rest.now c.key-item.result _ c.in-len1-up.len_at_least c.key-item.is in
    let ts = c.args.modules.now.sources.now in
    brings_one (memo_cells_of c.args.store.now) (memo_cells_of c.loop-rest.store) (memo_cells_of c.bring.new.store) ts c.args.walk.now c.loop-rest.made c.bring.new.made c.key-item.result _
    (subst (λ ks. BringsRest (memo_cells_of c.args.store.now) ts c.args.walk.now c.loop-rest.made (memo_cells_of c.loop-rest.store) ks) parts c.loop-rest.invariant) c.in_ok-bring.ensures.ok
