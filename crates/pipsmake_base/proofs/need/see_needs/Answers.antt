use Rattle.std.proofs.Common.{map, sym, subst}
use Rattle.pipsmake_db.specs.result_store.Rows.{memo_cells_of}
use Rattle.pipsmake_db.specs.result_store.Values.{stamped_tree}
use Rattle.pipsmake_base.proofs.Taking.{NeedsRest, needs_none, needs_more, needs_all, stamp_pushed}
use Rattle.pipsmake_base.proofs.need.see_needs.Goals as goal
use Rattle.pipsmake_db.proofs.CallEquations.PositionSteps.{first-rest}
use Rattle.fx_lists.proofs.Lists.{none_left as no-more}

pub loop-rest-init : goal.loop-rest-init
loop-rest-init c =
    let ts = c.args.modules.now.sources.now in
    let sh = memo_cells_of c.args.store.now in
    record {
      in_some = c.requires.in_some;
      texts = c.requires.texts;
      needs = subst (λ ss. NeedsRest ts sh c.args.seen.now c.args.needs.now sh c.args.seen.now (map stamped_tree ss) c.args.needs.now) (sym c.new-stamps.ensures) (needs_none ts sh c.args.seen.now c.args.needs.now);
    }

pub loop-rest-preserved : goal.loop-rest-preserved
loop-rest-preserved c =
    let ts = c.args.modules.now.sources.now in
    let old = memo_cells_of c.args.store.now in
    let sh = memo_cells_of c.loop-rest.store in
    let stamps = map stamped_tree c.loop-rest.stamps in
    let parts = first-rest c.loop-rest.rest.now c.need-item.result _ c.in-len1-up.len_at_least c.need-item.is in
    record {
      in_some = c.in_ok-see_need.ensures.in_some;
      texts = c.in_ok-see_need.ensures.texts;
      needs = needs_more ts old c.args.seen.now c.args.needs.now sh (memo_cells_of c.see_need.new.store) c.loop-rest.seen c.see_need.new.seen stamps (map stamped_tree c.push.new.self) c.need-item.result _
          (subst (NeedsRest ts old c.args.seen.now c.args.needs.now sh c.loop-rest.seen stamps) parts c.loop-rest.invariant.needs) c.in_ok-see_need.ensures.ok
          (stamp_pushed c.loop-rest.stamps c.push.new.self c.need-item.result c.in_ok-name.name c.in_ok-name.ensures.cases c.in_ok-push.ensures.ok);
    }

pub returns-clause-ok : goal.returns-clause-ok
returns-clause-ok c =
    let ts = c.args.modules.now.sources.now in
    let old = memo_cells_of c.args.store.now in
    let sh = memo_cells_of c.loop-rest.store in
    let stamps = map stamped_tree c.loop-rest.stamps in
    needs_all ts old c.args.seen.now c.args.needs.now sh c.loop-rest.seen stamps (subst (NeedsRest ts old c.args.seen.now c.args.needs.now sh c.loop-rest.seen stamps) (no-more c.loop-rest.rest.now c.in_default.len_below) c.loop-rest.invariant.needs)
