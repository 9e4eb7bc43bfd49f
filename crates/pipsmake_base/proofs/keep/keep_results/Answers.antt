use Rattle.std.proofs.Common.{subst}
use Rattle.pipsmake_db.specs.result_store.Rows.{memo_cells_of}
use Rattle.pipsmake_base.proofs.Taking.{KeepsRest, keeps_none, keeps_more, keeps_all}
use Rattle.pipsmake_base.proofs.keep.keep_results.Goals as goal
use Rattle.pipsmake_db.proofs.CallEquations.PositionSteps.{first-rest}
use Rattle.fx_lists.proofs.Lists.{none_left as no-more}

pub loop-rest-init : goal.loop-rest-init
loop-rest-init c = record {
  in_some = c.requires.in_some;
  texts = c.requires.texts;
  keeps = keeps_none c.args.modules.now.sources.now (memo_cells_of c.args.store.now) c.args.seen.now c.args.keys.now;
}

pub loop-rest-preserved : goal.loop-rest-preserved
loop-rest-preserved c =
    let ts = c.args.modules.now.sources.now in
    let old = memo_cells_of c.args.store.now in
    let sh = memo_cells_of c.loop-rest.store in
    let parts = first-rest c.loop-rest.rest.now c.key-item.result _ c.in-len1-up.len_at_least c.key-item.is in
    record {
      in_some = c.in_ok-keep_result.ensures.in_some;
      texts = c.in_ok-keep_result.ensures.texts;
      keeps = keeps_more ts old c.args.seen.now c.args.keys.now sh (memo_cells_of c.keep_result.new.store) c.loop-rest.seen c.keep_result.new.seen c.key-item.result _
          (subst (KeepsRest ts old c.args.seen.now c.args.keys.now sh c.loop-rest.seen) parts c.loop-rest.invariant.keeps) c.in_ok-keep_result.ensures.ok;
    }

pub returns : goal.returns
returns c =
    let ts = c.args.modules.now.sources.now in
    let old = memo_cells_of c.args.store.now in
    let sh = memo_cells_of c.loop-rest.store in
    keeps_all ts old c.args.seen.now c.args.keys.now sh c.loop-rest.seen (subst (KeepsRest ts old c.args.seen.now c.args.keys.now sh c.loop-rest.seen) (no-more c.loop-rest.rest.now c.in_default.len_below) c.loop-rest.invariant.keeps)
