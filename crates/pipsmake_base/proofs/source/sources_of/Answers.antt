use Rattle.std.proofs.Common.{sym, subst}
use Rattle.pipsmake_base.proofs.Sources.{SourcesRest, sources_none, sources_more, sources_all}
use Rattle.pipsmake_base.proofs.source.sources_of.Goals as goal
use Rattle.pipsmake_db.proofs.CallEquations.PositionSteps.{first-rest}
use Rattle.fx_lists.proofs.Lists.{none_left as no-more}

pub loop-rest-init : goal.loop-rest-init
loop-rest-init c = subst (λ ss. SourcesRest c.args.modules.now ss c.args.modules.now) (sym c.new-sources.ensures) (sources_none c.args.modules.now)

pub loop-rest-preserved : goal.loop-rest-preserved
loop-rest-preserved c =
    let parts = first-rest c.loop-rest.rest.now c.held-item.result _ c.in-len1-up.len_at_least c.held-item.is in
    sources_more c.args.modules.now c.loop-rest.sources c.push.new.self c.in_ok-source.source c.held-item.result _
    (subst (SourcesRest c.args.modules.now c.loop-rest.sources) parts c.loop-rest.invariant) c.in_ok-source.ensures c.in_ok-push.ensures.ok

pub returns : goal.returns
returns c = sources_all c.args.modules.now c.loop-rest.sources (subst (SourcesRest c.args.modules.now c.loop-rest.sources) (no-more c.loop-rest.rest.now c.in_default.len_below) c.loop-rest.invariant)
