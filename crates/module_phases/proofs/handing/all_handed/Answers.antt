use Rattle.std.proofs.Common.{◌≡◌, ◌∙◌}
use Rattle.preconditions.specs.call_translation.Scopes.{scope_tree}
use Rattle.in_out_regions.proofs.CallEquations.PositionSteps.{first-rest}
use Rattle.in_out_regions.specs.region_translation.Units.{size_in}
use Rattle.module_phases.proofs.HandingLaws.{handed-step, first-fits, others-fit}
use Rattle.module_phases.proofs.handing.all_handed.Goals as goal

pub loop-rest-preserved : goal.loop-rest-preserved
loop-rest-preserved c =
    let m = scope_tree c.args.callee.now.symbols.now c.args.callee.now.tracked.now in
    let parts = first-rest c.loop-rest.rest.now c.site-item.result _ c.in-len1-up.len_at_least c.site-item.is in
    record {
      same = handed-step (size_in c.args.graph.now.blocks) m c.args.name.now _ _ _ _ _ parts c.in_ok-push_site.ensures.added ∙ c.loop-rest.invariant.same;
      fits = c.in_ok-push_site.ensures.fits;
      each = others-fit _ _ _ parts c.loop-rest.invariant.each;
    }

pub push_site-requires-clause-site : goal.push_site-requires-clause-site
push_site-requires-clause-site c = first-fits _ _ _ (first-rest c.loop-rest.rest.now c.site-item.result _ c.in-len1-up.len_at_least c.site-item.is) c.loop-rest.invariant.each
