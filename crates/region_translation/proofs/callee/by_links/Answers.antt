use Rattle.std.proofs.Common.{◌≡◌, subst, ◌∙◌}
use Rattle.call_equations.proofs.PositionSteps.{first-rest}
use Rattle.call_equations.specs.Sides.{sides_tree}
use Rattle.region_translation.specs.Callee.{by_link}
use Rattle.region_translation.specs.Links.{AllLinksFit}
use Rattle.region_translation.proofs.CalleeSteps.{links-step}
use Rattle.region_translation.proofs.callee.by_links.Goals as goal

pub loop-rest-preserved : goal.loop-rest-preserved
loop-rest-preserved c =
    let f = by_link (sides_tree c.args.sides.now) c.args.r.now in
    let parts = first-rest c.loop-rest.rest.now c.link-item.result _ c.in-len1-up.len_at_least c.link-item.is in
    record {
      same = links-step f _ _ _ _ _ parts c.in_ok-push_by_link.ensures.added ∙ c.loop-rest.invariant.same;
      fits = c.in_ok-push_by_link.ensures.fits;
      each = (subst AllLinksFit parts c.loop-rest.invariant.each).1;
    }
