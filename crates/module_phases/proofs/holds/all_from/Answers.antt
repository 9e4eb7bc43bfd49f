use Rattle.std.proofs.Common.{◌≡◌, map, reverse, Some, sym, ap, ◌∙◌}
use Rattle.std.proofs.lemmas.List.Elements.{All-pop}
use Rattle.module_phases.specs.ScalarPhases.{analyses_from}
use Rattle.module_phases.specs.ScalarViews.{found_tree, analysis_tree, FoundFits}
use Rattle.module_phases.proofs.ScalarPhaseLaws.{analyses-more, sites-more, popped}
use Rattle.module_phases.proofs.holds.all_from.Goals as goal
use Rattle.preconditions.specs.call_translation.NamedSites.{sites_for}

pub loop-found-preserved : goal.loop-found-preserved
loop-found-preserved c =
    let u = c.args.graph.now.untracked in
    let f = found_tree c.in-Some.found in
    record {
      same = analyses-more u _ _ f (sites_for c.loop-found.sites) c.loop-found.invariant.sites c.in_ok-add_analysis.ensures.added (reverse (map found_tree c.pop.new.self.items))
          ∙ sym (ap (analyses_from u (map analysis_tree c.loop-found.all.items)) (popped found_tree _ _ c.in-Some.found c.in-Some.ensures.items))
          ∙ c.loop-found.invariant.same;
      sites = sites-more u _ _ f (sites_for c.loop-found.sites) c.loop-found.invariant.sites c.in_ok-add_analysis.ensures.added (sites_for c.add_analysis.new.sites) c.in_ok-add_analysis.ensures.sites;
      fits = c.in_ok-add_analysis.ensures.sites_fit;
      found = (All-pop FoundFits _ _ (Some c.in-Some.found) c.in-Some.ensures.items c.loop-found.invariant.found).0;
      gives = c.in_ok-add_analysis.ensures.fits;
    }

pub add_analysis-requires-clause-found : goal.add_analysis-requires-clause-found
add_analysis-requires-clause-found c = (All-pop FoundFits c.loop-found.left.items c.pop.new.self.items (Some c.in-Some.found) c.in-Some.ensures.items c.loop-found.invariant.found).1
