use Rattle.std.proofs.Common.{◌≡◌, ◌++◌, map, reverse, Some, sym, ap, ◌∙◌}
use Rattle.std.proofs.lemmas.List.Elements.{All-pop}
use Rattle.f77_ast.specs.Summaries.{summary_in}
use Rattle.module_phases.specs.ScalarViews.{analysis_tree, AnalysisFits}
use Rattle.module_phases.proofs.ScalarPhaseLaws.{popped}
use Rattle.module_phases.specs.RegionPhases.{found_in}
use Rattle.module_phases.specs.RegionViews.{regions_tree}
use Rattle.module_phases.proofs.RegionPhaseLaws.{found-more}
use Rattle.module_phases.proofs.region_phases.all_regions.Goals as goal

pub loop-analysis-preserved : goal.loop-analysis-preserved
loop-analysis-preserved c =
    let u = c.args.graph.now.untracked in
    let out = map regions_tree c.loop-analysis.all.items in
    let old = summary_in c.loop-analysis.callees in
    record {
      same = found-more u old (summary_in c.add_module.new.callees) out (map regions_tree c.add_module.new.all.items) (analysis_tree c.in-Some.analysis) (reverse (map analysis_tree c.pop.new.self.items)) c.in_ok-add_module.ensures.added c.in_ok-add_module.ensures.callees
          ∙ sym (ap (λ as'. out ++ found_in u old as') (popped analysis_tree _ _ c.in-Some.analysis c.in-Some.ensures.items))
          ∙ c.loop-analysis.invariant.same;
      callees = c.in_ok-add_module.ensures.callees_fit;
      left = (All-pop AnalysisFits _ _ (Some c.in-Some.analysis) c.in-Some.ensures.items c.loop-analysis.invariant.left).0;
      fit = c.in_ok-add_module.ensures.fits;
    }

pub add_module-requires-clause-analysis : goal.add_module-requires-clause-analysis
add_module-requires-clause-analysis c = (All-pop AnalysisFits c.loop-analysis.left.items c.pop.new.self.items (Some c.in-Some.analysis) c.in-Some.ensures.items c.loop-analysis.invariant.left).1
