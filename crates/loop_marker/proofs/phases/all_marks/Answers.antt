use Rattle.std.proofs.Common.{◌++◌, map, reverse, Some, sym, ap, ◌∙◌}
use Rattle.std.proofs.lemmas.List.Elements.{All-pop}
use Rattle.f77_ast.specs.Summaries.{summary_in}
use Rattle.module_phases.proofs.ScalarPhaseLaws.{popped}
use Rattle.module_phases.specs.OutViews.{outs_tree, ModuleFits}
use Rattle.loop_marker.specs.Phases.{found_in}
use Rattle.loop_marker.specs.Views.{results_tree}
use Rattle.loop_marker.proofs.PhaseLaws.{found-more}
use Rattle.loop_marker.proofs.phases.all_marks.Goals as goal

pub loop-outs-preserved : goal.loop-outs-preserved
loop-outs-preserved c =
    let u = c.args.graph.now.untracked in
    let out = map results_tree c.loop-outs.all.items in
    let old = summary_in c.loop-outs.callees in
    record {
      same = found-more u old (summary_in c.add_module.new.callees) out (map results_tree c.add_module.new.all.items) (outs_tree c.in-Some.outs) (reverse (map outs_tree c.pop.new.self.items)) c.in_ok-add_module.ensures.added c.in_ok-add_module.ensures.callees
          ∙ sym (ap (λ fs. out ++ found_in u old fs) (popped outs_tree _ _ c.in-Some.outs c.in-Some.ensures.items))
          ∙ c.loop-outs.invariant.same;
      left = (All-pop ModuleFits _ _ (Some c.in-Some.outs) c.in-Some.ensures.items c.loop-outs.invariant.left).0;
      fit = c.in_ok-add_module.ensures.fits;
    }

pub add_module-requires-clause-outs : goal.add_module-requires-clause-outs
add_module-requires-clause-outs c = (All-pop ModuleFits c.loop-outs.left.items c.pop.new.self.items (Some c.in-Some.outs) c.in-Some.ensures.items c.loop-outs.invariant.left).1
