use Rattle.std.proofs.Common.{◌≡◌, ◌++◌, map, reverse, Some, sym, ap, ◌∙◌}
use Rattle.std.proofs.lemmas.List.Elements.{All-pop}
use Rattle.f77_ast.specs.Summaries.{summary_in}
use Rattle.module_phases.proofs.ScalarPhaseLaws.{popped}
use Rattle.module_phases.specs.RegionViews.{regions_tree}
use Rattle.module_phases.specs.RegionViews as regions
use Rattle.module_phases.specs.InPhases.{found_in}
use Rattle.module_phases.specs.InViews.{ins_tree}
use Rattle.module_phases.proofs.InPhaseLaws.{found-more}
use Rattle.module_phases.proofs.in_phases.all_ins.Goals as goal

pub loop-known-preserved : goal.loop-known-preserved
loop-known-preserved c =
    let u = c.args.graph.now.untracked in
    let out = map ins_tree c.loop-known.all.items in
    let old = summary_in c.loop-known.callees in
    record {
      same = found-more u old (summary_in c.add_module.new.callees) out (map ins_tree c.add_module.new.all.items) (regions_tree c.in-Some.known) (reverse (map regions_tree c.pop.new.self.items)) c.in_ok-add_module.ensures.added c.in_ok-add_module.ensures.callees
          ∙ sym (ap (λ fs. out ++ found_in u old fs) (popped regions_tree _ _ c.in-Some.known c.in-Some.ensures.items))
          ∙ c.loop-known.invariant.same;
      callees = c.in_ok-add_module.ensures.callees_fit;
      left = (All-pop regions.ModuleFits _ _ (Some c.in-Some.known) c.in-Some.ensures.items c.loop-known.invariant.left).0;
      fit = c.in_ok-add_module.ensures.fits;
    }

pub add_module-requires-clause-known : goal.add_module-requires-clause-known
add_module-requires-clause-known c = (All-pop regions.ModuleFits c.loop-known.left.items c.pop.new.self.items (Some c.in-Some.known) c.in-Some.ensures.items c.loop-known.invariant.left).1
