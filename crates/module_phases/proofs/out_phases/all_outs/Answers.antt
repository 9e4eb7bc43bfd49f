use Rattle.std.proofs.Common.{◌≡◌, map, reverse, Some, sym, ap, ◌∙◌}
use Rattle.std.proofs.lemmas.List.Elements.{All-pop}
use Rattle.module_phases.proofs.ScalarPhaseLaws.{popped}
use Rattle.module_phases.specs.InViews.{ins_tree, ModuleFits as InsFit}
use Rattle.module_phases.specs.OutPhases.{outs_from}
use Rattle.module_phases.specs.OutViews.{outs_tree}
use Rattle.module_phases.proofs.OutPhaseLaws.{outs-more, sites-more}
use Rattle.module_phases.proofs.out_phases.all_outs.Goals as goal
use Rattle.preconditions.specs.call_translation.NamedSites.{sites_for}

pub loop-known-preserved : goal.loop-known-preserved
loop-known-preserved c =
    let g = c.args.graph.now in
    let f = ins_tree c.in-Some.known in
    record {
      same = outs-more g _ _ f (sites_for c.loop-known.sites) c.loop-known.invariant.sites c.in_ok-add_module.ensures.added (reverse (map ins_tree c.pop.new.self.items))
          ∙ sym (ap (outs_from g (map outs_tree c.loop-known.all.items)) (popped ins_tree _ _ c.in-Some.known c.in-Some.ensures.items))
          ∙ c.loop-known.invariant.same;
      sites = sites-more g _ _ f (sites_for c.loop-known.sites) c.loop-known.invariant.sites c.in_ok-add_module.ensures.added (sites_for c.add_module.new.sites) c.in_ok-add_module.ensures.sites;
      fits = c.in_ok-add_module.ensures.sites_fit;
      known = (All-pop InsFit _ _ (Some c.in-Some.known) c.in-Some.ensures.items c.loop-known.invariant.known).0;
      gives = c.in_ok-add_module.ensures.fits;
    }

pub add_module-requires-clause-known : goal.add_module-requires-clause-known
add_module-requires-clause-known c = (All-pop InsFit c.loop-known.left.items c.pop.new.self.items (Some c.in-Some.known) c.in-Some.ensures.items c.loop-known.invariant.known).1
