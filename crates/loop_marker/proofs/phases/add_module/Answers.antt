use Rattle.std.proofs.Common.{◌≡◌, [], ◌∷◌, ◌++◌, map, sym, ap, subst, ◌∙◌}
use Rattle.std.specs.Prelude.{All}
use Rattle.std.proofs.lemmas.List.{map-append}
use Rattle.std.proofs.lemmas.List.Elements.{All-push}
use Rattle.f77_ast.specs.Summaries.{summary_in}
use Rattle.module_phases.specs.OutViews.{outs_tree}
use Rattle.loop_marker.specs.Results.{ModuleResults}
use Rattle.loop_marker.specs.Phases.{module_results, with_effects, with_marks}
use Rattle.loop_marker.specs.Views.{results_tree, SystemsFit, ResultsFit}
use Rattle.loop_marker.proofs.phases.add_module.Goals as goal

pub returns-clause-added : goal.returns-clause-added
returns-clause-added c =
    let u = c.args.graph.now.untracked in
    let f = outs_tree c.args.outs in
    let before = c.args.all.now.items in
    let one = c.results_of.result in
    let same : results_tree one ≡ with_marks u (summary_in c.args.callees.now) f =
    c.results_of.ensures ∙ (ap (module_results f c.in_ok-effects.effects) c.in_ok-marks.ensures ∙ ap (with_effects u f) c.in_ok-effects.ensures) in
    ap (map results_tree) c.in_ok-push.ensures.items
    ∙ (map-append results_tree before (one ∷ []) ∙ ap (λ (r : ModuleResults). map results_tree before ++ r ∷ []) same)

pub returns-clause-fits : goal.returns-clause-fits
returns-clause-fits c =
    let f = c.requires.outs in
    let given : SystemsFit (module_results (outs_tree c.args.outs) c.in_ok-effects.effects c.in_ok-marks.marks) =
    record { transformers = f.0.0.0.0.0; preconditions = f.0.0.0.1; regions = f.0.0.1.0; ins = f.0.1.0; outs = f.1.0 } in
    let fits : ResultsFit c.results_of.result = subst SystemsFit (sym c.results_of.ensures) given in
    subst (All ResultsFit) (sym c.in_ok-push.ensures.items) (All-push ResultsFit _ _ c.requires.all fits)
