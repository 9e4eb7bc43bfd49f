use Rattle.std.proofs.Common.{◌≡◌, List, map, Some, ap, ◌∙◌}
use Rattle.std.specs.Prelude.{option_map}
use Rattle.call_graph.specs.declared.graph.Graph.{Graph}
use Rattle.f77_ast.specs.declared.results.Results.{Results}
use Rattle.preconditions.specs.transformer_algebra.declared.transformer.Transformer.{Transformer}
use Rattle.loop_marker.specs.region_sets.declared.region.Region.{Region}
use Rattle.session_texts.specs.pipsmake_rules.Neighbours.{callees_of}
use Rattle.loop_marker.specs.module_phases.declared.callees.Callee.{Callee}
use Rattle.loop_marker.specs.module_phases.Callees.{callee_tree}
use Rattle.loop_marker.specs.module_phases.Rules.{regions_from}
use Rattle.session_texts.specs.pipsmake_meaning.Texts.{graph_of}
use Rattle.session_texts.specs.pipsmake_meaning.Rules.{known, transformers_kept, regions_kept, callees_with}
use Rattle.session_texts.specs.pipsmake_meaning.Values.{Value, regions}
use Rattle.result_store.specs.Rows.{memo_cells_of}
use Rattle.result_making.specs.Parts.{own_tree}
use Rattle.result_making.proofs.callees_first.regions_value.Goals as goal

pub returns-clause-value : goal.returns-clause-value
returns-clause-value c =
    let m = c.args.modules.now in
    let sh = memo_cells_of c.args.store.now in
    let k = known (own_tree c.args.own.now) in
    let x = c.args.name.now in
    let own = c.in-Some.transformers.now in
    let kept : Some own ≡ transformers_kept sh x = c.in-Some.ensures.value in
    let made : c.in_ok-made.made ≡ regions_from m.graph.now.untracked k own (map callee_tree c.as_slice-2.result.now) = c.in_ok-made.ensures.defined in
    let below : map callee_tree c.as_slice-2.result.now ≡ callees_with (regions_kept sh) m.sources.now (callees_of m.graph.now x) =
    ap (λ (cs : List (Callee (List Region))). map callee_tree cs) c.as_slice-2.ensures.value ∙ (c.in_ok-below.ensures.defined ∙ ap (callees_with (regions_kept sh) m.sources.now) (c.as_slice.ensures ∙ c.in_ok-names.ensures)) in
    let f : Results Transformer → Value = λ t. regions (regions_from (graph_of m.sources.now).untracked k t (callees_with (regions_kept sh) m.sources.now (callees_of (graph_of m.sources.now) x))) in
    ap (λ (r : Results (List Region)). Some (regions r))
    (made ∙ (ap (regions_from m.graph.now.untracked k own) below ∙ ap (λ (g : Graph). regions_from g.untracked k own (callees_with (regions_kept sh) m.sources.now (callees_of g x))) c.requires))
    ∙ ap (option_map f) kept
