use Rattle.std.proofs.Common.{◌≡◌, List, map, Some, ap, ◌∙◌}
use Rattle.std.specs.Prelude.{option_map, option_and_then}
use Rattle.call_graph.specs.declared.graph.Graph.{Graph}
use Rattle.f77_ast.specs.declared.results.Results.{Results}
use Rattle.preconditions.specs.transformer_algebra.declared.transformer.Transformer.{Transformer}
use Rattle.loop_marker.specs.region_sets.declared.region.Region.{Region}
use Rattle.session_texts.specs.pipsmake_rules.Neighbours.{callers_of}
use Rattle.loop_marker.specs.module_phases.declared.callers.CallerOuts.{CallerOuts}
use Rattle.loop_marker.specs.module_phases.Callers.{outs_tree}
use Rattle.loop_marker.specs.module_phases.Rules.{outs_from}
use Rattle.session_texts.specs.pipsmake_meaning.Texts.{graph_of}
use Rattle.session_texts.specs.pipsmake_meaning.Rules.{known, transformers_kept, regions_kept, ins_kept, later_callers}
use Rattle.session_texts.specs.pipsmake_meaning.Values.{Value, outs}
use Rattle.result_store.specs.Rows.{memo_cells_of}
use Rattle.result_making.specs.Parts.{own_tree}
use Rattle.result_making.proofs.callers_first.outs_value.Goals as goal

pub returns-clause-value : goal.returns-clause-value
returns-clause-value c =
    let m = c.args.modules.now in
    let sh = memo_cells_of c.args.store.now in
    let k = known (own_tree c.args.own.now) in
    let x = c.args.name.now in
    let own = c.in-Some.transformers.now in
    let found = c.in-Some-regions.regions.now in
    let taken = c.in-Some-in_regions.ins.now in
    let kept : Some own ≡ transformers_kept sh x = c.in-Some.ensures.value in
    let there : Some found ≡ regions_kept sh x = c.in-Some-regions.ensures.value in
    let read : Some taken ≡ ins_kept sh x = c.in-Some-in_regions.ensures.value in
    let made : c.in_ok-made.made ≡ outs_from m.graph.now k own found taken (map outs_tree c.as_slice-2.result.now) = c.in_ok-made.ensures.defined in
    let above : map outs_tree c.as_slice-2.result.now ≡ later_callers sh m.sources.now (callers_of m.graph.now x) =
    ap (λ (cs : List CallerOuts). map outs_tree cs) c.as_slice-2.ensures.value ∙ (c.in_ok-above.ensures.defined ∙ ap (later_callers sh m.sources.now) (c.as_slice.ensures ∙ c.in_ok-names.ensures)) in
    let f : Results Transformer → Results (List Region) → Results (List Region) → Value = λ t r i. outs (outs_from (graph_of m.sources.now) k t r i (later_callers sh m.sources.now (callers_of (graph_of m.sources.now) x))) in
    ap (λ (r : Results (List Region)). Some (outs r))
    (made ∙ (ap (outs_from m.graph.now k own found taken) above ∙ ap (λ (g : Graph). outs_from g k own found taken (later_callers sh m.sources.now (callers_of g x))) c.requires))
    ∙ (λ i. option_and_then (λ t. option_and_then (λ r. option_map (f t r) (read i)) (there i)) (kept i))
