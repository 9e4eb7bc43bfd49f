use Rattle.std.proofs.Common.{List, Some, ap, ◌∙◌}
use Rattle.std.specs.Prelude.{option_map}
use Rattle.call_graph.specs.declared.graph.Graph.{Graph}
use Rattle.call_graph.specs.declared.view.View.{View}
use Rattle.f77_ast.specs.declared.results.At.{At}
use Rattle.f77_ast.specs.declared.marks.Mark.{Mark}
use Rattle.loop_marker.specs.module_phases.ScalarViews.{known_in}
use Rattle.session_texts.specs.pipsmake_meaning.Texts.{graph_of}
use Rattle.session_texts.specs.pipsmake_meaning.Rules.{known, effects_kept, transformers_kept, preconditions_kept, regions_kept, ins_kept, outs_kept}
use Rattle.session_texts.specs.pipsmake_meaning.Values.{Value, marks}
use Rattle.result_store.specs.Rows.{memo_cells_of}
use Rattle.result_making.specs.Parts.{Needed, own_tree, needed_tree, marks_from}
use Rattle.result_making.proofs.Several.{marks_by}
use Rattle.result_making.proofs.marked.marks_value.Goals as goal

pub returns-in_default-clause-value : goal.returns-in_default-clause-value
returns-in_default-clause-value c =
    let sh = memo_cells_of c.args.store.now in
    let x = c.args.name.now in
    let f : Needed → Value = λ n. marks (marks_from (graph_of c.args.modules.now.sources.now).untracked (known (own_tree c.args.own.now)) n) in
    ap (option_map f) c.in_default.ensures.kept
    ∙ marks_by f (effects_kept sh x) (transformers_kept sh x) (preconditions_kept sh x) (regions_kept sh x) (ins_kept sh x) (outs_kept sh x)

pub returns-clause-value : goal.returns-clause-value
returns-clause-value c =
    let sh = memo_cells_of c.args.store.now in
    let x = c.args.name.now in
    let k = known (own_tree c.args.own.now) in
    let n = needed_tree c.in-Some.analysis in
    let f : Needed → Value = λ n. marks (marks_from (graph_of c.args.modules.now.sources.now).untracked k n) in
    ap (λ (ms : List (At Mark)). Some (marks ms)) (c.in_ok-made.ensures ∙ ap (λ (v : View). marks_from v.graph.now.untracked (known_in v) n) c.in-Some.ensures.view ∙ ap (λ (g : Graph). marks_from g.untracked k n) c.requires)
    ∙ (ap (option_map f) c.in-Some.ensures.kept
    ∙ marks_by f (effects_kept sh x) (transformers_kept sh x) (preconditions_kept sh x) (regions_kept sh x) (ins_kept sh x) (outs_kept sh x))
