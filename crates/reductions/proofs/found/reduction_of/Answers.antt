use Rattle.std.proofs.Common.{◌≡◌, List, [], Option, ap, subst, ◌∙◌}
use Rattle.std.specs.Prelude.{IfOk}
use Rattle.f77_ast.specs.PlainStmt.{loop_tree}
use Rattle.f77_ast.specs.Variables.{union}
use Rattle.f77_ast.specs.declared.variable.Variable.{Variable}
use Rattle.loop_marker.specs.privatizer.Views.{uses_tree}
use Rattle.loop_marker.specs.Known.{known_module}
use Rattle.loop_marker.specs.Marks.{verdict_of}
use Rattle.loop_marker.specs.Variables.{written_in}
use Rattle.result_lines.specs.declared.reduction.Reduction.{Reduction}
use Rattle.reductions.specs.Reduced.{reduction_from, reduction_by, reduction_of}
use Rattle.reductions.proofs.found.reduction_of.Goals as goal

pub returns : goal.returns
returns c =
    let k = known_module c.args.a.now in
    let ms = c.args.a.now.view.now.graph.now.order in
    let l = loop_tree c.args.l.now in
    let b = c.in_ok-body_of.field-0 in
    let i = c.in_ok-inner_in.field-0 in
    let f = verdict_of k b (uses_tree c.in_ok-uses_of.field-0) l i in
    let body = c.in_ok-body_of.ensures.defined in
    let uses = c.in_ok-uses_of.ensures.defined in
    let inner = c.in_ok-inner_in.ensures in
    let all : c.as_slice-2.result.now ≡ union i (written_in b.regions) =
    c.as_slice-2.ensures ∙ (c.in_ok-variables.ensures ∙ ap (union i) (c.in_ok-written.ensures ∙ ap written_in c.as_slice.ensures)) in
    let made : reduction_from k ms l f [] [] (union i (written_in b.regions)) ≡ reduction_of k ms c.args.at l = λ t. reduction_by k ms (body t) (uses t) l (inner t) in
    subst (λ (r : Option Reduction). IfOk c.by_variables.result (λ x. x ≡ r))
    (ap (λ (vs : List Variable). reduction_from k ms l f [] [] vs) all ∙ made) c.by_variables.ensures
