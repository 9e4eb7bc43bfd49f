use Rattle.std.proofs.Common.{◌≡◌, ◌∙◌, List, ap, sym, subst}
use Rattle.std.proofs.lemmas.Result.{IfOk-weaker}
use Rattle.affine_systems.specs.declared.row.System.{System}
use Rattle.hull_projection.specs.Variables.{in_order, row_vars}
use Rattle.hull_projection.specs.Fresh.{fresh_after}
use Rattle.hull_projection.specs.Closure.{AreOrdered, closure_of}
use Rattle.hull_projection.specs.Laws.{ContainsIterations}
use Rattle.hull_projection.proofs.GivenLaws.{ordered_cells}
use Rattle.hull_projection.proofs.ClosureLaws.{closure_holds}
use Rattle.affine_systems.specs.declared.row.Var.{Var}
use Rattle.hull_projection.proofs.closing.closure.Goals as goal

pub ordered_closure-requires-clause-cells : goal.ordered_closure-requires-clause-cells
ordered_closure-requires-clause-cells c =
    let e : c.as_slice-2.result.now ≡ in_order c.args.changes.now = c.as_slice-2.ensures.value ∙ (c.in_ok-cells.ensures ∙ ap in_order c.as_slice.ensures) in
    subst AreOrdered (sym e) (ordered_cells c.args.changes.now c.requires.cells)

pub returns-clause-sound : goal.returns-clause-sound
returns-clause-sound c =
    let e : c.as_slice-2.result.now ≡ in_order c.args.changes.now = c.as_slice-2.ensures.value ∙ (c.in_ok-cells.ensures ∙ ap in_order c.as_slice.ensures) in
    let t = c.args.body.now in
    let n = fresh_after (row_vars t.rows) in
    IfOk-weaker c.ordered_closure.result (λ (s : System). s ≡ closure_of n c.as_slice-2.result.now t) (ContainsIterations t)
    (λ s f. subst (ContainsIterations t) (sym (f ∙ ap (λ (cs : List Var). closure_of n cs t) e)) (closure_holds c.args.changes.now t c.requires.cells)) c.ordered_closure.ensures.defined
