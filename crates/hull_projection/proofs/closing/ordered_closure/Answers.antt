use Rattle.std.proofs.Common.{◌≡◌, ◌∙◌, ap}
use Rattle.std.proofs.lemmas.Result.{IfOk-weaker}
use Rattle.affine_systems.specs.declared.row.System.{System}
use Rattle.hull_projection.specs.Variables.{row_vars}
use Rattle.hull_projection.specs.Fresh.{fresh_after}
use Rattle.hull_projection.specs.Closure.{iterations_of, closure_of}
use Rattle.hull_projection.proofs.closing.ordered_closure.Goals as goal

pub returns-clause-defined : goal.returns-clause-defined
returns-clause-defined c =
    let n = c.in_ok-first.first in
    let cs = c.args.cells.now in
    let t = c.args.body.now in
    let e = c.in_ok-first.ensures.defined ∙ ap fresh_after (c.as_slice-2.ensures.value ∙ (c.in_ok-vars.ensures ∙ ap row_vars c.as_slice.ensures)) in
    IfOk-weaker c.any_iterations.result (λ (s : System). s ≡ iterations_of n cs c.in_ok-once.once) (λ (s : System). s ≡ closure_of (fresh_after (row_vars t.rows)) cs t)
    (λ s f. f ∙ (ap (iterations_of n cs) c.in_ok-once.ensures.defined ∙ ap (λ m. closure_of m cs t) e)) c.any_iterations.ensures.defined
