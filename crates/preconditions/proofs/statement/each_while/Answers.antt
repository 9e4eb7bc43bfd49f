use Rattle.std.proofs.Common.{◌≡◌, IfOk, subst, ◌∙◌}
use Rattle.affine_systems.specs.declared.row.System.{System}
use Rattle.preconditions.specs.Known.{scope_in, found_in}
use Rattle.preconditions.proofs.WhileLaws.{each_made}
use Rattle.preconditions.proofs.statement.each_while.Goals as goal

pub returns-clause-defined : goal.returns-clause-defined
returns-clause-defined c =
    subst (λ (x : System). IfOk c.clean.result (λ q. q ≡ x))
    (each_made c.args.arm.now (scope_in c.args.known.now) (found_in c.args.known.now) c.as_slice.result.now c.in_ok-once.once c.in_ok-any.any c.args.p.now c.in_ok-each.each
    (c.as_slice.ensures.value ∙ c.in_ok-all.ensures.defined) c.in_ok-once.ensures.defined c.in_ok-any.ensures.defined c.in_ok-each.ensures.defined)
    c.clean.ensures.defined
