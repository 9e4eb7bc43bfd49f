use Rattle.std.proofs.Common.{◌≡◌, IfOk, subst}
use Rattle.affine_systems.specs.declared.row.System.{System}
use Rattle.preconditions.specs.Known.{scope_in}
use Rattle.preconditions.proofs.WhileLaws.{done_made}
use Rattle.preconditions.proofs.statement.while_done.Goals as goal

pub returns-clause-defined : goal.returns-clause-defined
returns-clause-defined c =
    subst (λ (x : System). IfOk c.hull.result (λ r. r ≡ x))
    (done_made c.args.arm.now (scope_in c.args.known.now) c.args.p.now c.args.q.now c.in_ok-none.none c.in_ok-some.some c.in_ok-none.ensures.defined c.in_ok-some.ensures.defined)
    c.hull.ensures.defined
