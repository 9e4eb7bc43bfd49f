use Rattle.std.proofs.Common.{◌≡◌, IfOk, subst}
use Rattle.affine_systems.specs.declared.row.System.{System}
use Rattle.preconditions.proofs.Steps.{hulls_are}
use Rattle.preconditions.proofs.statement.some_holds.Goals as goal

pub returns-in_ok-first-in-len1-up-clause-defined : goal.returns-in_ok-first-in-len1-up-clause-defined
returns-in_ok-first-in-len1-up-clause-defined c =
    subst (λ (x : System). IfOk c.hull_with.result (λ q. q ≡ x))
    (hulls_are c.args.all.now c.first-item.result c.in_ok-first-in-len1-up.first c.in-len1-up.len_at_least c.first-item.is c.in_ok-first-in-len1-up.ensures.defined)
    c.hull_with.ensures.defined
