use Rattle.std.proofs.Common.{sym, subst}
use Rattle.affine_systems.specs.Given.{Fits}
use Rattle.preconditions.proofs.Copies.{system_same}
use Rattle.preconditions.proofs.statement.copy_system.Goals as goal

pub returns : goal.returns
returns c =
    let same = system_same c.args.s.now c.in_ok-clone.field-0 c.in_ok-clone.ensures.cases in
    record { defined = same; fits = subst Fits (sym same) c.requires }
