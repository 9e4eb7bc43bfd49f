use Rattle.std.proofs.Common.{◌≡◌, List, true, subst}
use Rattle.std.specs.Prelude.{IfOk}
use Rattle.base_values.specs.Naming.{Each}
use Rattle.base_takes.proofs.check.check_list.Goals as goal

pub returns : goal.returns
returns g c = subst (λ (xs : List _). IfOk c.check_each.result (λ b. b ≡ true → Each (g.T.Check.fits c.args.scope.now) xs)) c.as_slice.ensures c.check_each.ensures
