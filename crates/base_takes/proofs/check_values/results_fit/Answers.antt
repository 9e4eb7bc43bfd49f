use Rattle.std.proofs.Common.{◌≡◌, true}
use Rattle.std.proofs.lemmas.Result.{IfOk-weaker}
use Rattle.base_values.specs.Fits.{ResultsFit}
use Rattle.base_takes.proofs.check_values.results_fit.Goals as goal

pub returns : goal.returns
returns g c =
    let P = g.T.Check.fits c.args.scope.now in
    let fit : c.in_ok-fit.fit ≡ true = cc in
    IfOk-weaker c.check.result (λ b. b ≡ true → P c.args.results.now.summary) (λ b. b ≡ true → ResultsFit P c.args.ids.now c.args.results.now) (λ b f e. (c.in_ok-fit.ensures fit, f e)) c.check.ensures
