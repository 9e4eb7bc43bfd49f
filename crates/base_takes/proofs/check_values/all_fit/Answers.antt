use Rattle.std.proofs.Common.{◌≡◌, true, map, sym, ap, ◌∙◌}
use Rattle.std.proofs.lemmas.Result.{IfOk-weaker}
use Rattle.f77_ast.specs.declared.results.At.{At}
use Rattle.base_values.specs.Naming.{Each}
use Rattle.base_values.specs.Fits.{AllFit}
use Rattle.base_takes.proofs.check_values.all_fit.Goals as goal

pub returns : goal.returns
returns g c =
    let P = g.T.Check.fits c.args.scope.now in
    let ids = c.args.ids.now in
    let at = c.args.at.now in
    let same : c.are_at-same.result ≡ true = cc in
    let numbers : map (λ (a : At _). a.id) at ≡ ids = ap (map (λ (a : At _). a.id)) (sym c.as_slice-2.ensures) ∙ (c.are_at-same.ensures same ∙ c.as_slice.ensures) in
    IfOk-weaker c.check_list.result (λ b. b ≡ true → Each (λ (a : At _). P a.value) at) (λ b. b ≡ true → AllFit P ids at) (λ b f e. (numbers, f e)) c.check_list.ensures
