use Rattle.std.proofs.Common.{◌≡◌, true}
use Rattle.std.proofs.lemmas.Result.{IfOk-weaker}
use Rattle.f77_ast.specs.Index.{names_of}
use Rattle.base_values.specs.Read.{are_apart}
use Rattle.base_values.specs.Fits.{RegionsFit}
use Rattle.base_takes.proofs.check_regions.RegionSetCheckKindScope.check.Goals as goal

pub returns : goal.returns
returns c =
    let s = c.args.scope.now in
    let names = names_of s.symbols.now in
    let rs = c.args.self.now in
    let fit : c.in_ok-fit.fit ≡ true = cc in
    IfOk-weaker c.are_apart.result (λ b. b ≡ are_apart names c.as_slice.result.now) (λ b. b ≡ true → RegionsFit names s.kind rs)
    (λ b e t. let apart : are_apart names rs ≡ true = cc in (c.in_ok-fit.ensures fit, apart)) c.are_apart.ensures
