use Rattle.std.proofs.Common.{◌≡◌, true}
use Rattle.std.proofs.lemmas.Result.{IfOk-weaker}
use Rattle.f77_ast.specs.Index.{names_of}
use Rattle.pipsmake_rules.specs.Kinds.{same_kind}
use Rattle.base_values.specs.Words.{result_with}
use Rattle.base_values.specs.Fits.{PiecesFit, RegionFits}
use Rattle.base_takes.proofs.check_regions.RegionCheckKindScope.check.Goals as goal

pub returns : goal.returns
returns c =
    let s = c.args.scope.now in
    let names = names_of s.symbols.now in
    let r = c.args.self.now in
    let named : c.variable_fits-named.result ≡ true = cc in
    let here : same_kind (result_with r.kind) s.kind ≡ true = cc in
    IfOk-weaker c.pieces_fit.result (λ b. b ≡ true → PiecesFit names r.pieces) (λ b. b ≡ true → RegionFits names s.kind r) (λ b f e. (c.variable_fits-named.ensures named, here, f e)) c.pieces_fit.ensures
