use Rattle.std.proofs.Common.{◌≡◌, true}
use Rattle.std.proofs.lemmas.Result.{IfOk-weaker}
use Rattle.f77_ast.specs.Index.{names_of}
use Rattle.base_json.specs.Scopes.{cells_alone, with_phi}
use Rattle.base_values.specs.Naming.{Each, SystemFits}
use Rattle.base_values.specs.Read.{are_few}
use Rattle.base_values.specs.Fits.{PiecesFit}
use Rattle.base_takes.proofs.check_regions.pieces_fit.Goals as goal

pub returns : goal.returns
returns c =
    let names = names_of c.args.symbols.now in
    let ps = c.args.pieces.now in
    let few : are_few ps ≡ true = cc in
    IfOk-weaker c.check_list.result (λ b. b ≡ true → Each (SystemFits (with_phi (cells_alone names))) ps) (λ b. b ≡ true → PiecesFit names ps) (λ b f e. (f e, few)) c.check_list.ensures
