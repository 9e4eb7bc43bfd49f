use Rattle.std.proofs.Common.{◌≡◌, true, subst}
use Rattle.std.proofs.lemmas.Result.{IfOk-weaker}
use Rattle.f77_ast.specs.Index.{names_of}
use Rattle.base_json.specs.Scopes.{cells_alone, with_exits}
use Rattle.base_values.specs.Naming.{SystemFits}
use Rattle.base_values.specs.Fits.{TransformerFits}
use Rattle.base_takes.proofs.check_values.TransformerCheckKindScope.check.Goals as goal

pub returns : goal.returns
returns c =
    let names = names_of c.args.scope.now.symbols.now in
    let t = c.args.self.now in
    let cells : c.in_ok-are_cells.are_cells ≡ true = cc in
    let units : c.in_ok-are_units.are_units ≡ true = cc in
    IfOk-weaker c.exit_system_fits.result (λ b. b ≡ true → SystemFits (with_exits c.as_slice.result.now (cells_alone names)) t.system) (λ b. b ≡ true → TransformerFits names t)
    (λ b f e. (c.in_ok-are_cells.ensures cells, c.in_ok-are_units.ensures units, subst (λ ns. SystemFits (with_exits ns (cells_alone names)) t.system) c.as_slice.ensures (f e))) c.exit_system_fits.ensures
