use Rattle.std.proofs.Common.{◌≡◌, true}
use Rattle.std.proofs.lemmas.Result.{IfOk-weaker}
use Rattle.f77_ast.specs.Index.{names_of}
use Rattle.base_values.specs.Naming.{Each, VariableFits}
use Rattle.base_values.specs.Fits.{EffectsFit}
use Rattle.base_takes.proofs.check_values.EffectSetCheckKindScope.check.Goals as goal

pub returns : goal.returns
returns c =
    let names = names_of c.args.scope.now.symbols.now in
    let effects = c.args.self.now in
    let fit : c.in_ok-fit.fit ≡ true = cc in
    IfOk-weaker c.check_list-2.result (λ b. b ≡ true → Each (VariableFits names) effects.writes) (λ b. b ≡ true → EffectsFit names effects) (λ b f e. (c.in_ok-fit.ensures fit, f e)) c.check_list-2.ensures
